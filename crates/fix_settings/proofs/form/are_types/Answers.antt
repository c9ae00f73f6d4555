use Rattle.std.proofs.Common.{sym}
use Rattle.fix_settings.proofs.FormLemmas.{piece_cut, types_fail, types_more, types_end}
use Rattle.fix_settings.proofs.form.are_types.Goals as goal

pub returns-then-not-is_type : goal.returns-then-not-is_type
returns-then-not-is_type c = types_fail c.loop-piece.rest.now c.args.text.now c.in-Some.piece.now c.in-Some.behind.now (piece_cut c.loop-piece.rest.now c.in-Some.piece.now c.in-Some.behind.now (sym c.in-Some.ensures)) c.if-not-is_type.ensures c.loop-piece.invariant

pub loop-piece-smaller : goal.loop-piece-smaller
loop-piece-smaller c = let p = piece_cut c.loop-piece.rest.now c.in-Some.piece.now c.in-Some.behind.now (sym c.in-Some.ensures) in p.shorter

pub loop-piece-preserved : goal.loop-piece-preserved
loop-piece-preserved c = types_more c.loop-piece.rest.now c.args.text.now c.in-Some.piece.now c.in-Some.behind.now (piece_cut c.loop-piece.rest.now c.in-Some.piece.now c.in-Some.behind.now (sym c.in-Some.ensures)) c.if-not-is_type.ensures c.loop-piece.invariant

pub returns : goal.returns
returns c = types_end c.loop-piece.rest.now c.args.text.now c.is_type-2.result (sym c.in_default.ensures) c.is_type-2.ensures c.loop-piece.invariant
