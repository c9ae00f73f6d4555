use Rattle.std.proofs.Common.{sym}
use Rattle.fix_settings.proofs.FormLemmas.{piece_cut, pieces_more, pieces_end}
use Rattle.fix_settings.proofs.making.pieces.Goals as goal

pub loop-piece-smaller : goal.loop-piece-smaller
loop-piece-smaller c = let p = piece_cut c.loop-piece.rest.now c.in-Some.piece.now c.in-Some.behind.now (sym c.in-Some.ensures) in p.shorter

pub loop-piece-preserved : goal.loop-piece-preserved
loop-piece-preserved c = rw (c.in_ok-push.ensures.items, c.in_ok-bytes.ensures) (pieces_more c.loop-piece.made.items c.loop-piece.rest.now c.in-Some.piece.now c.in-Some.behind.now _ (piece_cut c.loop-piece.rest.now c.in-Some.piece.now c.in-Some.behind.now (sym c.in-Some.ensures)) c.loop-piece.invariant)

pub returns : goal.returns
returns c = rw (c.in_ok-push-2.ensures.items, c.in_ok-bytes-2.ensures) (pieces_end c.loop-piece.made.items c.loop-piece.rest.now _ (sym c.in_default.ensures) c.loop-piece.invariant)
