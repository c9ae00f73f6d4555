-- The acts of a run on a connection whose pieces are known, one part after another.
use Rattle.std.proofs.Common.{◌≡◌, ℕ, ◌+◌, ◌≤◌, ◌<◌, List, [], ◌∷◌, ◌++◌, length, refl, sym, ap, subst, ◌∙◌, append_assoc, arith}
use Rattle.std.proofs.lemmas.List.{length-append}
use Rattle.fix_base.specs.declared.act.Act.{Act}
use Rattle.fix_base.specs.declared.act.Act.TheVariants as act
use Rattle.fix_base.specs.Says.{joined}
use Rattle.fix_base.specs.Trace.{Note, acts_of}
use Rattle.fix_base.proofs.SeenLemmas.{acts_of-append}
use Rattle.fix_base.specs.Parts.{left_before}
use Rattle.fix_engine.specs.InStep.{bytes_written}
use Rattle.fix_engine.specs.Counts.{reads_in}
use Rattle.fix_top.specs.Sample.{LooksAt, ReadsPieces, handed_in}

bytes_written-append : (xs ys : List Act) → bytes_written (xs ++ ys) ≡ bytes_written xs ++ bytes_written ys
bytes_written-append [] ys = refl
bytes_written-append (act.Wrote b ∷ xs) ys = ap (λ (w : List ℕ). b ++ w) (bytes_written-append xs ys) ∙ sym (append_assoc b (bytes_written xs) (bytes_written ys))
bytes_written-append (act.Read b ∷ xs) ys = bytes_written-append xs ys
bytes_written-append (act.Idle ∷ xs) ys = bytes_written-append xs ys
bytes_written-append (act.Ended ∷ xs) ys = bytes_written-append xs ys
bytes_written-append (act.Opened ∷ xs) ys = bytes_written-append xs ys
bytes_written-append (act.Now t ∷ xs) ys = bytes_written-append xs ys
bytes_written-append (act.Kept r ∷ xs) ys = bytes_written-append xs ys
bytes_written-append (act.KeepLost r ∷ xs) ys = bytes_written-append xs ys
bytes_written-append (act.Handed n marked body ∷ xs) ys = bytes_written-append xs ys
bytes_written-append (act.HandLost n marked body ∷ xs) ys = bytes_written-append xs ys
bytes_written-append (act.Cut ∷ xs) ys = bytes_written-append xs ys
bytes_written-append (act.Withheld n ∷ xs) ys = bytes_written-append xs ys
bytes_written-append (act.Allowed n ∷ xs) ys = bytes_written-append xs ys
bytes_written-append (act.Stop ∷ xs) ys = bytes_written-append xs ys

handed_in-append : (xs ys : List Act) → handed_in (xs ++ ys) ≡ handed_in xs ++ handed_in ys
handed_in-append [] ys = refl
handed_in-append (act.Handed n marked body ∷ xs) ys = ap (λ (w : List Act). act.Handed n marked body ∷ w) (handed_in-append xs ys)
handed_in-append (act.Wrote b ∷ xs) ys = handed_in-append xs ys
handed_in-append (act.Read b ∷ xs) ys = handed_in-append xs ys
handed_in-append (act.Idle ∷ xs) ys = handed_in-append xs ys
handed_in-append (act.Ended ∷ xs) ys = handed_in-append xs ys
handed_in-append (act.Opened ∷ xs) ys = handed_in-append xs ys
handed_in-append (act.Now t ∷ xs) ys = handed_in-append xs ys
handed_in-append (act.Kept r ∷ xs) ys = handed_in-append xs ys
handed_in-append (act.KeepLost r ∷ xs) ys = handed_in-append xs ys
handed_in-append (act.HandLost n marked body ∷ xs) ys = ap (λ (w : List Act). act.HandLost n marked body ∷ w) (handed_in-append xs ys)
handed_in-append (act.Cut ∷ xs) ys = handed_in-append xs ys
handed_in-append (act.Withheld n ∷ xs) ys = handed_in-append xs ys
handed_in-append (act.Allowed n ∷ xs) ys = handed_in-append xs ys
handed_in-append (act.Stop ∷ xs) ys = handed_in-append xs ys

-- each look of a front, and of what follows it
looks_both : (t : ℕ) (xs ys : List Act) → LooksAt t (xs ++ ys) → LooksAt t xs × LooksAt t ys
looks_both t [] ys h = (tt, h)
looks_both t (act.Now u ∷ xs) ys h = let k = looks_both t xs ys h.1 in ((h.0, k.0), k.1)
looks_both t (act.Wrote b ∷ xs) ys h = looks_both t xs ys h
looks_both t (act.Read b ∷ xs) ys h = looks_both t xs ys h
looks_both t (act.Idle ∷ xs) ys h = looks_both t xs ys h
looks_both t (act.Ended ∷ xs) ys h = looks_both t xs ys h
looks_both t (act.Opened ∷ xs) ys h = looks_both t xs ys h
looks_both t (act.Kept r ∷ xs) ys h = looks_both t xs ys h
looks_both t (act.KeepLost r ∷ xs) ys h = looks_both t xs ys h
looks_both t (act.Handed n marked body ∷ xs) ys h = looks_both t xs ys h
looks_both t (act.HandLost n marked body ∷ xs) ys h = looks_both t xs ys h
looks_both t (act.Cut ∷ xs) ys h = looks_both t xs ys h
looks_both t (act.Withheld n ∷ xs) ys h = looks_both t xs ys h
looks_both t (act.Allowed n ∷ xs) ys h = looks_both t xs ys h
looks_both t (act.Stop ∷ xs) ys h = looks_both t xs ys h

pub looks_of : (t : ℕ) (xs ys : List Note) → LooksAt t (acts_of (xs ++ ys)) → LooksAt t (acts_of xs) × LooksAt t (acts_of ys)
looks_of t xs ys h = looks_both t (acts_of xs) (acts_of ys) (subst (LooksAt t) (acts_of-append xs ys) h)

-- acts without a read leave the pieces to come
pub reads_over : (pieces : List (List ℕ)) (xs ys : List Act) → reads_in xs ≡ 0 → ReadsPieces pieces (xs ++ ys) → ReadsPieces pieces ys
reads_over pieces [] ys none h = h
reads_over pieces (act.Read b ∷ xs) ys none h = absurd (omega (arith, none))
reads_over pieces (act.Idle ∷ xs) ys none h = absurd (omega (arith, none))
reads_over pieces (act.Ended ∷ xs) ys none h = absurd (omega (arith, none))
reads_over pieces (act.Now t ∷ xs) ys none h = reads_over pieces xs ys none h
reads_over pieces (act.Wrote b ∷ xs) ys none h = reads_over pieces xs ys none h
reads_over pieces (act.Opened ∷ xs) ys none h = reads_over pieces xs ys none h
reads_over pieces (act.Kept r ∷ xs) ys none h = reads_over pieces xs ys none h
reads_over pieces (act.KeepLost r ∷ xs) ys none h = reads_over pieces xs ys none h
reads_over pieces (act.Handed n marked body ∷ xs) ys none h = reads_over pieces xs ys none h
reads_over pieces (act.HandLost n marked body ∷ xs) ys none h = reads_over pieces xs ys none h
reads_over pieces (act.Cut ∷ xs) ys none h = reads_over pieces xs ys none h
reads_over pieces (act.Withheld n ∷ xs) ys none h = reads_over pieces xs ys none h
reads_over pieces (act.Allowed n ∷ xs) ys none h = reads_over pieces xs ys none h
reads_over pieces (act.Stop ∷ xs) ys none h = reads_over pieces xs ys none h

-- what was written, and handed over, with none lost at that where none is among these
pub record Tells (notes : List Note) (written : List ℕ) (handed : List Act) : Type 0 where
  pub wrote : bytes_written (acts_of notes) ≡ written
  pub gave : handed_in (acts_of notes) ≡ handed

pub tells-append : (xs ys : List Note) (v w : List ℕ) (g h : List Act) → Tells xs v g → Tells ys w h → Tells (xs ++ ys) (v ++ w) (g ++ h)
tells-append xs ys v w g h t u = record {
  wrote = ap bytes_written (acts_of-append xs ys) ∙ bytes_written-append (acts_of xs) (acts_of ys) ∙ ap (λ (z : List ℕ). z ++ bytes_written (acts_of ys)) t.wrote ∙ ap (λ (z : List ℕ). v ++ z) u.wrote;
  gave = ap handed_in (acts_of-append xs ys) ∙ handed_in-append (acts_of xs) (acts_of ys) ∙ ap (λ (z : List Act). z ++ handed_in (acts_of ys)) t.gave ∙ ap (λ (z : List Act). g ++ z) u.gave;
}

-- each look found this time, and the reads are those of these pieces, with these acts behind
pub record IsFair (t : ℕ) (pieces : List (List ℕ)) (notes : List Note) (behind : List Act) : Type 0 where
  pub looks : LooksAt t (acts_of notes)
  pub reads : ReadsPieces pieces (acts_of notes ++ behind)

pub fair_first : (t : ℕ) (pieces : List (List ℕ)) (xs ys : List Note) (behind : List Act) → IsFair t pieces (xs ++ ys) behind → IsFair t pieces xs (acts_of ys ++ behind)
fair_first t pieces xs ys behind h = record {
  looks = (looks_of t xs ys h.looks).0;
  reads = subst (ReadsPieces pieces) (ap (λ (z : List Act). z ++ behind) (acts_of-append xs ys) ∙ append_assoc (acts_of xs) (acts_of ys) behind) h.reads;
}

pub fair_then : (t : ℕ) (pieces later : List (List ℕ)) (xs ys : List Note) (behind : List Act) → IsFair t pieces (xs ++ ys) behind → ReadsPieces later (acts_of ys ++ behind) → IsFair t later ys behind
fair_then t pieces later xs ys behind h reads = record {
  looks = (looks_of t xs ys h.looks).1;
  reads = reads;
}

-- ---- how much is to come

abbrev pub to_come : List (List ℕ) → ℕ
to_come pieces = length pieces + length (joined pieces)

left_joined : (rest : List ℕ) (later : List (List ℕ)) → joined (left_before rest later) ≡ rest ++ joined later
left_joined [] later = refl
left_joined (x ∷ rest) later = refl

left_long : (rest : List ℕ) (later : List (List ℕ)) → length (left_before rest later) ≤ length later + 1
left_long [] later = omega arith
left_long (x ∷ rest) later = omega arith

-- a read takes from the bytes to come
pub read_takes : (pieces later : List (List ℕ)) (b rest : List ℕ) → pieces ≡ (b ++ rest) ∷ later → joined pieces ≡ b ++ joined (left_before rest later)
read_takes pieces later b rest e = ap joined e ∙ append_assoc b rest (joined later) ∙ ap (λ (z : List ℕ). b ++ z) (sym (left_joined rest later))

pub read_less : (pieces later : List (List ℕ)) (b rest : List ℕ) → 0 < length b → pieces ≡ (b ++ rest) ∷ later → to_come (left_before rest later) < to_come pieces
read_less pieces later b rest some e =
    omega (arith, ap length (read_takes pieces later b rest e), length-append b (joined (left_before rest later)), left_long rest later, ap length e, some)

pub idle_less : (pieces later : List (List ℕ)) → pieces ≡ [] ∷ later → to_come later < to_come pieces
idle_less pieces later e = omega (arith, ap length e, ap (λ (z : List (List ℕ)). length (joined z)) e)
