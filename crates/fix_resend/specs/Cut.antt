-- What answers a ResendRequest: repeats of the messages that come again, and gap fills over the rest
-- (FIX, "Resend Request").
use Rattle.std.specs.Prelude.{ℕ, suc, ◌+◌, ◌-◌, ◌==◌, ◌||◌, not, List, [], ◌∷◌, ◌++◌, slice_range, replicate, Bool}
use Rattle.std.specs.Prelude.{true, false}
use Rattle.fix_base.specs.declared.entry.Entry.{Entry}
use Rattle.fix_base.specs.declared.entry.Entry.TheVariants.{App, Admin}
pub use Rattle.fix_resend.specs.declared.out.Out.{Out}
pub use Rattle.fix_resend.specs.declared.out.Out.TheVariants.{Repeat, Gap}

-- ---- by truth values: whether each message comes again

-- one number more in front is passed over: by the gap fill that stands there, or by one of its own
abbrev pub gap_before : ℕ → List Out → List Out
gap_before n [] = Gap n (suc n) ∷ []
gap_before n (Gap from next ∷ outs) = Gap n next ∷ outs
gap_before n (Repeat k ∷ outs) = Gap n (suc n) ∷ Repeat k ∷ outs

-- the numbers from n on, one for each truth value, cut into single messages that come again and the longest
-- runs of others
abbrev pub cut_from : ℕ → List Bool → List Out
cut_from n [] = []
cut_from n (true ∷ apps) = Repeat n ∷ cut_from (suc n) apps
cut_from n (false ∷ apps) = gap_before n (cut_from (suc n) apps)

-- ---- by entries

-- the number is one of these
abbrev pub is_one : ℕ → List ℕ → Bool
is_one n [] = false
is_one n (k ∷ ks) = n == k || is_one n ks

-- whether each entry, of which the first has this number, comes again: an App entry that isn't withheld does
abbrev pub coming_again : List ℕ → ℕ → List Entry → List Bool
coming_again withheld n [] = []
coming_again withheld n (App time by body ∷ out) = not (is_one n withheld) ∷ coming_again withheld (suc n) out
coming_again withheld n (Admin time kind about ∷ out) = false ∷ coming_again withheld (suc n) out

-- what answers a ResendRequest with these BeginSeqNo (7) and EndSeqNo (16)
abbrev pub resend_list : List Entry → List ℕ → ℕ → ℕ → List Out
resend_list out withheld a b = cut_from a (coming_again withheld a (slice_range out (a - 1) b))

-- ---- in plain words

-- no message is passed over at the front
pub data BeginsAgain : List Bool → Type 0 where
  ends : BeginsAgain []
  again : (apps : List Bool) → BeginsAgain (true ∷ apps)

-- each message that comes again has one repeat, and each run of others, as long as it is, one gap fill
pub data IsCut : ℕ → List Bool → List Out → Type 0 where
  nothing : (n : ℕ) → IsCut n [] []
  repeat : {apps : List Bool} {outs : List Out} (n : ℕ) → IsCut (suc n) apps outs
      → IsCut n (true ∷ apps) (Repeat n ∷ outs)
  gap : {apps : List Bool} {outs : List Out} (n more : ℕ) → BeginsAgain apps → IsCut (n + suc more) apps outs
      → IsCut n (replicate (suc more) false ++ apps) (Gap n (n + suc more) ∷ outs)
