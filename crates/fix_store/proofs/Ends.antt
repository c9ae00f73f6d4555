-- A file has one end, or one first place at which it breaks.
use Rattle.std.proofs.Common.{◌≡◌, inl, inr, ℕ, List, ◌∷◌, ◌++◌, length, sym, ◌∙◌, ap}
use Rattle.std.specs.Prelude.{map}
use Rattle.fix_base.specs.End.{End}
use Rattle.fix_journal.specs.Format.{front}
use Rattle.fix_journal.proofs.Meaning.{one_list_of_records, not_both, one_first_place}
use Rattle.fix_journal.proofs.PayloadLemmas.{computed}
use Rattle.fix_store.specs.Spelling.{Item, spelled_item}
use Rattle.fix_store.specs.Reading.{new_content, taken_all, IsStoreOf, HasEnd, IsBrokenAt}
use Rattle.fix_store.specs.Ends.{item_in, content_in, end_in}
use Rattle.fix_store.proofs.RecordLists.{backs, one_list, never_bad, one_bad}

pub one_store : (file : List ℕ) (xs ys : List Item) → IsStoreOf file xs → IsStoreOf file ys → xs ≡ ys
one_store file xs ys s t = one_list new_content new_content xs ys s.each t.each (one_list_of_records file (map spelled_item xs) (map spelled_item ys) s.is t.is)

pub one_end : (file : List ℕ) (e f : End) → HasEnd file e → HasEnd file f → e ≡ f
one_end file e f h k = h.folds ∙ ap (λ items. (taken_all new_content items).end) (one_store file h.items k.items h.is k.is) ∙ sym k.folds

-- what it comes to
pub content_is : (file : List ℕ) (items : List Item) → IsStoreOf file items → content_in file ≡ taken_all new_content items
content_is file items is =
    ap (λ ps. taken_all new_content (map item_in ps)) (computed file (map spelled_item items) is.is)
    ∙ ap (taken_all new_content) (backs new_content items is.each)

pub end_is : (file : List ℕ) (e : End) → HasEnd file e → end_in file ≡ e
end_is file e h = ap (λ s. s.end) (content_is file h.items h.is) ∙ sym h.folds

pub not_broken : (file : List ℕ) (e : End) (place : ℕ) → HasEnd file e → IsBrokenAt file place → ⊥
not_broken file e place h (inl damaged) = not_both file (map spelled_item h.items) place h.is.is damaged
not_broken file e place h (inr bad) =
    never_bad new_content h.items bad.items bad.payload bad.later h.is.each bad.each bad.none
    (one_list_of_records file (map spelled_item h.items) (map spelled_item bad.items ++ bad.payload ∷ bad.later) h.is.is bad.is)

pub one_break : (file : List ℕ) (p q : ℕ) → IsBrokenAt file p → IsBrokenAt file q → p ≡ q
one_break file p q (inl a) (inl b) = one_first_place file p q a b
one_break file p q (inl a) (inr b) = absurd (not_both file (map spelled_item b.items ++ b.payload ∷ b.later) p b.is a)
one_break file p q (inr a) (inl b) = absurd (not_both file (map spelled_item a.items ++ a.payload ∷ a.later) q a.is b)
one_break file p q (inr a) (inr b) =
    let same = one_bad new_content a.items b.items a.payload b.payload a.later b.later a.each b.each a.none b.none
    (one_list_of_records file (map spelled_item a.items ++ a.payload ∷ a.later) (map spelled_item b.items ++ b.payload ∷ b.later) a.is b.is) in
    a.at ∙ ap (λ items. length (front (map spelled_item items))) same ∙ sym b.at
