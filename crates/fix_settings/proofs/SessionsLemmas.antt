-- Sections read one after another.
use Rattle.std.proofs.Common.{◌≡◌, ℕ, ◌+◌, ◌<◌, List, [], ◌∷◌, ◌++◌, length, map, take, drop, get_or, sym, ap, ◌∙◌, subst, add-one, drop-cons}
use Rattle.std.proofs.lemmas.List.{map-append}
use Rattle.std.proofs.Math.Seq.{take-suc}
use Rattle.fix_settings.specs.declared.session_settings.SessionSettings.{SessionSettings}
use Rattle.fix_settings.specs.declared.section.SectionRef.{SectionRef}
use Rattle.fix_settings.specs.declared.judging.EndpointsRef.{EndpointsRef}
use Rattle.fix_settings.specs.Lines.{Pair, Section}
use Rattle.fix_settings.specs.Lent.{section_read, party_read}
use Rattle.fix_settings.specs.Read.{IsGiven}
use Rattle.fix_settings.proofs.ReadLemmas.{SoFar, section_more}

abbrev views : List SectionRef → List Section
views sections = map section_read sections

pub sections_more : (of : List Pair) (sections : List SectionRef) (i : ℕ) (d : SectionRef) (sessions : List SessionSettings) (endpoint_list : List EndpointsRef) (s : SessionSettings) (p : EndpointsRef) → i < length sections → SoFar of (views sections) (views (take i sections)) (views (drop i sections)) sessions (map party_read endpoint_list) → IsGiven of (section_read (get_or sections i d)) s p → SoFar of (views sections) (views (take (i + 1) sections)) (views (drop (i + 1) sections)) (sessions ++ s ∷ []) (map party_read (endpoint_list ++ p ∷ []))
sections_more of sections i d sessions endpoint_list s p lt h g =
    let x = section_read (get_or sections i d) in
    let behind : views (drop i sections) ≡ x ∷ views (drop (i + 1) sections) = rw add-one (ap views (drop-cons sections i d lt)) in
    let before : views (take (i + 1) sections) ≡ views (take i sections) ++ x ∷ [] = rw add-one (ap views (take-suc sections i d lt) ∙ map-append section_read (take i sections) (get_or sections i d ∷ [])) in
    let at : SoFar of (views sections) (views (take i sections)) (x ∷ views (drop (i + 1) sections)) sessions (map party_read endpoint_list) = subst (λ r. SoFar of (views sections) (views (take i sections)) r sessions (map party_read endpoint_list)) behind h in
    let m = section_more of (views sections) (views (take i sections)) (views (drop (i + 1) sections)) x sessions (map party_read endpoint_list) s (party_read p) at g.right g.settings g.party_is in
    let n : SoFar of (views sections) (views (take (i + 1) sections)) (views (drop (i + 1) sections)) (sessions ++ s ∷ []) (map party_read endpoint_list ++ party_read p ∷ []) = subst (λ r. SoFar of (views sections) r (views (drop (i + 1) sections)) (sessions ++ s ∷ []) (map party_read endpoint_list ++ party_read p ∷ [])) (sym before) m in
    subst (λ r. SoFar of (views sections) (views (take (i + 1) sections)) (views (drop (i + 1) sections)) (sessions ++ s ∷ []) r) (sym (map-append party_read endpoint_list (p ∷ []))) n
