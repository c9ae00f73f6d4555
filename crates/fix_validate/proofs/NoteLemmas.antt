-- What a note says of a tag is what the dictionary says.
use Rattle.std.proofs.Common.{◌≡◌, ℕ, Bool, true, false, ◌||◌, refl, sym, ap, ◌∙◌}
use Rattle.fix_fields.specs.Shapes.{Shapes}
use Rattle.fix_fields.specs.NoTwice.{has_tag}
use Rattle.fix_groups.specs.Joined.{joined}
use Rattle.fix_groups.proofs.JoinedLemmas.{has_tag-joined}
use Rattle.fix_dict.specs.Dictionary.{DictionarySeen, note_in}
use Rattle.fix_dict.specs.Notes.{standing_of, is_any, is_own}
use Rattle.fix_dict.specs.declared.note.TagNote.{TagNote}
use Rattle.fix_dict.specs.declared.noted.Role.{Role}
use Rattle.fix_dict.specs.declared.noted.Role.TheVariants.{Absent, Plain, Grouped}
use Rattle.fix_dict.specs.Roles.{role_of, is_known}
use Rattle.fix_dict.proofs.RoleLemmas.{known_is}
use Rattle.fix_base.specs.Tags.{is_header_tag, is_trailer_tag}
use Rattle.fix_validate.specs.Table.{is_header, is_trailer}
use Rattle.fix_validate.specs.Checks.{whole}

or_true : (a : Bool) → (a || true) ≡ true
or_true true = refl
or_true false = refl

or_last : (a : Bool) → (a || false) ≡ a
or_last true = refl
or_last false = refl

whole_has : (dictionary : DictionarySeen) (message : Shapes) (tag : ℕ) → has_tag tag (whole dictionary message) ≡ (has_tag tag dictionary.header || (has_tag tag message || has_tag tag dictionary.trailer))
whole_has dictionary message tag =
    has_tag-joined tag dictionary.header (joined message dictionary.trailer)
    ∙ ap (λ b. has_tag tag dictionary.header || b) (has_tag-joined tag message dictionary.trailer)

pub in_header : (dictionary : DictionarySeen) (message : Shapes) (tag : ℕ) → has_tag tag dictionary.header ≡ true → true ≡ has_tag tag (whole dictionary message)
in_header dictionary message tag h =
    sym (whole_has dictionary message tag ∙ ap (λ b. b || (has_tag tag message || has_tag tag dictionary.trailer)) h)

pub in_trailer : (dictionary : DictionarySeen) (message : Shapes) (tag : ℕ) → has_tag tag dictionary.trailer ≡ true → true ≡ has_tag tag (whole dictionary message)
in_trailer dictionary message tag h =
    sym (whole_has dictionary message tag ∙ ap (λ b. has_tag tag dictionary.header || (has_tag tag message || b)) h
    ∙ ap (λ b. has_tag tag dictionary.header || b) (or_true (has_tag tag message)) ∙ or_true (has_tag tag dictionary.header))

pub in_message : (dictionary : DictionarySeen) (message : Shapes) (tag : ℕ) (r : Bool) → has_tag tag dictionary.header ≡ false → has_tag tag dictionary.trailer ≡ false → r ≡ has_tag tag message → r ≡ has_tag tag (whole dictionary message)
in_message dictionary message tag r h t is =
    is ∙ sym (whole_has dictionary message tag ∙ ap (λ b. b || (has_tag tag message || has_tag tag dictionary.trailer)) h
    ∙ ap (λ b. has_tag tag message || b) t ∙ or_last (has_tag tag message))

own_is : (role : Role) (standard : Bool) → is_own (standing_of role standard) ≡ is_known role
own_is Grouped standard = refl
own_is Plain standard = refl
own_is Absent true = refl
own_is Absent false = refl

any_is : (role : Role) (standard : Bool) → is_any (standing_of role standard) ≡ (standard || is_known role)
any_is Grouped true = refl
any_is Grouped false = refl
any_is Plain true = refl
any_is Plain false = refl
any_is Absent true = refl
any_is Absent false = refl

own_has : (s : Shapes) (tag : ℕ) (standard : Bool) → is_own (standing_of (role_of s tag) standard) ≡ has_tag tag s
own_has s tag standard = own_is (role_of s tag) standard ∙ known_is s tag

any_has : (s : Shapes) (tag : ℕ) (standard : Bool) → is_any (standing_of (role_of s tag) standard) ≡ (standard || has_tag tag s)
any_has s tag standard = any_is (role_of s tag) standard ∙ ap (λ b. standard || b) (known_is s tag)

pub role_has : (s : Shapes) (tag : ℕ) (role : Role) (r : Bool) → role ≡ role_of s tag → r ≡ is_known role → r ≡ has_tag tag s
role_has s tag role r e is = is ∙ ap is_known e ∙ known_is s tag

pub of_header : (dictionary : DictionarySeen) (tag : ℕ) (note : TagNote) (r : Bool) → note ≡ note_in dictionary tag → r ≡ is_any note.header → r ≡ is_header dictionary tag
of_header dictionary tag note r n is = is ∙ ap (λ (m : TagNote). is_any m.header) n ∙ any_has dictionary.header tag (is_header_tag tag)

pub of_trailer : (dictionary : DictionarySeen) (tag : ℕ) (note : TagNote) (r : Bool) → note ≡ note_in dictionary tag → r ≡ is_any note.trailer → r ≡ is_trailer dictionary tag
of_trailer dictionary tag note r n is = is ∙ ap (λ (m : TagNote). is_any m.trailer) n ∙ any_has dictionary.trailer tag (is_trailer_tag tag)

pub own_header : (dictionary : DictionarySeen) (tag : ℕ) (note : TagNote) (r b : Bool) → note ≡ note_in dictionary tag → r ≡ is_own note.header → r ≡ b → has_tag tag dictionary.header ≡ b
own_header dictionary tag note r b n is at = sym (own_has dictionary.header tag (is_header_tag tag)) ∙ sym (ap (λ (m : TagNote). is_own m.header) n) ∙ sym is ∙ at

pub own_trailer : (dictionary : DictionarySeen) (tag : ℕ) (note : TagNote) (r b : Bool) → note ≡ note_in dictionary tag → r ≡ is_own note.trailer → r ≡ b → has_tag tag dictionary.trailer ≡ b
own_trailer dictionary tag note r b n is at = sym (own_has dictionary.trailer tag (is_trailer_tag tag)) ∙ sym (ap (λ (m : TagNote). is_own m.trailer) n) ∙ sym is ∙ at
