-- What was written stays lawful as the list of entries grows, and what each frame means to a reader.
use Rattle.std.proofs.Common.{◌≡◌, ℕ, ◌<◌, ◌≤◌, List, [], ◌∷◌, ◌++◌, length, length-append, false, sym, ap, ◌∙◌, subst, append_assoc, arith}
use Rattle.fix_base.specs.Lists.{Among, here, there, IsPrefixOf}
use Rattle.fix_base.specs.Message as message
use Rattle.fix_base.specs.Message.{Message}
use Rattle.fix_base.specs.Says.{Shows}
use Rattle.fix_base.specs.End.{Entry, App, Admin, End, IsEntry, IsAppAt, IsAdminAt, IsSkipped, admin, withheld, GrowsTo}
use Rattle.fix_base.specs.Payload.{IsPersistent}
use Rattle.fix_base.specs.Wrote.{SkipsBetween}
use Rattle.fix_base.proofs.Told as told
use Rattle.fix_base.proofs.Told.{OriginalSays, WritesMessages, WroteMessages}
use Rattle.fix_base.proofs.ListLemmas.{Among-middle, Among-prefix, prefix_refl, prefix_trans, length-prefix, fronts_same}
use Rattle.fix_base.proofs.BytesLemmas.{read_among, spells_nothing}

pub IsEntry-more : {out more : List Entry} {n : ℕ} {e : Entry} → IsPrefixOf out more → IsEntry out n e → IsEntry more n e
IsEntry-more {e = e} p h = record { before = h.before; after = h.after ++ p.rest; is = p.is ∙ ap (λ w. w ++ p.rest) h.is ∙ append_assoc h.before (e ∷ h.after) p.rest; place = h.place }

pub IsEntry-among : {out : List Entry} {n : ℕ} {e : Entry} → IsEntry out n e → Among e out
IsEntry-among {e = e} h = subst (λ w. Among e w) (sym h.is) (Among-middle e h.before h.after)

-- an entry's number is none above the length
pub IsEntry-inside : {out : List Entry} {n : ℕ} {e : Entry} → IsEntry out n e → n ≤ length out
IsEntry-inside {e = e} h = let l = ap (λ (w : List Entry). length w) h.is in omega (arith, l, h.place, length-append h.before (e ∷ h.after))

pub IsAppAt-more : {out more : List Entry} {n : ℕ} {body : List ℕ} → IsPrefixOf out more → IsAppAt out n body → IsAppAt more n body
IsAppAt-more p h = record { time = h.time; by = h.by; entry = IsEntry-more p h.entry }

pub IsAdminAt-more : {out more : List Entry} {n : ℕ} → IsPrefixOf out more → IsAdminAt out n → IsAdminAt more n
IsAdminAt-more p h = record { time = h.time; kind = h.kind; about = h.about; entry = IsEntry-more p h.entry }

pub GrowsTo-refl : (e : End) → GrowsTo e e
GrowsTo-refl e = record { out = prefix_refl e.out; withheld = prefix_refl e.withheld }

pub GrowsTo-trans : {a b c : End} → GrowsTo a b → GrowsTo b c → GrowsTo a c
GrowsTo-trans p q = record { out = prefix_trans p.out q.out; withheld = prefix_trans p.withheld q.withheld }

pub IsSkipped-more : {e more : End} {n : ℕ} → GrowsTo e more → IsSkipped e n → IsSkipped more n
IsSkipped-more p (admin at) = admin (IsAdminAt-more p.out at)
IsSkipped-more p (withheld body app held) = withheld body (IsAppAt-more p.out app) (Among-prefix p.withheld held)

pub IsSkipped-inside : {e : End} {n : ℕ} → IsSkipped e n → n ≤ length e.out
IsSkipped-inside (admin at) = IsEntry-inside at.entry
IsSkipped-inside (withheld body app held) = IsEntry-inside app.entry

pub IsSkipped-some : {e : End} {n : ℕ} → IsSkipped e n → 1 ≤ n
IsSkipped-some (admin at) = let place = at.entry.place in omega arith
IsSkipped-some (withheld body app held) = let place = app.entry.place in omega arith

pub SkipsBetween-more : {e more : End} {n m : ℕ} → GrowsTo e more → SkipsBetween e n m → SkipsBetween more n m
SkipsBetween-more p h = record { each = λ k low high. IsSkipped-more p (h.each k low high) }

-- an entry of a number is the only one
pub IsEntry-one : {out : List Entry} {n : ℕ} {e f : Entry} → IsEntry out n e → IsEntry out n f → e ≡ f
IsEntry-one {e = e} {f = f} a b =
    let whole : a.before ++ e ∷ a.after ≡ b.before ++ f ∷ b.after = sym a.is ∙ b.is in
    let long : length a.before ≡ length b.before = omega (arith, a.place, b.place) in
    let same = (fronts_same a.before b.before (e ∷ a.after) (f ∷ b.after) whole long).1 in
    cc

-- no App entry is an Admin entry
pub App_no_Admin : {out : List Entry} {n : ℕ} {body : List ℕ} → IsAppAt out n body → IsAdminAt out n → ⊥
App_no_Admin {body = body} app at = let same : App app.time app.by body ≡ Admin at.time at.kind at.about = IsEntry-one app.entry at.entry in cc

-- a message that isn't withheld isn't skipped
pub App_no_skip : {e : End} {n : ℕ} {body : List ℕ} → IsAppAt e.out n body → (Among n e.withheld → ⊥) → IsSkipped e n → ⊥
App_no_skip app free (admin at) = App_no_Admin app at
App_no_skip app free (withheld body held_app held) = free held

WritesMessages-more : {old new more : End} {last to : ℕ} {xs : List Message} → GrowsTo new more → WritesMessages old new last xs to → WritesMessages old more last xs to
WritesMessages-more p told.done = told.done
WritesMessages-more p (told.original n e above entry says others) = told.original n e above (IsEntry-more p.out entry) says (WritesMessages-more p others)
WritesMessages-more p (told.again n body entry free others) = told.again n body (IsAppAt-more p.out entry) free (WritesMessages-more p others)
WritesMessages-more {new = new} {more = more} p (told.gap_fill n m some inside skips others) =
    let grew = length-prefix p.out in
    told.gap_fill n m some (omega (arith, grew)) (SkipsBetween-more p skips) (WritesMessages-more p others)

-- the same with more entries, and more of them withheld
pub WroteMessages-more : {old new more : End} {w : List ℕ} → GrowsTo new more → WroteMessages old new w → WroteMessages old more w
WroteMessages-more p h = record { grew = GrowsTo-trans h.grew p; messages = h.messages; last = h.last; writes = WritesMessages-more p h.writes; spells = h.spells }

pub WroteMessages-nothing : {old new : End} → GrowsTo old new → WroteMessages old new []
WroteMessages-nothing p = record { grew = p; messages = []; last = _; writes = told.done; spells = spells_nothing }

-- what a frame read from a persistent writer means to a reader. A message that comes is none that the
-- writer could have skipped when it opened the connection
abbrev pub Means : End → End → Message → Type 0
Means old new (message.App n marked body) = IsAppAt new.out n body × (marked ≡ false → length old.out < n) × (IsSkipped old n → ⊥)
Means old new (message.Admin n) = IsAdminAt new.out n
Means old new (message.GapFill n m) = (n < m) × SkipsBetween new n m
Means old new (message.ResetTo n m) = ⊥

above_no_skip : (old : End) (n : ℕ) → length old.out < n → IsSkipped old n → ⊥
above_no_skip old n above skip = let inside = IsSkipped-inside skip in absurd (omega arith)

original_means : (old new : End) (n : ℕ) (e : Entry) (x : Message) → IsPersistent new → length old.out < n → IsEntry new.out n e → OriginalSays n e x → Means old new x
original_means old new n e x kept above entry (told.app time by body) = (record { time = time; by = by; entry = entry }, λ unmarked. above, above_no_skip old n above)
original_means old new n e x kept above entry (told.admin time kind about) = record { time = time; kind = kind; about = about; entry = entry }
original_means old new n e x kept above entry (told.once time kind about body h) = absurd ((kept.each (Admin time kind about) (IsEntry-among entry)).kept h)

again_no_skip : (old new : End) (n : ℕ) (body : List ℕ) → GrowsTo old new → IsAppAt new.out n body → (Among n old.withheld → ⊥) → IsSkipped old n → ⊥
again_no_skip old new n body p app free (admin at) = App_no_Admin app (IsAdminAt-more p.out at)
again_no_skip old new n body p app free (withheld other at held) = free held

one_means : (old new : End) {last to : ℕ} {xs : List Message} (x : Message) → IsPersistent new → GrowsTo old new → length old.out ≤ last → WritesMessages old new last xs to → Among x xs → Means old new x
one_means old new x kept p low (told.done {last = last}) m = elim m [ ]
one_means old new x kept p low (told.original {x = y} n e above entry says others) here = original_means old new n e y kept (omega arith) entry says
one_means old new x kept p low (told.original n e above entry says others) (there m) = one_means old new x kept p (omega arith) others m
one_means old new x kept p low (told.again n body entry free others) here = (entry, λ unmarked. cc, again_no_skip old new n body p entry free)
one_means old new x kept p low (told.again n body entry free others) (there m) = one_means old new x kept p low others m
one_means old new x kept p low (told.gap_fill n m some inside skips others) here = (some, skips)
one_means old new x kept p low (told.gap_fill n k some inside skips others) (there m) = one_means old new x kept p low others m

-- each frame of a front of what was written
pub front_means : (old new : End) {w bytes : List ℕ} {messages : List Message} (x : Message) → IsPersistent new → WroteMessages old new w → IsPrefixOf bytes w → Shows bytes messages → Among x messages → Means old new x
front_means old new x kept h front shows m = one_means old new x kept h.grew (omega arith) h.writes (read_among h.spells front shows m)
