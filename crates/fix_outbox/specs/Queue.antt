-- What the queue of an outbox holds, and what each pass knows of it.
use Rattle.std.specs.Prelude.{◌≡◌, ℕ, ◌+◌, ◌<◌, ◌≤◌, ◌==◌, Bool, true, false, List, [], ◌∷◌, ◌++◌, All, filter, map}
use Rattle.std.specs.Prelude.{length, ⊤}
use Rattle.std.specs.List.{AllByRecursion}
use mathlib.Core.Option.{Option, none, some}
use lib.ListN.{get_elem?}
use Rattle.fix_outbox.specs.declared.queue.Item.{Item}
use Rattle.fix_outbox.specs.declared.queue.Ended.{Ended}
use Rattle.fix_outbox.specs.declared.queue.Part.{Part}

-- those of sender i, in order
abbrev pub of : ℕ → List Item → List Item
of i xs = filter (λ x. x.sender == i) xs

abbrev pub ended : ℕ → List Item → Ended
ended i xs = record { number = i; posted = xs }

-- the taker: how many senders it made, what it took, and what the senders that it took in have posted
abbrev pub taker : ℕ → List Item → List Ended → Part
taker made list known = record { takes = true; sends = false; number = made; list = list; known = known }

-- a sender: its number, and what it has posted
abbrev pub sender : ℕ → List Item → Part
sender i list = record { takes = false; sends = true; number = i; list = list; known = [] }

abbrev pub spent : Part
spent = record { takes = false; sends = false; number = 0; list = []; known = [] }

abbrev pub with_list : Part → List Item → Part
with_list v list = record { takes = v.takes; sends = v.sends; number = v.number; list = list; known = v.known }

abbrev pub total : {A : Type 0} → (A → ℕ) → List A → ℕ
total f [] = 0
total f (x ∷ xs) = f x + total f xs

-- how many items these senders have posted
abbrev pub count_posted : List Ended → ℕ
count_posted es = total (λ (e : Ended). length e.posted) es

abbrev pub numbers : List Ended → List ℕ
numbers es = map (λ (e : Ended). e.number) es

-- no two of these are equal
abbrev pub AreApart : List ℕ → Type 0
AreApart [] = ⊤
AreApart (n ∷ ns) = AllByRecursion (λ m. m ≡ n → ⊥) ns × AreApart ns

-- of the taker, of a sender, of a pass that is spent
abbrev pub either : Bool → Bool → ℕ → ℕ → ℕ
either true sends t s = t
either false true t s = s
either false false t s = 0

-- the items that a view accounts for, and the senders
abbrev pub items_of : Part → ℕ
items_of v = either v.takes v.sends (count_posted v.known) (length v.list)

abbrev pub senders_of : Part → ℕ
senders_of v = either v.takes v.sends (length v.known) 1

-- no pass sends under this number, and these are all items of it
abbrev pub Rests : (ℕ → Option ℕ) → List Item → ℕ → List Item → Type 0
Rests seat all i list = (seat i ≡ none) × (list ≡ of i all)

abbrev pub FitsTaker : ℕ → ℕ → (ℕ → Option ℕ) → List Item → List Item → ℕ → Part → Type 0
FitsTaker reader made seat got all pass v =
    v.takes ≡ true
    → (pass ≡ reader) × (v.number ≡ made) × (v.list ≡ got)
    × ((i : ℕ) → v.number < i → Rests seat all i [])
    × AreApart (numbers v.known)
    × All (λ (e : Ended). Rests seat all e.number e.posted) v.known

abbrev pub FitsSender : (ℕ → Option ℕ) → List Item → ℕ → Part → Type 0
FitsSender seat all pass v = v.sends ≡ true → (seat v.number ≡ some pass) × (v.list ≡ of v.number all)

abbrev pub Fits : ℕ → ℕ → (ℕ → Option ℕ) → List Item → List Item → ℕ → Part → Type 0
Fits reader made seat got all pass v = FitsTaker reader made seat got all pass v × FitsSender seat all pass v

-- the rule: `all`, what was pushed, is what was taken and then what the queue holds; the views account for
-- each item of it once, and for each of the senders that were made. `seat` says which pass sends under a
-- number
abbrev pub InOrder : List Item → List Part → Type 0
InOrder items views =
    (reader : ℕ) × (made : ℕ) × (seat : ℕ → Option ℕ) × (got : List Item) × (all : List Item)
    × (got ++ items ≡ all)
    × (total items_of views ≡ length all)
    × (total senders_of views ≡ made)
    × ((pass : ℕ) (v : Part) → get_elem? views pass ≡ some v → Fits reader made seat got all pass v)

-- the item joins what the pass has posted
abbrev pub Appended : Part → Item → Part → Type 0
Appended v x w = w ≡ with_list v (v.list ++ x ∷ [])

-- the item joins what was taken; where all senders were taken in, no more is taken than they have posted
abbrev pub Took : Part → Item → Part → Type 0
Took v x w = Appended v x w × (length v.known ≡ v.number → length w.list ≤ count_posted v.known)

-- the outbox may hold these items while this pass knows what it knows: all that its rule says is true of
-- them, with some views of the others
abbrev pub CanContain : Part → List Item → Type 0
CanContain v items = (pass : ℕ) × (views : List Part) × InOrder items views × (get_elem? views pass ≡ some v)

abbrev pub IsSender : ℕ → Part → Type 0
IsSender i v = (v.takes ≡ false) × (v.sends ≡ true) × (v.number ≡ i)

abbrev pub IsTaker : Part → Type 0
IsTaker v = (v.takes ≡ true) × (v.sends ≡ false)
