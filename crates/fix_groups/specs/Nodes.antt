-- What a tree is: its nodes in order.
use Rattle.std.specs.Prelude.{ℕ, zero, suc, ◌+◌, List, [], ◌∷◌, ◌≡◌, refl}
use Rattle.std.proofs.Common.{ap, ◌∙◌}
use Rattle.std.specs.Coded.{Coded, code_by, coded×, coded_ℕ, coded_list}

-- `item`s stand only under a `group`, before its `stop`
pub data Nodes : Type 0 where
  stop : Nodes
  field : (tag : ℕ) → (value : List ℕ) → (more : Nodes) → Nodes
  group : (count : ℕ) → (items : Nodes) → (more : Nodes) → Nodes
  item : (tree : Nodes) → (more : Nodes) → Nodes

abbrev pub nodes_size : Nodes → ℕ
nodes_size stop = 0
nodes_size (field t v ns) = nodes_size ns + 1
nodes_size (group c is ns) = nodes_size is + nodes_size ns + 1
nodes_size (item t is) = nodes_size t + nodes_size is + 2

abbrev pub items_count : Nodes → ℕ
items_count (item t is) = items_count is + 1
items_count _ = 0

-- A list that gives the nodes back: before each node's parts stands what it is.
abbrev pub Word : Type 0
Word = ℕ × (ℕ × List ℕ)

abbrev pub written : Nodes → List Word → List Word
written stop rest = (0, (0, [])) ∷ rest
written (field t v ns) rest = (1, (t, v)) ∷ written ns rest
written (group c is ns) rest = (2, (c, [])) ∷ written is (written ns rest)
written (item t is) rest = (3, (0, [])) ∷ written t (written is rest)

abbrev pub first_of : List Nodes → Nodes
first_of [] = stop
first_of (s ∷ ss) = s

abbrev pub behind_first : List Nodes → List Nodes
behind_first [] = []
behind_first (s ∷ ss) = ss

abbrev pub joined : ℕ → ℕ → List ℕ → List Nodes → List Nodes
joined zero t v ss = stop ∷ ss
joined (suc zero) t v ss = field t v (first_of ss) ∷ behind_first ss
joined (suc (suc zero)) t v ss = group t (first_of ss) (first_of (behind_first ss)) ∷ behind_first (behind_first ss)
joined (suc (suc (suc k))) t v ss = item (first_of ss) (first_of (behind_first ss)) ∷ behind_first (behind_first ss)

abbrev pub read : List Word → List Nodes
read [] = []
read (w ∷ ws) = joined w.0 w.1.0 w.1.1 (read ws)

pub read-written : (s : Nodes) (rest : List Word) → read (written s rest) ≡ s ∷ read rest
read-written stop rest = refl
read-written (field t v ns) rest = ap (joined 1 t v) (read-written ns rest)
read-written (group c is ns) rest = ap (joined 2 c []) (read-written is (written ns rest) ∙ ap
    (λ l. is ∷ l) (read-written ns rest))
read-written (item t is) rest = ap (joined 3 0 []) (read-written t (written is rest) ∙ ap
    (λ l. t ∷ l) (read-written is rest))

abbrev pub nodes_code : Coded Nodes
nodes_code = code_by (List Word) (coded_list (coded× coded_ℕ (coded× coded_ℕ (coded_list coded_ℕ))))
    (λ s. written s []) (λ ws. first_of (read ws)) (λ s. ap first_of (read-written s []))
