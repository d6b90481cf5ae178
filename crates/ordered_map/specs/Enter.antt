-- What entering a pair and taking one out make of the records that serve.
use Rattle.std.specs.Prelude.{◌≡◌, ℕ, ◌<◌, true, ◌⊎◌, List, [], ◌∷◌, length, is_some, Some, None, Option}
use Rattle.std.specs.declared.cmp.Ordering.{Ordering}
use Rattle.std.specs.Ordering.{match_ordering as by_order}
use Rattle.ordered_map.specs.declared.head.Head.{Head}
use Rattle.ordered_map.specs.declared.node.Node.{Node}
use Rattle.ordered_map.specs.Tree.{value_at}
use Rattle.ordered_map.specs.Table.{Kept, pairs_of}

-- the table holds a tree and free places as the head says, and as many pairs
abbrev pub Headed : {K : Type 0} → (K → K → Ordering) → List (Node K) → Head → Type 0
Headed c ns h = Kept c ns h.root h.free × (h.count ≡ length (pairs_of ns h.root))

-- the pair at its place among pairs whose keys rise
abbrev pub put : {K : Type 0} → (K → K → Ordering) → List (K × ℕ) → K → ℕ → List (K × ℕ)
put c [] k v = (k, v) ∷ []
put c (e ∷ es) k v = by_order (c k e.0) ((k, v) ∷ e ∷ es) (e ∷ es) (e ∷ put c es k v)

-- a refusal leaves all as it was: the key is there, or no record is free
abbrev pub Entered : {K : Type 0} → (K → K → Ordering) → List (Node K) → Head → K → ℕ → List (Node K) → Option Head → Type 0
Entered c ns h k v ms None = (ms ≡ ns) × ((is_some (value_at c (pairs_of ns h.root) k) ≡ true) ⊎ (length (pairs_of ns h.root) ≡ length ns))
Entered c ns h k v ms (Some g) = Headed c ms g × (value_at c (pairs_of ns h.root) k ≡ None) × (length (pairs_of ns h.root) < length ns) × (pairs_of ms g.root ≡ put c (pairs_of ns h.root) k v) × (length ms ≡ length ns)

-- the pairs without a key
abbrev pub cut : {K : Type 0} → (K → K → Ordering) → List (K × ℕ) → K → List (K × ℕ)
cut c [] k = []
cut c (e ∷ es) k = by_order (c k e.0) (e ∷ es) es (e ∷ cut c es k)

-- a refusal leaves all as it was: the key is not there
abbrev pub Taken : {K : Type 0} → (K → K → Ordering) → List (Node K) → Head → K → List (Node K) → Option Head → Type 0
Taken c ns h k ms None = (ms ≡ ns) × (value_at c (pairs_of ns h.root) k ≡ None)
Taken c ns h k ms (Some g) = Headed c ms g × (is_some (value_at c (pairs_of ns h.root) k) ≡ true) × (pairs_of ms g.root ≡ cut c (pairs_of ns h.root) k) × (length ms ≡ length ns)
