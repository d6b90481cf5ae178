-- What a map in a table means, and what its calls make of it.
use Rattle.std.specs.Prelude.{◌≡◌, ℕ, min, Bool, true, false, cond, not, ◌&&◌, List, length, take, is_some, Some, None, ◌≢◌, nat_lt}
use Rattle.std.specs.declared.cmp.Ordering.{Ordering}
use Rattle.ordered_map.specs.declared.head.Head.{Head}
use Rattle.ordered_map.specs.declared.node.Node.{Node}
use Rattle.ordered_map.specs.Tree.{Tree, Rises, value_at}
use Rattle.ordered_map.specs.Table.{Kept, tree_of, pairs_of}
use Rattle.ordered_map.specs.Enter.{put, cut}

-- The records that a map uses: the first 1,024 of its table.
unfoldable pub served : {K : Type 0} → List (Node K) → List (Node K)
served ns = take 1024 ns

-- How many pairs a map in this table has room for.
abbrev pub room : {K : Type 0} → List (Node K) → ℕ
room ns = min (length ns) 1024

-- The tree that a table and a head stand for.
abbrev pub tree_in : {K : Type 0} → List (Node K) → Head → Tree K
tree_in ns h = tree_of (served ns) h.root

-- The map that they stand for: its pairs, in the order of their keys.
abbrev pub pairs_in : {K : Type 0} → List (Node K) → Head → List (K × ℕ)
pairs_in ns h = pairs_of (served ns) h.root

-- The table and the head belong together. `kept`: the tree is balanced and sorted, its records and the free ones are apart, and together they are all records that serve.
pub record Sound {K : Type 0} (c : K → K → Ordering) (ns : List (Node K)) (h : Head) : Type 0 where
  pub kept : Kept c (served ns) h.root h.free
  pub counted : h.count ≡ length (pairs_in ns h)
  pub sorted : Rises c (pairs_in ns h)

-- A pair can be entered: its key is absent, and fewer pairs are present than there is room for.
abbrev pub can_enter : {K : Type 0} → (K → K → Ordering) → List (Node K) → Head → K → Bool
can_enter c ns h k = not (is_some (value_at c (pairs_in ns h) k)) && nat_lt (length (pairs_in ns h)) (room ns)

-- What entering k with v answers, r, and leaves: the table ms and the head g.
pub record AfterEnter {K : Type 0} (c : K → K → Ordering) (ns : List (Node K)) (h : Head) (k : K) (v : ℕ) (ms : List (Node K)) (g : Head) (r : Bool) : Type 0 where
  pub answers : r ≡ can_enter c ns h k
  pub list : pairs_in ms g ≡ cond r (put c (pairs_in ns h) k v) (pairs_in ns h)
  pub gets : r ≡ true → value_at c (pairs_in ms g) k ≡ Some v
  pub others : (j : K) → (j ≢ k) → value_at c (pairs_in ms g) j ≡ value_at c (pairs_in ns h) j
  pub refused : r ≡ false → (ms ≡ ns) × (g ≡ h)

-- What removing k answers, r, and leaves: the table ms and the head g.
pub record AfterRemove {K : Type 0} (c : K → K → Ordering) (ns : List (Node K)) (h : Head) (k : K) (ms : List (Node K)) (g : Head) (r : Bool) : Type 0 where
  pub answers : r ≡ is_some (value_at c (pairs_in ns h) k)
  pub list : pairs_in ms g ≡ cut c (pairs_in ns h) k
  pub gone : value_at c (pairs_in ms g) k ≡ None
  pub others : (j : K) → (j ≢ k) → value_at c (pairs_in ms g) j ≡ value_at c (pairs_in ns h) j
  pub refused : r ≡ false → (ms ≡ ns) × (g ≡ h)
