-- Which tree a table holds.
use Rattle.std.specs.Prelude.{◌≡◌, ℕ, zero, suc, ◌+◌, ◌<◌, ◌≤◌, max, List, [], ◌∷◌, length, Some, None, Option}
use Rattle.std.specs.declared.cmp.Ordering.{Ordering}
use Rattle.std.specs.List.{slice_get}
use Rattle.ordered_map.specs.declared.node.Node.{Node}
use Rattle.ordered_map.specs.Tree.{Tree, leaf, node, top, height, size, occ, one, entries, Balanced, Rises, find, steps}

abbrev pub rec : {K : Type 0} → K → ℕ → Option ℕ → Option ℕ → ℕ → Node K
rec k v l r h = record { key = k; value = v; left = l; right = r; height = h }

-- each node of the tree lies at its place
abbrev pub Holds : {K : Type 0} → List (Node K) → Tree K → Type 0
Holds ns leaf = Unit {0}
Holds ns (node p k v l r) = (slice_get ns p ≡ Some (rec k v (top l) (top r) (max (height l) (height r) + 1))) × Holds ns l × Holds ns r

-- the tree below a place, down to a depth
abbrev pub grown : {K : Type 0} → (Option ℕ → Tree K) → ℕ → Option (Node K) → Tree K
grown f p None = leaf
grown f p (Some n) = node p n.key n.value (f n.left) (f n.right)

unfoldable pub tree_at : {K : Type 0} → ℕ → List (Node K) → Option ℕ → Tree K
tree_at zero ns at = leaf
tree_at (suc d) ns None = leaf
tree_at (suc d) ns (Some p) = grown (tree_at d ns) p (slice_get ns p)

-- the free places, each with the next in its left field
abbrev pub first : List ℕ → Option ℕ
first [] = None
first (f ∷ fs) = Some f

abbrev pub Chained : {K : Type 0} → List (Node K) → List ℕ → Type 0
Chained ns [] = Unit {0}
Chained {K} ns (f ∷ fs) = ((n : Node K) × (slice_get ns f ≡ Some n) × (n.left ≡ first fs)) × Chained ns fs

abbrev pub occs : ℕ → List ℕ → ℕ
occs q [] = 0
occs q (f ∷ fs) = one q f + occs q fs

-- the table with its two entry places holds the tree t and the free places fs
pub record Rep {K : Type 0} (c : K → K → Ordering) (ns : List (Node K)) (root free : Option ℕ) (t : Tree K) (fs : List ℕ) : Type 0 where
  pub rooted : root ≡ top t
  pub freed : free ≡ first fs
  pub held : Holds ns t
  pub chained : Chained ns fs
  pub apart : (q : ℕ) → occ q t + occs q fs ≤ 1
  pub counted : size t + length fs ≡ length ns
  pub small : length ns ≤ 1024
  pub level : Balanced t
  pub sorted : Rises c (entries t)

-- the table holds some tree and some free places so
abbrev pub Kept : {K : Type 0} → (K → K → Ordering) → List (Node K) → Option ℕ → Option ℕ → Type 0
Kept {K} c ns root free = (t : Tree K) × (fs : List ℕ) × Rep c ns root free t fs

-- the same, with any free places
abbrev pub Searchable : {K : Type 0} → (K → K → Ordering) → List (Node K) → Option ℕ → Type 0
Searchable c ns root = (free : Option ℕ) × Kept c ns root free

-- the tree at a place, and its pairs: no tree here is higher than 14
abbrev pub tree_of : {K : Type 0} → List (Node K) → Option ℕ → Tree K
tree_of ns root = tree_at 14 ns root

abbrev pub pairs_of : {K : Type 0} → List (Node K) → Option ℕ → List (K × ℕ)
pairs_of ns root = entries (tree_of ns root)

-- a search for k in t, after n comparisons, stands at `at`
pub record Going {K : Type 0} (c : K → K → Ordering) (ns : List (Node K)) (t : Tree K) (k : K) (at : Option ℕ) (n : ℕ) : Type 0 where
  pub here : Tree K
  pub stands : at ≡ top here
  pub held : Holds ns here
  pub finds : find c here k ≡ find c t k
  pub counts : n + steps c here k ≡ steps c t k

-- the places from i on, each with the next
pub record Linked {K : Type 0} (ns : List (Node K)) (i : ℕ) (free : Option ℕ) : Type 0 where
  pub places : List ℕ
  pub freed : free ≡ first places
  pub chained : Chained ns places
  pub apart : (q : ℕ) → occs q places ≤ 1
  pub above : (q : ℕ) → q < i → occs q places ≡ 0
  pub counted : length places + i ≡ length ns
