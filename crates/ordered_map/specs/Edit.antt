-- Edits of the table.
use Rattle.std.specs.Prelude.{◌≡◌, ℕ, ◌+◌, ◌<◌, ◌≤◌, max, Bool, true, false, cond, List, length, Some, None, Option, ◌≢◌, slice_set}
use Rattle.std.specs.List.{slice_get}
use Rattle.ordered_map.specs.declared.node.Node.{Node}
use Rattle.ordered_map.specs.Tree.{Tree, node, top, height, size, occ, one, entries, Balanced}
use Rattle.ordered_map.specs.Table.{rec, Holds}

-- the height at a place
abbrev pub height_in : {K : Type 0} → Option (Node K) → ℕ
height_in None = 0
height_in (Some n) = n.height

abbrev pub ht : {K : Type 0} → List (Node K) → Option ℕ → ℕ
ht ns None = 0
ht ns (Some q) = height_in (slice_get ns q)

-- a record with other children
abbrev pub linked : {K : Type 0} → Node K → Bool → Option ℕ → Option ℕ → ℕ → Node K
linked n s a b h = rec n.key n.value (cond s a b) (cond s b a) h

abbrev pub Joined : {K : Type 0} → List (Node K) → List (Node K) → ℕ → Bool → Option ℕ → Option ℕ → Type 0
Joined {K} ns ms p s a b = (n : Node K) → slice_get ns p ≡ Some n → ms ≡ slice_set ns p (linked n s a b (max (ht ns a) (ht ns b) + 1))

-- a node with the tree a on the side s and the tree b on the other
abbrev pub bond : {K : Type 0} → Bool → ℕ → K → ℕ → Tree K → Tree K → Tree K
bond true p k v a b = node p k v a b
bond false p k v a b = node p k v b a

-- a record at p, with a key and a value, beside two trees
pub record Loose {K : Type 0} (ns : List (Node K)) (p : ℕ) (k : K) (v : ℕ) (a b : Tree K) : Type 0 where
  pub at : Node K
  pub lies : slice_get ns p ≡ Some at
  pub keyed : at.key ≡ k
  pub valued : at.value ≡ v
  pub held_a : Holds ns a
  pub held_b : Holds ns b
  pub apart : (q : ℕ) → one q p + (occ q a + occ q b) ≤ 1

-- two trees that mean the same
pub record Like {K : Type 0} (u t : Tree K) : Type 0 where
  pub pairs : entries t ≡ entries u
  pub count : size t ≡ size u
  pub places : (q : ℕ) → occ q t ≡ occ q u

-- a table with the tree t at r, which is like u, from a table ns that held the places of u
pub record Made {K : Type 0} (ns ms : List (Node K)) (r : ℕ) (u : Tree K) : Type 0 where
  pub tree : Tree K
  pub at : Some r ≡ top tree
  pub held : Holds ms tree
  pub like : Like u tree
  pub level : Balanced tree
  pub lower : height tree ≤ height u
  pub upper : height u ≤ height tree + 1
  pub kept : (q : ℕ) → occ q u ≡ 0 → slice_get ms q ≡ slice_get ns q
  pub long : length ms ≡ length ns

-- the table after p was joined to a and b
pub record Glued {K : Type 0} (ns ms : List (Node K)) (s : Bool) (p : ℕ) (k : K) (v : ℕ) (a b : Tree K) : Type 0 where
  pub held : Holds ms (bond s p k v a b)
  pub kept : (q : ℕ) → (q ≢ p) → slice_get ms q ≡ slice_get ns q
  pub long : length ms ≡ length ns

-- a tree taken apart by a side
pub record Opened {K : Type 0} (ns : List (Node K)) (s : Bool) (a : Tree K) : Type 0 where
  pub place : ℕ
  pub key : K
  pub value : ℕ
  pub outer : Tree K
  pub inner : Tree K
  pub at : top a ≡ Some place
  pub is : a ≡ bond s place key value outer inner
  pub within : place < length ns
  pub lies : slice_get ns place ≡ Some (rec key value (cond s (top outer) (top inner)) (cond s (top inner) (top outer)) (max (height outer) (height inner) + 1))
  pub held_outer : Holds ns outer
  pub held_inner : Holds ns inner

-- p with the tree a on the side s, two higher than the tree b on the other
pub record Leaning {K : Type 0} (ns : List (Node K)) (p : ℕ) (s : Bool) (heavy : ℕ) (other : Option ℕ) : Type 0 where
  pub key : K
  pub value : ℕ
  pub a : Tree K
  pub b : Tree K
  pub loose : Loose ns p key value a b
  pub heavy_is : Some heavy ≡ top a
  pub other_is : other ≡ top b
  pub level_a : Balanced a
  pub level_b : Balanced b
  pub tilt : height a ≡ height b + 2
  pub low : height a < 100

-- the same, with the tree a taken apart at c
pub record Staged {K : Type 0} (ns : List (Node K)) (p : ℕ) (s : Bool) (c : ℕ) (other outer inner : Option ℕ) (k : K) (v : ℕ) (a b : Tree K) : Type 0 where
  pub j : K
  pub w : ℕ
  pub x : Tree K
  pub y : Tree K
  pub is : a ≡ bond s c j w x y
  pub loose : Loose ns p k v (bond s c j w x y) b
  pub below : Loose ns c j w x y
  pub outer_is : outer ≡ top x
  pub inner_is : inner ≡ top y
  pub other_is : other ≡ top b
  pub level_a : Balanced (bond s c j w x y)
  pub level_b : Balanced b
  pub tilt : height (bond s c j w x y) ≡ height b + 2
  pub low : height (bond s c j w x y) < 100

-- the same, with the tree y taken apart at m
pub record Parted {K : Type 0} (ns : List (Node K)) (s : Bool) (m : ℕ) (first second : Option ℕ) (y : Tree K) : Type 0 where
  pub i : K
  pub u : ℕ
  pub x1 : Tree K
  pub y1 : Tree K
  pub is : y ≡ bond s m i u x1 y1
  pub below : Loose ns m i u x1 y1
  pub first_is : first ≡ top x1
  pub second_is : second ≡ top y1
