-- The way from a place up to the root.
use Rattle.std.specs.Prelude.{◌≡◌, ℕ, ◌+◌, ◌<◌, ◌≤◌, max, Bool, true, cond, List, [], ◌∷◌, ◌++◌, map, length, reverse, is_some, Some, None, Option, Ok, Err, Result}
use Rattle.std.specs.declared.cmp.Ordering.TheVariants.{Less, Equal, Greater}
use Rattle.std.specs.declared.cmp.Ordering.{Ordering}
use Rattle.std.specs.List.{slice_get, AllByRecursion}
use Rattle.arrayvec.specs.ArrayVec.{ArrayVec}
use Rattle.ordered_map.specs.declared.node.Node.{Node}
use Rattle.ordered_map.specs.declared.path.Step.{Step}
use Rattle.ordered_map.specs.Tree.{Tree, leaf, node, top, height, size, occ, one, entries, Balanced, value_at}
use Rattle.ordered_map.specs.Table.{Holds}
use Rattle.ordered_map.specs.Edit.{bond, Loose, Like, Made}

-- p, whose child on the side s was replaced by the tree a at `near`, while b stands on the other
pub record Mendable {K : Type 0} (ns : List (Node K)) (p : ℕ) (s : Bool) (near : Option ℕ) : Type 0 where
  pub key : K
  pub value : ℕ
  pub a : Tree K
  pub b : Tree K
  pub loose : Loose ns p key value a b
  pub near_is : near ≡ top a
  pub far_is : cond s loose.at.right loose.at.left ≡ top b
  pub level_a : Balanced a
  pub level_b : Balanced b
  pub near_low : height a ≤ height b + 2
  pub far_low : height b ≤ height a + 2
  pub low : height a + height b < 90

pub record Mended {K : Type 0} (ns ms : List (Node K)) (r : ℕ) (u a b : Tree K) : Type 0 where
  pub made : Made ns ms r u
  pub even : height a ≤ height b + 1 → height b ≤ height a + 1 → height made.tree ≡ height u

-- a node without the tree on one of its sides
pub record Frame (K : Type 0) : Type 0 where
  pub place : ℕ
  pub left : Bool
  pub key : K
  pub value : ℕ
  pub other : Tree K

abbrev pub fill : {K : Type 0} → Frame K → Tree K → Tree K
fill f t = bond f.left f.place f.key f.value t f.other

-- a path's steps, the lowest first
abbrev pub upward : ArrayVec Step → List Step
upward path = reverse path.items

-- the frames above a tree, the lowest first
abbrev pub plug : {K : Type 0} → List (Frame K) → Tree K → Tree K
plug [] t = t
plug (f ∷ fs) t = plug fs (fill f t)

abbrev pub step_of : {K : Type 0} → Frame K → Step
step_of f = record { place = f.place; left = f.left }

pub record Framing {K : Type 0} (ns : List (Node K)) (f : Frame K) : Type 0 where
  pub at : Node K
  pub lies : slice_get ns f.place ≡ Some at
  pub keyed : at.key ≡ f.key
  pub valued : at.value ≡ f.value
  pub far : cond f.left at.right at.left ≡ top f.other
  pub held : Holds ns f.other

abbrev pub Framed : {K : Type 0} → List (Node K) → List (Frame K) → Type 0
Framed ns [] = Unit {0}
Framed ns (f ∷ fs) = Framing ns f × Framed ns fs

abbrev pub occ_frames : {K : Type 0} → ℕ → List (Frame K) → ℕ
occ_frames q [] = 0
occ_frames q (f ∷ fs) = one q f.place + (occ q f.other + occ_frames q fs)

-- the frames are balanced about a tree of height h
abbrev pub Fit : {K : Type 0} → ℕ → List (Frame K) → Type 0
Fit h [] = Unit {0}
Fit h (f ∷ fs) = (h ≤ height f.other + 1) × (height f.other ≤ h + 1) × Balanced f.other × Fit (max h (height f.other) + 1) fs

-- how high the whole is
abbrev pub tall : {K : Type 0} → ℕ → List (Frame K) → ℕ
tall h [] = h
tall h (f ∷ fs) = tall (max h (height f.other) + 1) fs

-- the tree t at `at`, to be put under the frames in the place of one of height h
pub record Rising {K : Type 0} (ns : List (Node K)) (path : List Step) (at : Option ℕ) (fs : List (Frame K)) (t : Tree K) (h : ℕ) : Type 0 where
  pub on : path ≡ map step_of fs
  pub at_is : at ≡ top t
  pub framed : Framed ns fs
  pub held : Holds ns t
  pub apart : (q : ℕ) → occ q t + occ_frames q fs ≤ 1
  pub level : Balanced t
  pub fit : Fit h fs
  pub upper : height t ≤ h + 1
  pub lower : h ≤ height t + 1
  pub low : tall h fs ≤ 14

pub record Climbing {K : Type 0} (ns ms : List (Node K)) (path : List Step) (at : Option ℕ) (u : Tree K) (high : ℕ) : Type 0 where
  -- high is the height that the whole had
  pub frames : List (Frame K)
  pub tree : Tree K
  pub hole : ℕ
  pub rising : Rising ms path at frames tree hole
  pub tall_is : tall hole frames ≡ high
  pub like : Like u (plug frames tree)
  pub kept : (q : ℕ) → occ q u ≡ 0 → slice_get ms q ≡ slice_get ns q
  pub long : length ms ≡ length ns

pub record Risen {K : Type 0} (ns ms : List (Node K)) (r : Option ℕ) (u : Tree K) (high : ℕ) : Type 0 where
  pub tree : Tree K
  pub at : r ≡ top tree
  pub held : Holds ms tree
  pub like : Like u tree
  pub upper : height tree ≤ high + 1
  pub lower : high ≤ height tree + 1
  pub level : Balanced tree
  pub kept : (q : ℕ) → occ q u ≡ 0 → slice_get ms q ≡ slice_get ns q
  pub long : length ms ≡ length ns

-- the pairs that stand before and after a tree under frames
abbrev pub lead : {K : Type 0} → Frame K → List (K × ℕ)
lead f = cond f.left [] (entries f.other ++ (f.key, f.value) ∷ [])

abbrev pub trail : {K : Type 0} → Frame K → List (K × ℕ)
trail f = cond f.left ((f.key, f.value) ∷ entries f.other) []

abbrev pub before : {K : Type 0} → List (Frame K) → List (K × ℕ)
before [] = []
before (f ∷ fs) = before fs ++ lead f

abbrev pub after : {K : Type 0} → List (Frame K) → List (K × ℕ)
after [] = []
after (f ∷ fs) = trail f ++ after fs

-- a way down to `here` in t, between the keys below k and those above
pub record Falling {K : Type 0} (c : K → K → Ordering) (t : Tree K) (k : K) (path : List Step) (at : Option ℕ) : Type 0 where
  pub frames : List (Frame K)
  pub here : Tree K
  pub at_is : at ≡ top here
  pub whole : plug frames here ≡ t
  pub on : path ≡ map step_of frames
  pub over : AllByRecursion (λ e. c k e.0 ≡ Greater) (before frames)
  pub under : AllByRecursion (λ e. c k e.0 ≡ Less) (after frames)

-- such a way to where k would stand
pub record Landed {K : Type 0} (c : K → K → Ordering) (t : Tree K) (k : K) (path : List Step) : Type 0 where
  pub frames : List (Frame K)
  pub whole : plug frames leaf ≡ t
  pub on : path ≡ map step_of frames
  pub over : AllByRecursion (λ e. c k e.0 ≡ Greater) (before frames)
  pub under : AllByRecursion (λ e. c k e.0 ≡ Less) (after frames)

-- a tree that stands alone in the table
pub record Standing {K : Type 0} (ns : List (Node K)) (root : ℕ) (t : Tree K) : Type 0 where
  pub rooted : Some root ≡ top t
  pub held : Holds ns t
  pub apart : (q : ℕ) → occ q t ≤ 1
  pub level : Balanced t
  pub low : height t ≤ 14

-- a way down to the left
pub record Leftward {K : Type 0} (t : Tree K) (path : List Step) (at : ℕ) : Type 0 where
  pub frames : List (Frame K)
  pub here : Tree K
  pub at_is : Some at ≡ top here
  pub whole : plug frames here ≡ t
  pub on : path ≡ map step_of frames
  pub first : before frames ≡ []

-- the way down to the least
pub record Lowest {K : Type 0} (t : Tree K) (path : List Step) (place : ℕ) : Type 0 where
  pub frames : List (Frame K)
  pub key : K
  pub value : ℕ
  pub right : Tree K
  pub whole : plug frames (node place key value leaf right) ≡ t
  pub on : path ≡ map step_of frames
  pub first : before frames ≡ []

-- the least of t taken out
pub record Popped {K : Type 0} (ns ms : List (Node K)) (place : ℕ) (root : Option ℕ) (t : Tree K) : Type 0 where
  pub key : K
  pub value : ℕ
  pub rest : Tree K
  pub at : Node K
  pub lies : slice_get ms place ≡ Some at
  pub keyed : at.key ≡ key
  pub valued : at.value ≡ value
  pub rooted : root ≡ top rest
  pub held : Holds ms rest
  pub pairs : entries t ≡ (key, value) ∷ entries rest
  pub places : (q : ℕ) → occ q t ≡ one q place + occ q rest
  pub count : size t ≡ size rest + 1
  pub level : Balanced rest
  pub upper : height rest ≤ height t + 1
  pub lower : height t ≤ height rest + 1
  pub kept : (q : ℕ) → occ q t ≡ 0 → slice_get ms q ≡ slice_get ns q
  pub long : length ms ≡ length ns

-- the root of a tree taken out
pub record Excised {K : Type 0} (ns ms : List (Node K)) (root : Option ℕ) (freed place : ℕ) (k : K) (v : ℕ) (l r : Tree K) : Type 0 where
  pub tree : Tree K
  pub rooted : root ≡ top tree
  pub held : Holds ms tree
  pub pairs : entries tree ≡ entries l ++ entries r
  pub places : (q : ℕ) → occ q (node place k v l r) ≡ one q freed + occ q tree
  pub count : size (node place k v l r) ≡ size tree + 1
  pub level : Balanced tree
  pub upper : height tree ≤ height (node place k v l r) + 1
  pub lower : height (node place k v l r) ≤ height tree + 1
  pub kept : (q : ℕ) → occ q (node place k v l r) ≡ 0 → slice_get ms q ≡ slice_get ns q
  pub long : length ms ≡ length ns

-- a way to where k stands
pub record Found {K : Type 0} (c : K → K → Ordering) (t : Tree K) (k : K) (path : List Step) (place : ℕ) : Type 0 where
  pub frames : List (Frame K)
  pub value : ℕ
  pub left : Tree K
  pub right : Tree K
  pub whole : plug frames (node place k value left right) ≡ t
  pub on : path ≡ map step_of frames
  pub over : AllByRecursion (λ e. c k e.0 ≡ Greater) (before frames)
  pub same : c k k ≡ Equal
  pub over_left : AllByRecursion (λ e. c k e.0 ≡ Greater) (entries left)

-- where the way down ends: at k, or where k would stand
abbrev pub Located : {K : Type 0} → (K → K → Ordering) → Tree K → K → Result (ArrayVec Step × ℕ) (ArrayVec Step) → Type 0
Located c t k (Ok x) = (is_some (value_at c (entries t) k) ≡ true) × Found c t k (upward x.0) x.1
Located c t k (Err path) = (value_at c (entries t) k ≡ None) × Landed c t k (upward path)
