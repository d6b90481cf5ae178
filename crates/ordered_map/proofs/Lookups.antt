-- A search in the table.
use Rattle.std.proofs.Common.{◌≡◌, ℕ, zero, suc, ◌+◌, ◌<◌, ◌≤◌, max, List, length, get_or, Some, None, Option, Ordering, Less, Equal, Greater, sym, refl, ap, ◌∙◌, subst, arith}
use Rattle.std.specs.List.{slice_get}
use Rattle.std.specs.Ordering.{MatchOrdering, match_ordering as by_order}
use Rattle.ordered_map.specs.declared.node.Node.{Node}
use Rattle.ordered_map.specs.Order.{Order}
use Rattle.ordered_map.specs.Tree.{Tree, leaf, node, top, height, entries, Rises, value_at, find, steps}
use Rattle.ordered_map.specs.Table.{rec, Holds, tree_at, Going, Rep, Kept, tree_of, pairs_of}
use Rattle.std.proofs.lemmas.Option.{slice_get_within, get_or_from_slice_get}
use Rattle.ordered_map.proofs.Heights.{low, steps_low}
use Rattle.ordered_map.proofs.Sorted.{find_is}

-- ---- the tree that a table holds is the one that its function gives

pub tree_is : {K : Type 0} (d : ℕ) (ns : List (Node K)) (t : Tree K) → Holds ns t → height t ≤ d → tree_at d ns (top t) ≡ t
unfolding tree_at
tree_is zero ns leaf h n = refl
tree_is zero ns (node p k v l r) h n = absurd (omega (arith, n))
tree_is (suc d) ns leaf h n = refl
tree_is (suc d) ns (node p k v l r) h n =
    let x = tree_is d ns l h.1 (omega arith) in
    let y = tree_is d ns r h.2 (omega arith) in
    rw h.0 (ap (λ a. node p k v a (tree_at d ns (top r))) x ∙ ap (λ b. node p k v l b) y)

-- ---- one turn

module _ {K : Type 0} (c : K → K → Ordering) (ns : List (Node K)) (t : Tree K) (k : K) (at : Option ℕ) (n : ℕ) where
  abbrev pub Turned : Node K → Ordering → Type 0
  Turned x o = MatchOrdering o (Going c ns t k x.left (n + 1)) ((Some x.value ≡ find c t k) × (n + 1 ≡ steps c t k)) (Going c ns t k x.right (n + 1))

  turn_node : (p : ℕ) (j : K) (v : ℕ) (l r : Tree K) (h : ℕ) (o : Ordering) → Holds ns l → Holds ns r → by_order o (find c l k) (Some v) (find c r k) ≡ find c t k → n + (by_order o (steps c l k) 0 (steps c r k) + 1) ≡ steps c t k → Turned (rec j v (top l) (top r) h) o
  turn_node p j v l r h Less hl hr f s = record { here = l; stands = refl; held = hl; finds = f; counts = omega arith }
  turn_node p j v l r h Equal hl hr f s = (f, omega arith)
  turn_node p j v l r h Greater hl hr f s = record { here = r; stands = refl; held = hr; finds = f; counts = omega arith }

  turn_at : (here : Tree K) → at ≡ top here → Holds ns here → find c here k ≡ find c t k → n + steps c here k ≡ steps c t k → (p : ℕ) → at ≡ Some p → (p < length ns) × ((x : Node K) (o : Ordering) → x ≡ get_or ns p x → o ≡ c k x.key → Turned x o)
  turn_at leaf e h f s p i = cc
  turn_at (node p' j v l m) e h f s p i =
      let d : p ≡ p' = cc in
      let x : Node K = rec j v (top l) (top m) (max (height l) (height m) + 1) in
      let q : slice_get ns p ≡ Some x = ap (slice_get ns) d ∙ h.0 in (
        slice_get_within ns p x q,
        λ y o r w.
            let z : y ≡ x = r ∙ get_or_from_slice_get ns p x y q in
            let u : o ≡ c k j = w ∙ ap (λ (y : Node K). c k y.key) z in
            subst (λ a. Turned a o) (sym z) (turn_node p j v l m (max (height l) (height m) + 1) o h.1 h.2 (rw u f) (rw u s)),
      )

  ended_at : (here : Tree K) → at ≡ top here → Holds ns here → find c here k ≡ find c t k → n + steps c here k ≡ steps c t k → at ≡ None → (None ≡ find c t k) × (n ≡ steps c t k)
  ended_at leaf e h f s z = (f, omega arith)
  ended_at (node p j v l r) e h f s z = cc

module _ {K : Type 0} {c : K → K → Ordering} {ns : List (Node K)} {t : Tree K} {k : K} {at : Option ℕ} {n : ℕ} (w : Going c ns t k at n) where
  pub turn : {p : ℕ} → at ≡ Some p → (p < length ns) × ((x : Node K) (o : Ordering) → x ≡ get_or ns p x → o ≡ c k x.key → Turned c ns t k at n x o)
  turn = turn_at c ns t k at n w.here w.stands w.held w.finds w.counts _

  pub ended : at ≡ None → (None ≡ find c t k) × (n ≡ steps c t k)
  ended = ended_at c ns t k at n w.here w.stands w.held w.finds w.counts

  pub more_steps : n ≤ steps c t k
  more_steps = let s = w.counts in omega arith

module _ {K : Type 0} (c : K → K → Ordering) (ns : List (Node K)) (root free : Option ℕ) where
  pub rep_low : (t : Tree K) (fs : List ℕ) → Rep c ns root free t fs → height t ≤ 14
  rep_low t fs r = let a = r.counted in let b = r.small in low t r.level (omega arith)

  pub rep_tree : (t : Tree K) (fs : List ℕ) → Rep c ns root free t fs → tree_of ns root ≡ t
  rep_tree t fs r = ap (tree_at 14 ns) r.rooted ∙ tree_is 14 ns t r.held (rep_low t fs r)

module _ {K : Type 0} {c : K → K → Ordering} {ns : List (Node K)} {root free : Option ℕ} where
  pub start : Kept c ns root free → (k : K) → Going c ns (tree_of ns root) k root 0
  start s k =
      let e = rep_tree c ns root free s.0 s.1 s.2 in
      record {
        here = tree_of ns root;
        stands = s.2.rooted ∙ ap top (sym e);
        held = subst (Holds ns) (sym e) s.2.held;
        finds = refl;
        counts = omega arith;
      }

  pub sound_steps : Kept c ns root free → (k : K) → steps c (tree_of ns root) k ≤ 14
  sound_steps s k =
      let e = rep_tree c ns root free s.0 s.1 s.2 in
      let h = steps_low c s.0 k in
      let g = rep_low c ns root free s.0 s.1 s.2 in
      rw e (omega arith)

  pub sound_find : Order c → Kept c ns root free → (k : K) → find c (tree_of ns root) k ≡ value_at c (pairs_of ns root) k
  sound_find w s k = find_is c w (tree_of ns root) k (subst (λ t. Rises c (entries t)) (sym (rep_tree c ns root free s.0 s.1 s.2)) s.2.sorted)
