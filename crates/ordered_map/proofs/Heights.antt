-- How high a balanced tree of so many nodes can be.
use Rattle.std.proofs.Common.{◌≡◌, ℕ, zero, suc, ◌+◌, ◌<◌, ◌≤◌, max, Ordering, Less, Equal, Greater, ⊎_elim, le_trans, le_refl, arith}
use native.Mathlib.Decide.{le_ind}
use Rattle.std.specs.Ordering.{match_ordering as by_order}
use Rattle.std.proofs.lemmas.Bool.{cases_lt, cases_order}
use Rattle.ordered_map.specs.Tree.{Tree, leaf, node, height, size, Balanced, least, steps}

pub least_up : (n : ℕ) → least n ≤ least (suc n)
least_up zero = omega arith
least_up (suc n) = omega arith

pub least_mono : (a b : ℕ) → a ≤ b → least a ≤ least b
least_mono a b h = le_ind (λ m. least a ≤ least m) (le_refl _) (λ m _ ih. le_trans ih (least_up m)) b h

same_step : (a : ℕ) → least (suc a) ≤ least a + least a + 1
same_step zero = omega arith
same_step (suc n) = let h = least_up n in omega arith

at_most : (a b m : ℕ) → m ≡ suc (suc a) → b ≡ suc a → least m ≤ least a + least b + 1
at_most a b m e f = rw (e, f) (omega arith)

pub least_step : (a b : ℕ) → a ≤ b + 1 → b ≤ a + 1 → least (max a b + 1) ≤ least a + least b + 1
least_step a b h k =
    ⊎_elim
    (λ e. let m : max a b + 1 ≡ suc a = omega arith in rw (m, ← e) (same_step a))
    (⊎_elim
    (λ lt. at_most a b (max a b + 1) (omega arith) (omega arith))
    (λ lt. let x = at_most b a (max a b + 1) (omega arith) (omega arith) in omega arith))
    (cases_order a b)

pub least_size : {K : Type 0} (t : Tree K) → Balanced t → least (height t) ≤ size t
least_size leaf b = omega arith
least_size (node p k v l r) b =
    let x = least_size l b.2 in
    let y = least_size r b.3 in
    let s = least_step (height l) (height r) b.0 b.1 in
    omega arith

-- at most n nodes, and the fewest of a tree of height h + 1 are more: then the height is at most h
pub low_by : {K : Type 0} (n h : ℕ) (t : Tree K) → Balanced t → size t ≤ n → n < least (h + 1) → height t ≤ h
low_by n h t b s l =
    ⊎_elim
    (λ u. omega arith)
    (λ u. let x = least_size t b in let y = least_mono (h + 1) (height t) u in omega arith)
    (cases_lt (height t) (h + 1))

pub low : {K : Type 0} (t : Tree K) → Balanced t → size t ≤ 1024 → height t ≤ 14
low t b n = low_by 1024 14 t b n (omega arith)

ranked_le : (o : Ordering) (x y h g : ℕ) → x ≤ h → y ≤ g → by_order o x 0 y ≤ max h g
ranked_le Less x y h g p q = omega arith
ranked_le Equal x y h g p q = omega arith
ranked_le Greater x y h g p q = omega arith

pub steps_low : {K : Type 0} (c : K → K → Ordering) (t : Tree K) (k : K) → steps c t k ≤ height t
steps_low c leaf k = omega arith
steps_low c (node p j v l r) k =
    let x = ranked_le (c k j) (steps c l k) (steps c r k) (height l) (height r) (steps_low c l k) (steps_low c r k) in omega arith
