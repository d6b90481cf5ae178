-- Joining a record to two trees.
use Rattle.std.proofs.Common.{◌≡◌, ℕ, ◌+◌, ◌<◌, ◌≤◌, max, Bool, true, false, cond, List, length, set, Some, Option, refl, ap, ◌∙◌, arith, length-set}
use Rattle.std.specs.List.{slice_get}
use Rattle.std.proofs.lemmas.Bool.{eq-eqb, ne_eqb}
use Rattle.ordered_map.specs.declared.node.Node.{Node}
use Rattle.ordered_map.specs.Tree.{Tree, leaf, node, top, height, size, occ, one, Balanced}
use Rattle.ordered_map.specs.Table.{rec, Holds}
use Rattle.ordered_map.specs.Edit.{height_in, ht, linked, Joined, bond, Loose, Glued, Opened}
use Rattle.std.proofs.lemmas.Option.{slice_get_within}
use Rattle.ordered_map.proofs.Nths.{nth_set_same, nth_set_other}

-- ---- places

pub one_self : (p : ℕ) → one p p ≡ 1
one_self p = rw (eq-eqb p p refl) refl

pub one_other : (q p : ℕ) → (q ≡ p → ⊥) → one q p ≡ 0
one_other q p h = rw (ne_eqb q p h) refl

pub one_zero : (q p : ℕ) → one q p ≡ 0 → q ≡ p → ⊥
one_zero q p h e = let z = one_self p in let y : one q p ≡ one p p = ap (λ a. one a p) e in omega arith

pub holds_kept : {K : Type 0} (ns ms : List (Node K)) (t : Tree K) → ((q : ℕ) → 0 < occ q t → slice_get ms q ≡ slice_get ns q) → Holds ns t → Holds ms t
holds_kept ns ms leaf k h = tt
holds_kept ns ms (node p j v l r) k h =
    let z = one_self p in
    (k p (omega arith) ∙ h.0, holds_kept ns ms l (λ q u. k q (omega arith)) h.1, holds_kept ns ms r (λ q u. k q (omega arith)) h.2)

-- what is kept but at p keeps a tree without p
pub holds_off : {K : Type 0} (ns ms : List (Node K)) (t : Tree K) (p : ℕ) → ((q : ℕ) → (q ≡ p → ⊥) → slice_get ms q ≡ slice_get ns q) → occ p t ≡ 0 → Holds ns t → Holds ms t
holds_off ns ms t p k z = holds_kept ns ms t (λ q u. k q (λ e. let y : occ q t ≡ occ p t = ap (λ a. occ a t) e in absurd (omega arith)))

-- ---- a bond

pub top-bond : {K : Type 0} (s : Bool) (p : ℕ) (k : K) (v : ℕ) (a b : Tree K) → top (bond s p k v a b) ≡ Some p
top-bond true p k v a b = refl
top-bond false p k v a b = refl

pub height-bond : {K : Type 0} (s : Bool) (p : ℕ) (k : K) (v : ℕ) (a b : Tree K) → height (bond s p k v a b) ≡ max (height a) (height b) + 1
height-bond true p k v a b = refl
height-bond false p k v a b = omega arith

pub size-bond : {K : Type 0} (s : Bool) (p : ℕ) (k : K) (v : ℕ) (a b : Tree K) → size (bond s p k v a b) ≡ size a + size b + 1
size-bond true p k v a b = refl
size-bond false p k v a b = omega arith

pub occ-bond : {K : Type 0} (q : ℕ) (s : Bool) (p : ℕ) (k : K) (v : ℕ) (a b : Tree K) → occ q (bond s p k v a b) ≡ one q p + (occ q a + occ q b)
occ-bond q true p k v a b = refl
occ-bond q false p k v a b = omega arith

pub level_bond : {K : Type 0} (s : Bool) (p : ℕ) (k : K) (v : ℕ) (a b : Tree K) → height a ≤ height b + 1 → height b ≤ height a + 1 → Balanced a → Balanced b → Balanced (bond s p k v a b)
level_bond true p k v a b h g x y = (h, g, x, y)
level_bond false p k v a b h g x y = (g, h, y, x)

pub level_parts : {K : Type 0} (s : Bool) (p : ℕ) (k : K) (v : ℕ) (a b : Tree K) → Balanced (bond s p k v a b) → (height a ≤ height b + 1) × (height b ≤ height a + 1) × Balanced a × Balanced b
level_parts true p k v a b h = h
level_parts false p k v a b h = (h.1, h.0, h.3, h.2)

pub holds_bond : {K : Type 0} (ns : List (Node K)) (s : Bool) (p : ℕ) (k : K) (v : ℕ) (a b : Tree K) → slice_get ns p ≡ Some (rec k v (cond s (top a) (top b)) (cond s (top b) (top a)) (max (height a) (height b) + 1)) → Holds ns a → Holds ns b → Holds ns (bond s p k v a b)
holds_bond ns true p k v a b e x y = (e, x, y)
holds_bond ns false p k v a b e x y =
    let z : max (height a) (height b) + 1 ≡ max (height b) (height a) + 1 = omega arith in
    (e ∙ ap (λ h. Some (rec k v (top b) (top a) h)) z, y, x)

pub ht-top : {K : Type 0} (ns : List (Node K)) (t : Tree K) → Holds ns t → ht ns (top t) ≡ height t
ht-top ns leaf h = refl
ht-top ns (node p k v l r) h = ap height_in h.0

-- ---- open

pub open_tree : {K : Type 0} (ns : List (Node K)) (s : Bool) (a : Tree K) → 0 < height a → Holds ns a → Opened ns s a
open_tree ns s leaf z h = absurd (omega (arith, z))
open_tree ns true (node p k v l r) z h = record { place = p; key = k; value = v; outer = l; inner = r; at = refl; is = refl; within = slice_get_within ns p _ h.0; lies = h.0; held_outer = h.1; held_inner = h.2 }
open_tree ns false (node p k v l r) z h =
    let e : max (height l) (height r) + 1 ≡ max (height r) (height l) + 1 = omega arith in
    record { place = p; key = k; value = v; outer = r; inner = l; at = refl; is = refl; within = slice_get_within ns p _ h.0; lies = h.0 ∙ ap (λ d. Some (rec k v (top l) (top r) d)) e; held_outer = h.2; held_inner = h.1 }

-- ---- join

module _ {K : Type 0} {ns : List (Node K)} {p : ℕ} {k : K} {v : ℕ} {a b : Tree K} (w : Loose ns p k v a b) where
  pub ready : {near far : Option ℕ} → near ≡ top a → far ≡ top b → height a < 255 → height b < 255 → (p < length ns) × (ht ns near < 255) × (ht ns far < 255)
  ready {near} {far} e f x y =
      let l = slice_get_within ns p w.at w.lies in
      let g : ht ns near ≡ height a = ap (ht ns) e ∙ ht-top ns a w.held_a in
      let h : ht ns far ≡ height b = ap (ht ns) f ∙ ht-top ns b w.held_b in
      (l, omega arith, omega arith)

  pub glue : (ms : List (Node K)) (s : Bool) {near far : Option ℕ} → near ≡ top a → far ≡ top b → Joined ns ms p s near far → Glued ns ms s p k v a b
  glue ms s {near} {far} e f j =
      let l = slice_get_within ns p w.at w.lies in
      let g : ht ns near ≡ height a = ap (ht ns) e ∙ ht-top ns a w.held_a in
      let h : ht ns far ≡ height b = ap (ht ns) f ∙ ht-top ns b w.held_b in
      let x : Node K = rec k v (cond s (top a) (top b)) (cond s (top b) (top a)) (max (height a) (height b) + 1) in
      let i : linked w.at s near far (max (ht ns near) (ht ns far) + 1) ≡ x = rw (w.keyed, w.valued, g, h, e, f) refl in
      let m : ms ≡ set ns p x = j w.at w.lies ∙ ap (set ns p) i in
      let keep : (q : ℕ) → (q ≡ p → ⊥) → slice_get ms q ≡ slice_get ns q = λ q ne. ap (λ l. slice_get l q) m ∙ nth_set_other ns p q x ne in
      let z = one_self p in
      let u = w.apart p in
      record {
        held = holds_bond ms s p k v a b (ap (λ l. slice_get l p) m ∙ nth_set_same ns p x l) (holds_off ns ms a p keep (omega arith) w.held_a) (holds_off ns ms b p keep (omega arith) w.held_b);
        kept = keep;
        long = ap length m ∙ length-set ns p x;
      }
