-- A table and its head belong together in one way at most, so that the fact may stand in a ghost field.
use Rattle.std.specs.Prelude.{◌≡◌, ℕ, List, [], ◌∷◌, Some, Option}
use Rattle.std.specs.declared.cmp.Ordering.{Ordering}
use Rattle.std.specs.Coded.{×_prop, Unit-prop, le_prop}
use Rattle.std.specs.List.{slice_get}
use Rattle.std.proofs.Common.{sym, refl, ap, ◌∙◌}
use Rattle.std.proofs.Props.{props}
use mathlib.Core.HLevel.{is_prop→PathP}
use Rattle.ordered_map.specs.declared.head.Head.{Head}
use Rattle.ordered_map.specs.declared.node.Node.{Node}
use Rattle.ordered_map.specs.Tree.{Tree, leaf, node, top, Balanced, Rises}
use Rattle.ordered_map.specs.Table.{Holds, Chained, Rep, Kept, first}
use Rattle.ordered_map.specs.Map.{Sound, served}

pub some_same : {X : Type 0} (o : Option X) (x y : X) → o ≡ Some x → o ≡ Some y → x ≡ y
some_same o x y p q = Prim.cc

-- ---- the places tell the tree and the free places

module _ {K : Type 0} (ns : List (Node K)) where
  tree_same : (t u : Tree K) → Holds ns t → Holds ns u → top t ≡ top u → t ≡ u
  tree_same leaf leaf x y e = refl
  tree_same leaf (node q j w a b) x y e = Prim.cc
  tree_same (node p k v l r) leaf x y e = Prim.cc
  tree_same (node p k v l r) (node q j w a b) x y e =
      let f : p ≡ q = Prim.cc in
      let n = some_same (slice_get ns p) _ _ x.0 (ap (slice_get ns) f ∙ y.0) in
      let s = tree_same l a x.1 y.1 (ap (λ (m : Node K). m.left) n) in
      let t = tree_same r b x.2 y.2 (ap (λ (m : Node K). m.right) n) in
      λ i. node (f i) ((n i).key) ((n i).value) (s i) (t i)

  chain_same : (fs gs : List ℕ) → Chained ns fs → Chained ns gs → first fs ≡ first gs → fs ≡ gs
  chain_same [] [] x y e = refl
  chain_same [] (g ∷ gs) x y e = Prim.cc
  chain_same (f ∷ fs) [] x y e = Prim.cc
  chain_same (f ∷ fs) (g ∷ gs) x y e =
      let d : f ≡ g = Prim.cc in
      let n = some_same (slice_get ns f) x.0.0 y.0.0 x.0.1 (ap (slice_get ns) d ∙ y.0.1) in
      let r = chain_same fs gs x.1 y.1 (sym x.0.2 ∙ (ap (λ (m : Node K). m.left) n ∙ y.0.2)) in
      λ i. d i ∷ r i

-- ---- each fact about them has one proof at most

Balanced-prop : {K : Type 0} (t : Tree K) → IsProp (Balanced t)
Balanced-prop leaf = Unit-prop
Balanced-prop (node p k v l r) =
    λ x y i. (le_prop x.0 y.0 i, le_prop x.1 y.1 i, Balanced-prop l x.2 y.2 i, Balanced-prop r x.3 y.3 i)

Rises-prop : {K : Type 0} (c : K → K → Ordering) (es : List (K × ℕ)) → IsProp (Rises c es)
Rises-prop c [] = Unit-prop
Rises-prop c (e ∷ es) = ×_prop (Prim.hlevel props) (Rises-prop c es)

module _ {K : Type 0} (set : IsSet K) (ns : List (Node K)) where
  at_prop : (p : ℕ) (n : Node K) → IsProp (slice_get ns p ≡ Some n)
  at_prop p n = Prim.hlevel (props, set)

  Holds-prop : (t : Tree K) → IsProp (Holds ns t)
  Holds-prop leaf = Unit-prop
  Holds-prop (node p k v l r) =
      λ x y i. (at_prop p _ x.0 y.0 i, Holds-prop l x.1 y.1 i, Holds-prop r x.2 y.2 i)

  next_prop : (f : ℕ) (g : Option ℕ) → IsProp ((n : Node K) × (slice_get ns f ≡ Some n) × (n.left ≡ g))
  next_prop f g x y =
      let p = some_same (slice_get ns f) x.0 y.0 x.1 y.1 in
      let lies = is_prop→PathP (λ j. slice_get ns f ≡ Some (p j)) (λ j. at_prop f (p j)) x.1 y.1 in
      let next = is_prop→PathP (λ j. (p j).left ≡ g) (λ j. Prim.hlevel props) x.2 y.2 in
      λ i. (p i, lies i, next i)

  Chained-prop : (fs : List ℕ) → IsProp (Chained ns fs)
  Chained-prop [] = Unit-prop
  Chained-prop (f ∷ fs) = ×_prop (next_prop f (first fs)) (Chained-prop fs)

  module _ (c : K → K → Ordering) (root free : Option ℕ) where
    Rep-prop : (t : Tree K) (fs : List ℕ) → IsProp (Rep c ns root free t fs)
    Rep-prop t fs = Prim.hlevel (props, Holds-prop, Chained-prop, Balanced-prop, Rises-prop)

    Kept-prop : IsProp (Kept c ns root free)
    Kept-prop x y =
        let p = tree_same ns x.0 y.0 x.2.held y.2.held (sym x.2.rooted ∙ y.2.rooted) in
        let q = chain_same ns x.1 y.1 x.2.chained y.2.chained (sym x.2.freed ∙ y.2.freed) in
        let r = is_prop→PathP (λ j. Rep c ns root free (p j) (q j)) (λ j. Rep-prop (p j) (q j)) x.2 y.2 in
        λ i. (p i, q i, r i)

pub Sound-prop : {K : Type 0} → IsSet K → (c : K → K → Ordering) (ns : List (Node K)) (h : Head) → IsProp (Sound c ns h)
Sound-prop set c ns h =
    let kept = Kept-prop set (served ns) c h.root h.free in
    Prim.hlevel (props, kept, Rises-prop)
