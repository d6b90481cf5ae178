-- The way down.
use Rattle.std.proofs.Common.{◌≡◌, ℕ, ◌+◌, ◌<◌, ◌≤◌, max, Bool, true, false, cond, List, [], ◌∷◌, ◌++◌, map, length, get_or, is_some, Some, None, Option, Ordering, Less, Equal, Greater, sym, refl, ap, ◌∙◌, subst, append_assoc, append-nil, arith}
use Rattle.std.proofs.lemmas.List.{length-map}
use Rattle.std.specs.List.{slice_get, AllByRecursion}
use Rattle.std.specs.Ordering.{MatchOrdering}
use Rattle.std.proofs.ByRecursion.{All-append}
use Rattle.ordered_map.specs.declared.node.Node.{Node}
use Rattle.ordered_map.specs.declared.path.Step.{Step}
use Rattle.ordered_map.specs.Order.{Order}
use Rattle.ordered_map.specs.Tree.{Tree, leaf, node, top, height, entries, Balanced, Rises, value_at, find}
use Rattle.ordered_map.specs.Table.{rec, Holds, Kept, tree_of}
use Rattle.ordered_map.specs.Edit.{bond}
use Rattle.ordered_map.specs.Path.{Frame, fill, plug, step_of, Framed, Fit, tall, before, after, Falling, Landed, Found}
use Rattle.std.proofs.lemmas.Option.{slice_get_within, get_or_from_slice_get}
use Rattle.ordered_map.proofs.Bonds.{height-bond, level_parts}
use Rattle.ordered_map.proofs.Lookups.{rep_tree, rep_low}
use Rattle.ordered_map.proofs.Sorted.{value_left, value_right, rises_left, rises_right, rises_mid, under_less, over_mid, over_equal, value_under, find_is}

-- ---- a tree under frames, taken apart

bond_held : {K : Type 0} (ns : List (Node K)) (s : Bool) (p : ℕ) (k : K) (v : ℕ) (a b : Tree K) → Holds ns (bond s p k v a b) → (h : ℕ) × (slice_get ns p ≡ Some (rec k v (cond s (top a) (top b)) (cond s (top b) (top a)) h)) × Holds ns a × Holds ns b
bond_held ns true p k v a b h = (max (height a) (height b) + 1, h.0, h.1, h.2)
bond_held ns false p k v a b h = (max (height b) (height a) + 1, h.0, h.2, h.1)

cond_back : (s : Bool) (a b : Option ℕ) → cond s (cond s b a) (cond s a b) ≡ b
cond_back true a b = refl
cond_back false a b = refl

pub holds_plug : {K : Type 0} (ns : List (Node K)) (fs : List (Frame K)) (t : Tree K) → Holds ns (plug fs t) → Framed ns fs × Holds ns t
holds_plug ns [] t h = (tt, h)
holds_plug ns (f ∷ fs) t h =
    let x = holds_plug ns fs (fill f t) h in
    let y = bond_held ns f.left f.place f.key f.value t f.other x.1 in
    ((record { at = rec f.key f.value (cond f.left (top t) (top f.other)) (cond f.left (top f.other) (top t)) y.0; lies = y.1; keyed = refl; valued = refl; far = cond_back f.left (top t) (top f.other); held = y.3 }, x.0), y.2)

pub height-plug : {K : Type 0} (fs : List (Frame K)) (t : Tree K) → height (plug fs t) ≡ tall (height t) fs
height-plug [] t = refl
height-plug (f ∷ fs) t = height-plug fs (fill f t) ∙ ap (λ h. tall h fs) (height-bond f.left f.place f.key f.value t f.other)

pub tall_deep : {K : Type 0} (h : ℕ) (fs : List (Frame K)) → length fs + h ≤ tall h fs
tall_deep h [] = omega arith
tall_deep h (f ∷ fs) = let x = tall_deep (max h (height f.other) + 1) fs in omega arith

pub level_plug : {K : Type 0} (fs : List (Frame K)) (t : Tree K) → Balanced (plug fs t) → Fit (height t) fs × Balanced t
level_plug [] t h = (tt, h)
level_plug (f ∷ fs) t h =
    let x = level_plug fs (fill f t) h in
    let y = level_parts f.left f.place f.key f.value t f.other x.1 in
    ((y.0, y.1, y.3, subst (λ n. Fit n fs) (height-bond f.left f.place f.key f.value t f.other) x.0), y.2)

entries-bond : {K : Type 0} (s : Bool) (p : ℕ) (k : K) (v : ℕ) (a b : Tree K) → entries (bond s p k v a b) ≡ cond s [] (entries b ++ (k, v) ∷ []) ++ (entries a ++ cond s ((k, v) ∷ entries b) [])
entries-bond true p k v a b = refl
entries-bond false p k v a b = simp (append_assoc, append-nil)

pub entries-plug : {K : Type 0} (fs : List (Frame K)) (t : Tree K) → entries (plug fs t) ≡ before fs ++ (entries t ++ after fs)
entries-plug [] t = sym (append-nil (entries t))
entries-plug (f ∷ fs) t =
    entries-plug fs (fill f t) ∙ (ap (λ es. before fs ++ (es ++ after fs)) (entries-bond f.left f.place f.key f.value t f.other) ∙ simp append_assoc)

-- a path has at most as many steps as the whole is high
pub path_low : {K : Type 0} (path : List Step) (fs : List (Frame K)) (t u : Tree K) → path ≡ map step_of fs → plug fs t ≡ u → length path + height t ≤ height u
path_low path fs t u on pl =
    let a : length path ≡ length fs = ap length on ∙ length-map fs step_of in
    let b = tall_deep (height t) fs in
    let d : height u ≡ tall (height t) fs = ap height (sym pl) ∙ height-plug fs t in
    omega arith

-- ---- what the way goes over

pub record Ground {K : Type 0} (c : K → K → Ordering) (ns : List (Node K)) (t : Tree K) : Type 0 where
  pub held : Holds ns t
  pub low : height t ≤ 14
  pub sorted : Rises c (entries t)

pub ground : {K : Type 0} {c : K → K → Ordering} {ns : List (Node K)} {root free : Option ℕ} → Kept c ns root free → Ground c ns (tree_of ns root)
ground {c = c} {ns = ns} {root = root} {free = free} s =
    let e = rep_tree c ns root free s.0 s.1 s.2 in
    subst (Ground c ns) (sym e) (record { held = s.2.held; low = rep_low c ns root free s.0 s.1 s.2; sorted = s.2.sorted })

pub falls_none : {K : Type 0} {c : K → K → Ordering} {t : Tree K} {k : K} {root : Option ℕ} → root ≡ top t → Falling c t k [] root
falls_none {t = t} e = record { frames = []; here = t; at_is = e; whole = refl; on = refl; over = tt; under = tt }

abbrev pub step_at : ℕ → Bool → Step
step_at p s = record { place = p; left = s }

module _ {K : Type 0} (c : K → K → Ordering) (w : Order c) (ns : List (Node K)) (t : Tree K) (k : K) (path : List Step) (at : Option ℕ) (p : ℕ) (i : at ≡ Some p) (g : Ground c ns t) where
  abbrev pub Fell : Node K → Ordering → Type 0
  Fell x o = MatchOrdering o (Falling c t k (step_at p true ∷ path) x.left) ((is_some (value_at c (entries t) k) ≡ true) × Found c t k path p) (Falling c t k (step_at p false ∷ path) x.right)

  module _ (fs : List (Frame K)) (on : path ≡ map step_of fs) (ov : AllByRecursion (λ e. c k e.0 ≡ Greater) (before fs)) (un : AllByRecursion (λ e. c k e.0 ≡ Less) (after fs)) where
    fell_node : (j : K) (v : ℕ) (l r : Tree K) (h : ℕ) (o : Ordering) → plug fs (node p j v l r) ≡ t → Rises c (entries l ++ (j, v) ∷ entries r) → c k j ≡ o → Fell (rec j v (top l) (top r) h) o
    fell_node j v l r h Less pl ri o = record {
      frames = record { place = p; left = true; key = j; value = v; other = r } ∷ fs;
      here = l;
      at_is = refl;
      whole = pl;
      on = cc;
      over = All-append (λ e. c k e.0 ≡ Greater) (before fs) [] ov tt;
      under = (o, All-append (λ e. c k e.0 ≡ Less) (entries r) (after fs) (under_less c w k j (entries r) o (rises_right c (entries l) ((j, v) ∷ entries r) ri).0) un);
    }
    fell_node j v l r h Equal pl ri o =
        let a : value_at c (entries t) k ≡ value_at c (before fs ++ (entries (node p j v l r) ++ after fs)) k = ap (λ es. value_at c es k) (ap entries (sym pl) ∙ entries-plug fs (node p j v l r)) in
        let b = value_right c k (before fs) (entries (node p j v l r) ++ after fs) ov in
        let d = value_left c k (entries (node p j v l r)) (after fs) un in
        let f : find c (node p j v l r) k ≡ value_at c (entries (node p j v l r)) k = find_is c w (node p j v l r) k ri in
        let y : find c (node p j v l r) k ≡ Some v = rw o refl in
        let kj = w.exact k j o in (
          ap is_some (a ∙ (b ∙ (d ∙ (sym f ∙ y)))),
          record {
            frames = fs;
            value = v;
            left = l;
            right = r;
            whole = ap (λ i. plug fs (node p i v l r)) kj ∙ pl;
            on = on;
            over = ov;
            same = ap (c k) kj ∙ o;
            over_left = over_equal c w k j (entries l) o (rises_mid c (entries l) (j, v) (entries r) ri);
          },
        )
    fell_node j v l r h Greater pl ri o = record {
      frames = record { place = p; left = false; key = j; value = v; other = l } ∷ fs;
      here = r;
      at_is = refl;
      whole = pl;
      on = cc;
      over = All-append (λ e. c k e.0 ≡ Greater) (before fs) (entries l ++ (j, v) ∷ []) ov (All-append (λ e. c k e.0 ≡ Greater) (entries l) ((j, v) ∷ []) (over_mid c w k j (entries l) o (rises_mid c (entries l) (j, v) (entries r) ri)) (o, tt));
      under = un;
    }

    fall_at : (here : Tree K) → at ≡ top here → plug fs here ≡ t → (p < length ns) × (length path < 14) × ((x : Node K) (o : Ordering) → x ≡ get_or ns p x → o ≡ c k x.key → Fell x o)
    fall_at leaf e pl = cc
    fall_at (node p' j v l m) e pl0 =
        let d : p' ≡ p = cc in
        let pl : plug fs (node p j v l m) ≡ t = ap (λ a. plug fs (node a j v l m)) (sym d) ∙ pl0 in
        let hp = holds_plug ns fs (node p j v l m) (subst (Holds ns) (sym pl) g.held) in
        let x : Node K = rec j v (top l) (top m) (max (height l) (height m) + 1) in
        let q : slice_get ns p ≡ Some x = hp.1.0 in
        let pd = path_low path fs (node p j v l m) t on pl in
        let lo = g.low in
        let dl : length path < 14 = omega arith in
        let ri : Rises c (before fs ++ (entries (node p j v l m) ++ after fs)) = subst (Rises c) (ap entries (sym pl) ∙ entries-plug fs (node p j v l m)) g.sorted in
        let ri2 = rises_left c (entries (node p j v l m)) (after fs) (rises_right c (before fs) (entries (node p j v l m) ++ after fs) ri) in (
          slice_get_within ns p x q,
          dl,
          λ y o r u.
              let z : y ≡ x = r ∙ get_or_from_slice_get ns p x y q in
              let uo : c k j ≡ o = sym (u ∙ ap (λ (n : Node K). c k n.key) z) in
              subst (λ a. Fell a o) (sym z) (fell_node j v l m (max (height l) (height m) + 1) o pl ri2 uo),
        )

pub fall : {K : Type 0} {c : K → K → Ordering} (w : Order c) {ns : List (Node K)} {t : Tree K} {k : K} {path : List Step} {at : Option ℕ} {p : ℕ} (i : at ≡ Some p) (g : Ground c ns t) → Falling c t k path at → (p < length ns) × (length path < 14) × ((x : Node K) (o : Ordering) → x ≡ get_or ns p x → o ≡ c k x.key → Fell c w ns t k path at p i g x o)
fall w i g f = fall_at _ w _ _ _ _ _ _ i g f.frames f.on f.over f.under f.here f.at_is f.whole

-- the way ends where there is no record
module _ {K : Type 0} {c : K → K → Ordering} {t : Tree K} {k : K} {path : List Step} {at : Option ℕ} where
  land_at : (fs : List (Frame K)) (here : Tree K) → at ≡ top here → plug fs here ≡ t → path ≡ map step_of fs → AllByRecursion (λ e. c k e.0 ≡ Greater) (before fs) → AllByRecursion (λ e. c k e.0 ≡ Less) (after fs) → at ≡ None → Landed c t k path
  land_at fs leaf e pl on ov un z = record { frames = fs; whole = pl; on = on; over = ov; under = un }
  land_at fs (node p j v l r) e pl on ov un z = cc

  pub land : Falling c t k path at → at ≡ None → Landed c t k path
  land f = land_at f.frames f.here f.at_is f.whole f.on f.over f.under

pub landed_absent : {K : Type 0} {c : K → K → Ordering} {t : Tree K} {k : K} {path : List Step} → Landed c t k path → value_at c (entries t) k ≡ None
landed_absent {c = c} {k = k} l =
    ap (λ es. value_at c es k) (ap entries (sym l.whole) ∙ entries-plug l.frames leaf) ∙ (value_right c k (before l.frames) (after l.frames) l.over ∙ value_under c k (after l.frames) l.under)
