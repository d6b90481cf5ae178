-- Entering a pair.
use Rattle.std.proofs.Common.{◌≡◌, ℕ, ◌+◌, ◌<◌, List, [], ◌∷◌, ◌++◌, length, get_or, set, Some, None, Option, Ordering, Less, Greater, sym, refl, ap, ◌∙◌, subst, arith, length-append, length-set}
use Rattle.std.specs.List.{slice_get, AllByRecursion}
use Rattle.std.specs.Ordering.{ordering_reverse}
use Rattle.ordered_map.specs.declared.head.Head.{Head}
use Rattle.ordered_map.specs.declared.node.Node.{Node}
use Rattle.ordered_map.specs.declared.path.Step.{Step}
use Rattle.ordered_map.specs.Order.{Order}
use Rattle.ordered_map.specs.Tree.{Tree, leaf, node, height, size, occ, one, entries, Balanced, Rises, value_at}
use Rattle.ordered_map.specs.Table.{rec, Holds, Rep, Kept, tree_of, pairs_of, first, Chained, occs}
use Rattle.ordered_map.specs.Path.{Frame, fill, plug, occ_frames, tall, before, after, Landed, Rising, Risen}
use Rattle.ordered_map.specs.Enter.{put, Entered}
use Rattle.std.proofs.lemmas.Option.{slice_get_within, get_or_from_slice_get}
use Rattle.ordered_map.proofs.Nths.{nth_set_same, nth_set_other}
use Rattle.ordered_map.proofs.Bonds.{one_self, one_zero, size-bond}
use Rattle.ordered_map.proofs.Lookups.{rep_tree, rep_low}
use Rattle.ordered_map.proofs.Rises.{occ-plug, framed_kept}
use Rattle.ordered_map.proofs.Falls.{holds_plug, height-plug, level_plug, entries-plug}
use Rattle.ordered_map.proofs.Sorted.{value_under, value_right}

-- ---- lists

module _ {K : Type 0} (c : K → K → Ordering) (k : K) (v : ℕ) where
  put_under : (es : List (K × ℕ)) → AllByRecursion (λ e. c k e.0 ≡ Less) es → put c es k v ≡ (k, v) ∷ es
  put_under [] h = refl
  put_under (e ∷ es) h = rw h.0 refl

  pub put_is : (xs ys : List (K × ℕ)) → AllByRecursion (λ e. c k e.0 ≡ Greater) xs → AllByRecursion (λ e. c k e.0 ≡ Less) ys → put c (xs ++ ys) k v ≡ xs ++ (k, v) ∷ ys
  put_is [] ys o u = put_under ys u
  put_is (x ∷ xs) ys o u = rw o.0 (ap (λ es. x ∷ es) (put_is xs ys o.1 u))

  all_mid : (P : K × ℕ → Type 0) (xs ys : List (K × ℕ)) → P (k, v) → AllByRecursion P (xs ++ ys) → AllByRecursion P (xs ++ (k, v) ∷ ys)
  all_mid P [] ys p h = (p, h)
  all_mid P (x ∷ xs) ys p h = (h.0, all_mid P xs ys p h.1)

  pub rises_put : Order c → (xs ys : List (K × ℕ)) → AllByRecursion (λ e. c k e.0 ≡ Greater) xs → AllByRecursion (λ e. c k e.0 ≡ Less) ys → Rises c (xs ++ ys) → Rises c (xs ++ (k, v) ∷ ys)
  rises_put w [] ys o u r = (u, r)
  rises_put w (x ∷ xs) ys o u r = (all_mid (λ d. c x.0 d.0 ≡ Less) xs ys (w.flip x.0 k ∙ ap ordering_reverse o.0) r.0, rises_put w xs ys o.1 u r.1)

pub length-entries : {K : Type 0} (t : Tree K) → length (entries t) ≡ size t
length-entries leaf = refl
length-entries (node p k v l r) =
    let a = length-append (entries l) ((k, v) ∷ entries r) in
    let b = length-entries l in
    let d = length-entries r in
    omega arith

pub size-plug : {K : Type 0} (fs : List (Frame K)) (t u : Tree K) → size u ≡ size t + 1 → size (plug fs u) ≡ size (plug fs t) + 1
size-plug [] t u e = e
size-plug (f ∷ fs) t u e =
    size-plug fs (fill f t) (fill f u)
    (let a = size-bond f.left f.place f.key f.value t f.other in
    let b = size-bond f.left f.place f.key f.value u f.other in
    omega arith)

pub chained_kept : {K : Type 0} (ns ms : List (Node K)) (fs : List ℕ) → ((q : ℕ) → 0 < occs q fs → slice_get ms q ≡ slice_get ns q) → Chained ns fs → Chained ms fs
chained_kept ns ms [] k h = tt
chained_kept ns ms (f ∷ fs) k h =
    let z = one_self f in
    ((h.0.0, k f (omega arith) ∙ h.0.1, h.0.2), chained_kept ns ms fs (λ q u. k q (omega arith)) h.1)

-- ---- the free places

full_at : {K : Type 0} (c : K → K → Ordering) (ns : List (Node K)) (root free : Option ℕ) (t : Tree K) (fs : List ℕ) → Rep c ns root free t fs → free ≡ None → size t ≡ length ns
full_at c ns root free t [] r e = let n = r.counted in omega arith
full_at c ns root free t (f ∷ fs) r e = let d = r.freed in cc

pub full : {K : Type 0} {c : K → K → Ordering} {ns : List (Node K)} {root free : Option ℕ} → Kept c ns root free → free ≡ None → length (pairs_of ns root) ≡ length ns
full {c = c} {ns = ns} {root = root} {free = free} s e = ap (λ t. length (entries t)) (rep_tree c ns root free s.0 s.1 s.2) ∙ (length-entries s.0 ∙ full_at c ns root free s.0 s.1 s.2 e)

pub record Room {K : Type 0} (c : K → K → Ordering) (ns : List (Node K)) (root : Option ℕ) (free : ℕ) : Type 0 where
  pub tree : Tree K
  pub rest : List ℕ
  pub rep : Rep c ns root (Some free) tree (free ∷ rest)
  pub within : free < length ns

room_at : {K : Type 0} (c : K → K → Ordering) (ns : List (Node K)) (root : Option ℕ) (free : ℕ) (t : Tree K) (fs : List ℕ) → Rep c ns root (Some free) t fs → Room c ns root free
room_at c ns root free t [] r = let d = r.freed in cc
room_at c ns root free t (f ∷ fs) r =
    let i = slice_get_within ns f r.chained.0.0 r.chained.0.1 in
    let d : free ≡ f = (let e = r.freed in cc) in
    record { tree = t; rest = fs; rep = subst (λ g. Rep c ns root (Some free) t (g ∷ fs)) (sym d) r; within = omega arith }

pub room : {K : Type 0} {c : K → K → Ordering} {ns : List (Node K)} {root at : Option ℕ} → Kept c ns root at → {free : ℕ} → at ≡ Some free → Room c ns root free
room {c = c} {ns = ns} {root = root} s e = room_at c ns root _ s.0 s.1 (subst (λ (f : Option ℕ). Rep c ns root f s.0 s.1) e s.2)

abbrev pub head_of : Option ℕ → Option ℕ → ℕ → Head
head_of root free n = record { root = root; free = free; count = n }

-- ---- the new record

module _ {K : Type 0} {c : K → K → Ordering} (w : Order c) {ns : List (Node K)} {root : Option ℕ} {free : ℕ} {k : K} (v : ℕ) (m : Room c ns root free) {path : List Step} (l0 : Landed c (tree_of ns root) k path) where
  is : tree_of ns root ≡ m.tree
  is = rep_tree c ns root (Some free) m.tree (free ∷ m.rest) m.rep

  pub l : Landed c m.tree k path
  l = subst (λ (t : Tree K). Landed c t k path) is l0

  places : (q : ℕ) → occ_frames q l.frames ≡ occ q m.tree
  places q = let a = occ-plug q l.frames leaf in let b : occ q (plug l.frames leaf) ≡ occ q m.tree = ap (occ q) l.whole in omega arith

  pub rising : Rising (set ns free (rec k v None None 1)) path (Some free) l.frames (node free k v leaf leaf) 0
  rising =
      let hp = holds_plug ns l.frames leaf (subst (Holds ns) (sym l.whole) m.rep.held) in
      let lp = level_plug l.frames leaf (subst Balanced (sym l.whole) m.rep.level) in
      let th : height m.tree ≡ tall 0 l.frames = ap height (sym l.whole) ∙ height-plug l.frames leaf in
      let lo = rep_low c ns root (Some free) m.tree (free ∷ m.rest) m.rep in
      record {
        on = l.on;
        at_is = refl;
        framed = framed_kept ns (set ns free (rec k v None None 1)) l.frames
            (λ q u. nth_set_other ns free q (rec k v None None 1) (one_zero q free (let a = places q in let b = m.rep.apart q in omega arith)))
            hp.0;
        held = (nth_set_same ns free (rec k v None None 1) m.within, tt, tt);
        apart = λ q. let a = places q in let b = m.rep.apart q in omega arith;
        level = (omega arith, omega arith, tt, tt);
        fit = lp.0;
        upper = omega arith;
        lower = omega arith;
        low = omega arith;
      }

  list : entries m.tree ≡ before l.frames ++ after l.frames
  list = ap entries (sym l.whole) ∙ entries-plug l.frames leaf

  pub absent : value_at c (pairs_of ns root) k ≡ None
  absent = ap (λ es. value_at c es k) (ap entries is ∙ list) ∙ (value_right c k (before l.frames) (after l.frames) l.over ∙ value_under c k (after l.frames) l.under)

  sized : length (pairs_of ns root) ≡ size m.tree
  sized = ap (λ t. length (entries t)) is ∙ length-entries m.tree

  pub fewer : length (pairs_of ns root) < length ns
  fewer = let a = sized in let b = m.rep.counted in omega arith

  pub entered : {count : ℕ} → count ≡ length (pairs_of ns root) → {os : List (Node K)} {r : Option ℕ} {x : Node K} → x ≡ get_or ns free x → {high : ℕ} → Risen (set ns free (rec k v None None 1)) os r (plug l.frames (node free k v leaf leaf)) high → Entered c ns (head_of root (Some free) count) k v os (Some (head_of r x.left (count + 1)))
  entered {count} ce {os} {r} {x} xe n =
      let u : Tree K = plug l.frames (node free k v leaf leaf) in
      let ou : (q : ℕ) → occ q u ≡ one q free + occ q m.tree = λ q. (let a = occ-plug q l.frames (node free k v leaf leaf) in let b = places q in omega arith) in
      let ch = m.rep.chained in
      let xl : x.left ≡ first m.rest = ap (λ (y : Node K). y.left) (xe ∙ get_or_from_slice_get ns free ch.0.0 x ch.0.1) ∙ ch.0.2 in
      let es : entries n.tree ≡ before l.frames ++ (k, v) ∷ after l.frames = n.like.pairs ∙ entries-plug l.frames (node free k v leaf leaf) in
      let ln = length-set ns free (rec k v None None 1) in
      let nl = n.long in
      let su : size u ≡ size (plug l.frames leaf) + 1 = size-plug l.frames leaf (node free k v leaf leaf) (omega arith) in
      let st : size (plug l.frames leaf) ≡ size m.tree = ap size l.whole in
      let sc = n.like.count in
      let mc = m.rep.counted in
      let rep : Rep c os r x.left n.tree m.rest = record {
        rooted = n.at;
        freed = xl;
        held = n.held;
        chained = chained_kept ns os m.rest
            (λ q z. let a = m.rep.apart q in let b = ou q in n.kept q (omega arith) ∙ nth_set_other ns free q (rec k v None None 1) (one_zero q free (omega arith)))
            ch.1;
        apart = λ q. let a = m.rep.apart q in let b = ou q in let e = n.like.places q in omega arith;
        counted = omega arith;
        small = let b = m.rep.small in omega arith;
        level = n.level;
        sorted = subst (Rises c) (sym es) (rises_put c k v w (before l.frames) (after l.frames) l.over l.under (subst (Rises c) list m.rep.sorted));
      } in
      let old = sized in
      let new : length (pairs_of os r) ≡ size n.tree = ap (λ t. length (entries t)) (rep_tree c os r x.left n.tree m.rest rep) ∙ length-entries n.tree in (
        ((n.tree, m.rest, rep), omega arith),
        absent,
        fewer,
        ap entries (rep_tree c os r x.left n.tree m.rest rep) ∙ (es ∙ (sym (put_is c k v (before l.frames) (after l.frames) l.over l.under) ∙ ap (λ es. put c es k v) (sym (ap entries is ∙ list)))),
        omega arith,
      )
