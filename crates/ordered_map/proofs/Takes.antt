-- Taking a pair out.
use Rattle.std.proofs.Common.{◌≡◌, ℕ, ◌+◌, ◌-◌, ◌<◌, ◌≤◌, max, List, [], ◌∷◌, ◌++◌, length, set, is_some, Some, Option, Ordering, Less, Equal, Greater, sym, refl, ap, ◌∙◌, subst, ⊎_elim, append_assoc, arith, length-set}
use Rattle.std.specs.List.{AllByRecursion}
use Rattle.std.proofs.ByRecursion.{All-append}
use Rattle.ordered_map.specs.declared.node.Node.{Node}
use Rattle.ordered_map.specs.declared.path.Step.{Step}
use Rattle.ordered_map.specs.Tree.{Tree, leaf, node, top, height, size, occ, entries, Balanced, Rises, value_at}
use Rattle.ordered_map.specs.Table.{rec, Holds, Rep, Kept, tree_of, pairs_of}
use Rattle.ordered_map.specs.Path.{plug, Framed, occ_frames, tall, before, after, Found, Standing, Excised, Rising, Risen}
use Rattle.ordered_map.specs.Enter.{cut, Taken}
use Rattle.std.proofs.lemmas.Option.{slice_get_within}
use Rattle.ordered_map.proofs.Nths.{nth_set_same, nth_set_other}
use Rattle.ordered_map.proofs.Bonds.{one_self, one_zero, one_other, holds_off}
use Rattle.std.proofs.lemmas.Bool.{cases_lt}
use Rattle.ordered_map.proofs.Lookups.{rep_tree, rep_low}
use Rattle.ordered_map.proofs.Rises.{occ-plug, framed_kept, tall_up}
use Rattle.ordered_map.proofs.Falls.{holds_plug, height-plug, level_plug, entries-plug}
use Rattle.ordered_map.proofs.Enters.{head_of, length-entries, size-plug, chained_kept}
use Rattle.ordered_map.proofs.Sorted.{value_right}

occ_in : {K : Type 0} (ns : List (Node K)) (q : ℕ) (t : Tree K) → Holds ns t → length ns ≤ q → occ q t ≡ 0
occ_in ns q leaf h u = refl
occ_in ns q (node p k v l r) h u =
    let i = slice_get_within ns p (rec k v (top l) (top r) (max (height l) (height r) + 1)) h.0 in
    let a = occ_in ns q l h.1 u in
    let b = occ_in ns q r h.2 u in
    let d = one_other q p (λ e. absurd (omega arith)) in
    omega arith

module _ {K : Type 0} (c : K → K → Ordering) (k : K) (v : ℕ) where
  cut_is : (xs ys : List (K × ℕ)) → AllByRecursion (λ e. c k e.0 ≡ Greater) xs → c k k ≡ Equal → cut c (xs ++ (k, v) ∷ ys) k ≡ xs ++ ys
  cut_is [] ys o e = rw e refl
  cut_is (x ∷ xs) ys o e = rw o.0 (ap (λ es. x ∷ es) (cut_is xs ys o.1 e))

  all_less : (P : K × ℕ → Type 0) (xs ys : List (K × ℕ)) → AllByRecursion P (xs ++ (k, v) ∷ ys) → AllByRecursion P (xs ++ ys)
  all_less P [] ys h = h.1
  all_less P (x ∷ xs) ys h = (h.0, all_less P xs ys h.1)

  rises_cut : (xs ys : List (K × ℕ)) → Rises c (xs ++ (k, v) ∷ ys) → Rises c (xs ++ ys)
  rises_cut [] ys h = h.1
  rises_cut (x ∷ xs) ys h = (all_less (λ d. c x.0 d.0 ≡ Less) xs ys h.0, rises_cut xs ys h.1)

module _ {K : Type 0} {c : K → K → Ordering} {ns : List (Node K)} {root free : Option ℕ} {k : K} (s : Kept c ns root free) {path : List Step} {place : ℕ} (f0 : Found c (tree_of ns root) k path place) where
  is : tree_of ns root ≡ s.0
  is = rep_tree c ns root free s.0 s.1 s.2

  pub f : Found c s.0 k path place
  f = subst (λ (t : Tree K). Found c t k path place) is f0

  occ_all : (q : ℕ) → occ q s.0 ≡ occ q (node place k f.value f.left f.right) + occ_frames q f.frames
  occ_all q = ap (occ q) (sym f.whole) ∙ occ-plug q f.frames (node place k f.value f.left f.right)

  tall_all : height s.0 ≡ tall (height (node place k f.value f.left f.right)) f.frames
  tall_all = ap height (sym f.whole) ∙ height-plug f.frames (node place k f.value f.left f.right)

  hp : Framed ns f.frames × Holds ns (node place k f.value f.left f.right)
  hp = holds_plug ns f.frames (node place k f.value f.left f.right) (subst (Holds ns) (sym f.whole) s.2.held)

  pub standing : Standing ns place (node place k f.value f.left f.right)
  standing =
      let lp = level_plug f.frames (node place k f.value f.left f.right) (subst Balanced (sym f.whole) s.2.level) in
      let lo = rep_low c ns root free s.0 s.1 s.2 in
      let ta = tall_all in
      let tu = tall_up (height (node place k f.value f.left f.right)) f.frames in
      record {
        rooted = refl;
        held = hp.1;
        apart = λ q. let a = occ_all q in let b = s.2.apart q in omega arith;
        level = lp.1;
        low = omega arith;
      }

  module _ {ms : List (Node K)} {child : Option ℕ} {freed : ℕ} (e : Excised ns ms child freed place k f.value f.left f.right) where
    pub rising : Rising ms path child f.frames e.tree (height (node place k f.value f.left f.right))
    rising =
        let lp = level_plug f.frames (node place k f.value f.left f.right) (subst Balanced (sym f.whole) s.2.level) in
        let lo = rep_low c ns root free s.0 s.1 s.2 in
        let ta = tall_all in
        record {
          on = f.on;
          at_is = e.rooted;
          framed = framed_kept ns ms f.frames (λ q u. e.kept q (let a = occ_all q in let b = s.2.apart q in omega arith)) hp.0;
          held = e.held;
          apart = λ q. let a = occ_all q in let b = s.2.apart q in let d = e.places q in omega arith;
          level = e.level;
          fit = lp.0;
          upper = e.upper;
          lower = e.lower;
          low = omega arith;
        }

    pub freed_in : freed < length ns
    freed_in =
        ⊎_elim (λ h. h)
        (λ h. let a = occ_in ns freed (node place k f.value f.left f.right) hp.1 h in let b = e.places freed in let d = one_self freed in absurd (omega arith))
        (cases_lt freed (length ns))

    pub freed_still : {os : List (Node K)} {r : Option ℕ} {high : ℕ} → Risen ms os r (plug f.frames e.tree) high → freed < length os
    freed_still n = let a = freed_in in let b = e.long in let d = n.long in omega arith

    old_list : entries s.0 ≡ (before f.frames ++ entries f.left) ++ (k, f.value) ∷ (entries f.right ++ after f.frames)
    old_list = ap entries (sym f.whole) ∙ (entries-plug f.frames (node place k f.value f.left f.right) ∙ simp append_assoc)

    over : AllByRecursion (λ e. c k e.0 ≡ Greater) (before f.frames ++ entries f.left)
    over = All-append (λ e. c k e.0 ≡ Greater) (before f.frames) (entries f.left) f.over f.over_left

    sized : length (pairs_of ns root) ≡ size s.0
    sized = ap (λ t. length (entries t)) is ∙ length-entries s.0

    shrunk : size s.0 ≡ size (plug f.frames e.tree) + 1
    shrunk = ap size (sym f.whole) ∙ size-plug f.frames e.tree (node place k f.value f.left f.right) e.count

    pub taken : {count : ℕ} → count ≡ length (pairs_of ns root) → {os : List (Node K)} {r : Option ℕ} {high : ℕ} → Risen ms os r (plug f.frames e.tree) high → (g : Node K) → g.left ≡ free → Taken c ns (head_of root free count) k (set os freed g) (Some (head_of r (Some freed) (count - 1)))
    taken {count} ce {os} {r} n g gl =
        let xs : List (K × ℕ) = before f.frames ++ entries f.left in
        let ys : List (K × ℕ) = entries f.right ++ after f.frames in
        let op : (q : ℕ) → occ q n.tree ≡ occ q e.tree + occ_frames q f.frames = λ q. n.like.places q ∙ occ-plug q f.frames e.tree in
        let new-list : entries n.tree ≡ xs ++ ys = n.like.pairs ∙ (entries-plug f.frames e.tree ∙ (ap (λ es. before f.frames ++ (es ++ after f.frames)) e.pairs ∙ simp append_assoc)) in
        let l1 = length-set os freed g in
        let l2 = n.long in
        let l3 = e.long in
        let fi = freed_in in
        let of = one_self freed in
        let rep : Rep c (set os freed g) r (Some freed) n.tree (freed ∷ s.1) = record {
          rooted = n.at;
          freed = refl;
          held = holds_off os (set os freed g) n.tree freed (λ q d. nth_set_other os freed q g d) (let a = op freed in let b = occ_all freed in let d = e.places freed in let u = s.2.apart freed in omega arith) n.held;
          chained = (
            (g, nth_set_same os freed g (omega arith), gl ∙ s.2.freed),
            chained_kept ns (set os freed g) s.1
                (λ q z.
                let a = op q in
                let b = occ_all q in
                let d = e.places q in
                let u = s.2.apart q in
                let w = occ-plug q f.frames e.tree in
                nth_set_other os freed q g (one_zero q freed (omega arith)) ∙ (n.kept q (omega arith) ∙ e.kept q (omega arith)))
                s.2.chained,
          );
          apart = λ q. let a = op q in let b = occ_all q in let d = e.places q in let u = s.2.apart q in omega arith;
          counted =
              let a = shrunk in
              let d = n.like.count in
              let u = s.2.counted in
              omega arith;
          small = let a = s.2.small in omega arith;
          level = n.level;
          sorted = subst (Rises c) (sym new-list) (rises_cut c k f.value xs ys (subst (Rises c) old_list s.2.sorted));
        } in
        let old : pairs_of ns root ≡ xs ++ (k, f.value) ∷ ys = ap entries is ∙ old_list in
        let found : value_at c (xs ++ (k, f.value) ∷ ys) k ≡ Some f.value = value_right c k xs ((k, f.value) ∷ ys) over ∙ rw f.same refl in
        let a = sized in
        let b = shrunk in
        let d = n.like.count in
        let new : length (pairs_of (set os freed g) r) ≡ size n.tree = ap (λ t. length (entries t)) (rep_tree c (set os freed g) r (Some freed) n.tree (freed ∷ s.1) rep) ∙ length-entries n.tree in (
          ((n.tree, freed ∷ s.1, rep), omega arith),
          ap is_some (ap (λ es. value_at c es k) old ∙ found),
          ap entries (rep_tree c (set os freed g) r (Some freed) n.tree (freed ∷ s.1) rep) ∙ (new-list ∙ (sym (cut_is c k f.value xs ys over f.same) ∙ ap (λ es. cut c es k) (sym old))),
          omega arith,
        )
