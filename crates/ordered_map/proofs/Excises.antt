-- Taking the root out of a tree.
use Rattle.std.proofs.Common.{◌≡◌, ℕ, ◌+◌, ◌<◌, max, false, List, ◌++◌, length, get_or, set, Some, None, Option, sym, refl, ap, ◌∙◌, ⊎_elim, append-nil, arith, length-set}
use Rattle.std.specs.List.{slice_get}
use Rattle.std.proofs.lemmas.Bool.{cases_lt}
use Rattle.ordered_map.specs.declared.node.Node.{Node}
use Rattle.ordered_map.specs.Tree.{Tree, leaf, node, top, height, size, occ, entries}
use Rattle.ordered_map.specs.Table.{rec}
use Rattle.ordered_map.specs.Edit.{bond}
use Rattle.ordered_map.specs.Path.{Standing, Popped, Mendable, Mended, Excised}
use Rattle.std.proofs.lemmas.Option.{slice_get_within, get_or_from_slice_get}
use Rattle.ordered_map.proofs.Nths.{nth_set_same, nth_set_other}
use Rattle.ordered_map.proofs.Bonds.{one_self, one_zero, holds_kept, holds_off}

module _ {K : Type 0} {ns : List (Node K)} {p : ℕ} {k : K} {v : ℕ} {l r : Tree K} (s : Standing ns p (node p k v l r)) where
  pub here_in : p < length ns
  here_in = slice_get_within ns p (rec k v (top l) (top r) (max (height l) (height r) + 1)) s.held.0

  module _ {x : Node K} (g : x ≡ get_or ns p x) where
    pub x_is : x ≡ rec k v (top l) (top r) (max (height l) (height r) + 1)
    x_is = g ∙ get_or_from_slice_get ns p (rec k v (top l) (top r) (max (height l) (height r) + 1)) x s.held.0

    pub left_is : x.left ≡ top l
    left_is = ap (λ (n : Node K). n.left) x_is

    pub right_is : x.right ≡ top r
    right_is = ap (λ (n : Node K). n.right) x_is

    no_right : (u : Tree K) → x.right ≡ top u → x.right ≡ None → u ≡ leaf
    no_right leaf e z = refl
    no_right (node q i w a b) e z = cc

    pub excised_leaf : x.right ≡ None → Excised ns ns x.left p p k v l r
    excised_leaf z =
        let e : r ≡ leaf = no_right r right_is z in
        let h : height r ≡ 0 = ap height e in
        let n : size r ≡ 0 = ap size e in
        record {
          tree = l;
          rooted = left_is;
          held = s.held.1;
          pairs = sym (ap (λ (u : Tree K). entries l ++ entries u) e ∙ append-nil (entries l));
          places = λ q. let o : occ q r ≡ 0 = ap (occ q) e in omega arith;
          count = omega arith;
          level = s.level.2;
          upper = omega arith;
          lower = omega arith;
          kept = λ q z. refl;
          long = refl;
        }

    module _ {right : ℕ} (some : x.right ≡ Some right) where
      pub right_stands : Standing ns right r
      right_stands =
          let lo = s.low in
          record { rooted = sym some ∙ right_is; held = s.held.2; apart = λ q. let a = s.apart q in omega arith; level = s.level.3; low = omega arith }

      module _ {ms : List (Node K)} {least : ℕ} {rest : Option ℕ} (o : Popped ns ms least rest r) where
        pub off : occ p r ≡ 0
        off = let a = s.apart p in let b = one_self p in omega arith

        pub least_in : least < length ms
        least_in = slice_get_within ms least o.at o.lies

        pub place_in : p < length ms
        place_in = let a = o.long in let b = here_in in omega arith

        module _ {y : Node K} (f : y ≡ get_or ms least y) where
          pub y_is : y ≡ o.at
          y_is = f ∙ get_or_from_slice_get ms least o.at y o.lies

          abbrev pub mend_it : Mendable (set ms p (record { key = y.key; value = y.value; left = x.left; right = x.right; height = x.height })) p false rest
          mend_it =
              let n : Node K = record { key = y.key; value = y.value; left = x.left; right = x.right; height = x.height } in
              let keep : (q : ℕ) → (q ≡ p → ⊥) → slice_get (set ms p n) q ≡ slice_get ms q = λ q d. nth_set_other ms p q n d in
              let z = off in
              let pl = o.places p in
              let b = one_self p in
              let ap0 = s.apart p in
              let lv = s.level in
              let l0 = lv.0 in
              let l1 = lv.1 in
              let up = o.upper in
              let lo = o.lower in
              let sl = s.low in
              record {
                key = o.key;
                value = o.value;
                a = o.rest;
                b = l;
                loose = record {
                  at = n;
                  lies = nth_set_same ms p n place_in;
                  keyed = ap (λ (m : Node K). m.key) y_is ∙ o.keyed;
                  valued = ap (λ (m : Node K). m.value) y_is ∙ o.valued;
                  held_a = holds_off ms (set ms p n) o.rest p keep (omega arith) o.held;
                  held_b = holds_off ms (set ms p n) l p keep (omega arith)
                      (holds_kept ns ms l (λ q u. o.kept q (let a = s.apart q in omega arith)) s.held.1);
                  apart = λ q. let a = s.apart q in let d = o.places q in omega arith;
                };
                near_is = o.rooted;
                far_is = left_is;
                level_a = o.level;
                level_b = lv.2;
                near_low = omega arith;
                far_low = omega arith;
                low = omega arith;
              }

          pub excised_node : {os : List (Node K)} {t : ℕ} → Mended (set ms p (record { key = y.key; value = y.value; left = x.left; right = x.right; height = x.height })) os t (bond false p o.key o.value o.rest l) o.rest l → Excised ns os (Some t) least p k v l r
          excised_node d =
              let n : Node K = record { key = y.key; value = y.value; left = x.left; right = x.right; height = x.height } in
              let m = d.made in
              let up = o.upper in
              let lo = o.lower in
              let ml = m.lower in
              let mu = m.upper in
              let l0 = s.level.0 in
              let l1 = s.level.1 in
              record {
                tree = m.tree;
                rooted = m.at;
                held = m.held;
                pairs = m.like.pairs ∙ ap (λ es. entries l ++ es) (sym o.pairs);
                places = λ q. let a = m.like.places q in let b = o.places q in omega arith;
                count = let a = m.like.count in let b = o.count in omega arith;
                level = m.level;
                upper = omega arith;
                lower =
                    ⊎_elim
                    (λ x. omega arith)
                    (λ x. ⊎_elim (λ y. omega arith) (λ y. let e = d.even x y in omega arith) (cases_lt (height o.rest + 1) (height l)))
                    (cases_lt (height l + 1) (height o.rest));
                kept = λ q z.
                    let b = o.places q in
                    m.kept q (omega arith) ∙ (nth_set_other ms p q n (one_zero q p (omega arith)) ∙ o.kept q (omega arith));
                long = m.long ∙ (length-set ms p n ∙ o.long);
              }
