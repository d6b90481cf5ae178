-- The two ways of `lean`, call by call.
use Rattle.std.proofs.Common.{◌≡◌, ℕ, ◌+◌, ◌<◌, ◌≤◌, max, Bool, cond, List, length, get_or, Some, Option, sym, ap, ◌∙◌, subst, arith}
use Rattle.ordered_map.specs.declared.node.Node.{Node}
use Rattle.ordered_map.specs.Tree.{Tree, height, Balanced}
use Rattle.ordered_map.specs.Edit.{ht, Joined, bond, Loose, Made, Glued, Leaning, Staged, Parted}
use Rattle.ordered_map.proofs.Bonds.{top-bond, height-bond, ht-top, open_tree, ready, glue}
use Rattle.ordered_map.proofs.Rotations.{single_1, single_2, single_3, double_1, double_2, double_3, double_4, parts}

pub heavy_in : {K : Type 0} {ns : List (Node K)} {p : ℕ} {s : Bool} {c : ℕ} {other : Option ℕ} → Leaning ns p s c other → c < length ns
heavy_in {ns = ns} {s = s} {c = c} l =
    let t = l.tilt in
    let o = open_tree ns s l.a (omega arith) l.loose.held_a in
    let e : c ≡ o.place = (let h = l.heavy_is in let i = o.at in cc) in
    let w = o.within in
    omega arith

module _ {K : Type 0} {ns : List (Node K)} {p : ℕ} {s : Bool} {c : ℕ} {other outer inner : Option ℕ} {k : K} {v : ℕ} {a b : Tree K} (t : Staged ns p s c other outer inner k v a b) where
  inner_ht : ht ns inner ≡ height t.y
  inner_ht = ap (ht ns) t.inner_is ∙ ht-top ns t.y t.below.held_b

  outer_ht : ht ns outer ≡ height t.x
  outer_ht = ap (ht ns) t.outer_is ∙ ht-top ns t.x t.below.held_a

  low_x : height t.x < 99
  low_x = let h = height-bond s c t.j t.w t.x t.y in let l = t.low in omega arith

  low_y : height t.y < 99
  low_y = let h = height-bond s c t.j t.w t.x t.y in let l = t.low in omega arith

  low_b : height b < 99
  low_b = let e = t.tilt in let l = t.low in omega arith

  loose_1 : Loose ns p k v t.y b
  loose_1 = single_1 s t.loose t.below

  pub single_ready_1 : (p < length ns) × (ht ns inner < 255) × (ht ns other < 255)
  single_ready_1 =
      let h = low_y in
      let l = low_b in
      ready loose_1 t.inner_is t.other_is (omega arith) (omega arith)

  module _ (ms : List (Node K)) (j1 : Joined ns ms p s inner other) where
    glued_1 : Glued ns ms s p k v t.y b
    glued_1 = glue loose_1 ms s t.inner_is t.other_is j1

    loose_2 : Loose ms c t.j t.w t.x (bond s p k v t.y b)
    loose_2 = single_2 s t.loose t.below glued_1

    pub single_ready_2 : (c < length ms) × (ht ms outer < 255) × (ht ms (Some p) < 255)
    single_ready_2 =
        let h = low_x in
        let g = low_y in
        let l = low_b in
        let e = height-bond s p k v t.y b in
        ready loose_2 t.outer_is (sym (top-bond s p k v t.y b)) (omega arith) (omega arith)

    pub single_made : (os : List (Node K)) → Joined ms os c s outer (Some p) → ht ns inner ≤ ht ns outer + 0 → Made ns os c (bond s p k v a b)
    single_made os j2 le =
        let i = inner_ht in
        let o = outer_ht in
        subst (λ (u : Tree K). Made ns os c (bond s p k v u b)) (sym t.is)
        (single_3 s t.loose t.below glued_1
        (glue loose_2 os s t.outer_is (sym (top-bond s p k v t.y b)) j2)
        t.level_a t.level_b t.tilt (omega arith))

  module _ {up : ℕ} (ui : inner ≡ Some up) (gt : ht ns outer + 0 < ht ns inner) where
    pub inner_in : up < length ns
    inner_in =
        let i = inner_ht in
        let o = open_tree ns s t.y (omega arith) t.below.held_b in
        let w = o.within in
        let e : up ≡ o.place = (let h = t.inner_is in let j = o.at in cc) in
        omega arith

    pub inner_parts : {first second : Option ℕ} {r : Node K} → r ≡ get_or ns up r → first ≡ cond s r.left r.right → second ≡ cond s r.right r.left → Parted ns s up first second t.y
    inner_parts g fe se =
        let i = inner_ht in
        parts s (sym ui ∙ t.inner_is) (omega arith) t.below.held_b (λ q. let h = t.below.apart q in omega arith) g fe se

    module _ {first second : Option ℕ} (d : Parted ns s up first second t.y) where
      loose_p : Loose ns p k v (bond s c t.j t.w t.x (bond s up d.i d.u d.x1 d.y1)) b
      loose_p = subst (λ (y : Tree K). Loose ns p k v (bond s c t.j t.w t.x y) b) d.is t.loose

      loose_c : Loose ns c t.j t.w t.x (bond s up d.i d.u d.x1 d.y1)
      loose_c = subst (λ (y : Tree K). Loose ns c t.j t.w t.x y) d.is t.below

      low_y1 : max (height d.x1) (height d.y1) < 98
      low_y1 =
          let h = low_y in
          let e : height t.y ≡ height (bond s up d.i d.u d.x1 d.y1) = ap height d.is in
          let f = height-bond s up d.i d.u d.x1 d.y1 in
          omega arith

      loose_d1 : Loose ns c t.j t.w t.x d.x1
      loose_d1 = double_1 s loose_p loose_c d.below

      pub double_ready_1 : (c < length ns) × (ht ns outer < 255) × (ht ns first < 255)
      double_ready_1 =
          let h = low_x in
          let g = low_y1 in
          ready loose_d1 t.outer_is d.first_is (omega arith) (omega arith)

      module _ (ms : List (Node K)) (j1 : Joined ns ms c s outer first) where
        glued_d1 : Glued ns ms s c t.j t.w t.x d.x1
        glued_d1 = glue loose_d1 ms s t.outer_is d.first_is j1

        loose_d2 : Loose ms p k v d.y1 b
        loose_d2 = double_2 s loose_p loose_c d.below glued_d1

        pub double_ready_2 : (p < length ms) × (ht ms second < 255) × (ht ms other < 255)
        double_ready_2 =
            let h = low_b in
            let g = low_y1 in
            ready loose_d2 d.second_is t.other_is (omega arith) (omega arith)

        module _ (os : List (Node K)) (j2 : Joined ms os p s second other) where
          glued_d2 : Glued ms os s p k v d.y1 b
          glued_d2 = glue loose_d2 os s d.second_is t.other_is j2

          loose_d3 : Loose os up d.i d.u (bond s c t.j t.w t.x d.x1) (bond s p k v d.y1 b)
          loose_d3 = double_3 s loose_p loose_c d.below glued_d1 glued_d2

          pub double_ready_3 : (up < length os) × (ht os (Some c) < 255) × (ht os (Some p) < 255)
          double_ready_3 =
              let h = low_b in
              let g = low_y1 in
              let x = low_x in
              let e = height-bond s c t.j t.w t.x d.x1 in
              let f = height-bond s p k v d.y1 b in
              ready loose_d3 (sym (top-bond s c t.j t.w t.x d.x1)) (sym (top-bond s p k v d.y1 b)) (omega arith) (omega arith)

          pub double_made : (rs : List (Node K)) → Joined os rs up s (Some c) (Some p) → Made ns rs up (bond s p k v a b)
          double_made rs j3 =
              let ih = inner_ht in
              let oh = outer_ht in
              let yh : height t.y ≡ height (bond s up d.i d.u d.x1 d.y1) = ap height d.is in
              let whole : a ≡ bond s c t.j t.w t.x (bond s up d.i d.u d.x1 d.y1) = t.is ∙ ap (bond s c t.j t.w t.x) d.is in
              subst (λ (u : Tree K). Made ns rs up (bond s p k v u b)) (sym whole)
              (double_4 s loose_p loose_c d.below glued_d1 glued_d2
              (glue loose_d3 rs s (sym (top-bond s c t.j t.w t.x d.x1)) (sym (top-bond s p k v d.y1 b)) j3)
              (subst (λ (y : Tree K). Balanced (bond s c t.j t.w t.x y)) d.is t.level_a)
              t.level_b
              (ap (λ (y : Tree K). height (bond s c t.j t.w t.x y)) (sym d.is) ∙ t.tilt)
              (omega arith))
