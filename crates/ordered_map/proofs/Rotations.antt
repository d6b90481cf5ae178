-- The two rotations.
use Rattle.std.proofs.Common.{◌≡◌, ℕ, ◌+◌, ◌<◌, ◌≤◌, max, Bool, true, false, cond, List, ◌∷◌, get_or, Some, Option, sym, refl, ap, ◌∙◌, subst, append_assoc, arith}
use Rattle.std.specs.List.{slice_get}
use Rattle.ordered_map.specs.declared.node.Node.{Node}
use Rattle.ordered_map.specs.Tree.{Tree, top, height, occ, one, entries, Balanced}
use Rattle.ordered_map.specs.Table.{rec, Holds}
use Rattle.ordered_map.specs.Edit.{bond, Loose, Made, Glued, Leaning, Staged, Parted}
use Rattle.std.proofs.lemmas.Option.{get_or_from_slice_get}
use Rattle.ordered_map.proofs.Bonds.{one_self, one_zero, holds_off, top-bond, height-bond, size-bond, occ-bond, level_bond, level_parts, open_tree}

-- ---- the pairs stay in order

pairs_single : {K : Type 0} (s : Bool) (p c : ℕ) (k j : K) (v w : ℕ) (x y b : Tree K) → entries (bond s c j w x (bond s p k v y b)) ≡ entries (bond s p k v (bond s c j w x y) b)
pairs_single true p c k j v w x y b = sym (append_assoc (entries x) ((j, w) ∷ entries y) ((k, v) ∷ entries b))
pairs_single false p c k j v w x y b = append_assoc (entries b) ((k, v) ∷ entries y) ((j, w) ∷ entries x)

pairs_double : {K : Type 0} (s : Bool) (p c m : ℕ) (k j i : K) (v w u : ℕ) (x x1 y1 b : Tree K) → entries (bond s m i u (bond s c j w x x1) (bond s p k v y1 b)) ≡ entries (bond s p k v (bond s c j w x (bond s m i u x1 y1)) b)
pairs_double true p c m k j i v w u x x1 y1 b = simp append_assoc
pairs_double false p c m k j i v w u x x1 y1 b = simp append_assoc

-- a record in a table that keeps its place
rekey : {K : Type 0} (ns ms : List (Node K)) (p : ℕ) (k : K) (v : ℕ) (a b a' b' : Tree K) → Loose ns p k v a b → slice_get ms p ≡ slice_get ns p → Holds ms a' → Holds ms b' → ((q : ℕ) → one q p + (occ q a' + occ q b') ≤ 1) → Loose ms p k v a' b'
rekey ns ms p k v a b a' b' w e x y u = record { at = w.at; lies = e ∙ w.lies; keyed = w.keyed; valued = w.valued; held_a = x; held_b = y; apart = u }

-- ---- a single rotation: a is a bond of x and y at c

module _ {K : Type 0} (s : Bool) {ns : List (Node K)} {p : ℕ} {k : K} {v : ℕ} {c : ℕ} {j : K} {w : ℕ} {x y b : Tree K} (l : Loose ns p k v (bond s c j w x y) b) (z : Loose ns c j w x y) where
  apart : (q : ℕ) → one q p + (one q c + (occ q x + occ q y) + occ q b) ≤ 1
  apart q = let h = l.apart q in let e = occ-bond q s c j w x y in omega arith

  c_p : c ≡ p → ⊥
  c_p = one_zero c p (let h = apart c in let o = one_self c in omega arith)

  pub single_1 : Loose ns p k v y b
  single_1 = rekey ns ns p k v _ _ y b l refl z.held_b l.held_b (λ q. let h = apart q in omega arith)

  pub single_2 : {ms : List (Node K)} → Glued ns ms s p k v y b → Loose ms c j w x (bond s p k v y b)
  single_2 {ms} g =
      rekey ns ms c j w x y x (bond s p k v y b) z (g.kept c c_p)
      (holds_off ns ms x p g.kept (let h = apart p in let o = one_self p in omega arith) z.held_a)
      g.held
      (λ q. let h = apart q in let e = occ-bond q s p k v y b in omega arith)

  pub single_3 : {ms os : List (Node K)} → Glued ns ms s p k v y b → Glued ms os s c j w x (bond s p k v y b) → Balanced (bond s c j w x y) → Balanced b → height (bond s c j w x y) ≡ height b + 2 → height y ≤ height x → Made ns os c (bond s p k v (bond s c j w x y) b)
  single_3 g f la lb t le =
      let lp = level_parts s c j w x y la in
      let h1 = height-bond s c j w x y in
      let h2 = height-bond s p k v y b in
      let h3 = height-bond s c j w x (bond s p k v y b) in
      let h4 = height-bond s p k v (bond s c j w x y) b in
      record {
        tree = bond s c j w x (bond s p k v y b);
        at = sym (top-bond s c j w x (bond s p k v y b));
        held = f.held;
        like = record {
          pairs = pairs_single s p c k j v w x y b;
          count =
              let n1 = size-bond s c j w x y in
              let n2 = size-bond s p k v y b in
              let n3 = size-bond s c j w x (bond s p k v y b) in
              let n4 = size-bond s p k v (bond s c j w x y) b in
              omega arith;
          places = λ q.
              let n1 = occ-bond q s c j w x y in
              let n2 = occ-bond q s p k v y b in
              let n3 = occ-bond q s c j w x (bond s p k v y b) in
              let n4 = occ-bond q s p k v (bond s c j w x y) b in
              omega arith;
        };
        level = level_bond s c j w x (bond s p k v y b) (omega arith) (omega arith) lp.2 (level_bond s p k v y b (omega arith) (omega arith) lp.3 lb);
        lower = omega arith;
        upper = omega arith;
        kept = λ q e.
            let n1 = occ-bond q s c j w x y in
            let n4 = occ-bond q s p k v (bond s c j w x y) b in
            f.kept q (one_zero q c (omega arith)) ∙ g.kept q (one_zero q p (omega arith));
        long = f.long ∙ g.long;
      }

-- ---- a double rotation: y is itself a bond of x1 and y1 at m

module _ {K : Type 0} (s : Bool) {ns : List (Node K)} {p : ℕ} {k : K} {v : ℕ} {c : ℕ} {j : K} {w : ℕ} {m : ℕ} {i : K} {u : ℕ} {x x1 y1 b : Tree K} (l : Loose ns p k v (bond s c j w x (bond s m i u x1 y1)) b) (z : Loose ns c j w x (bond s m i u x1 y1)) (n : Loose ns m i u x1 y1) where
  apart2 : (q : ℕ) → one q p + (one q c + (occ q x + (one q m + (occ q x1 + occ q y1))) + occ q b) ≤ 1
  apart2 q = let h = l.apart q in let e = occ-bond q s c j w x (bond s m i u x1 y1) in let f = occ-bond q s m i u x1 y1 in omega arith

  p_c : p ≡ c → ⊥
  p_c = one_zero p c (let h = apart2 p in let o = one_self p in omega arith)

  m_c : m ≡ c → ⊥
  m_c = one_zero m c (let h = apart2 m in let o = one_self m in omega arith)

  m_p : m ≡ p → ⊥
  m_p = one_zero m p (let h = apart2 m in let o = one_self m in omega arith)

  pub double_1 : Loose ns c j w x x1
  double_1 = rekey ns ns c j w _ _ x x1 z refl z.held_a n.held_a (λ q. let h = apart2 q in omega arith)

  pub double_2 : {ms : List (Node K)} → Glued ns ms s c j w x x1 → Loose ms p k v y1 b
  double_2 {ms} g =
      let h = apart2 c in
      let o = one_self c in
      rekey ns ms p k v _ _ y1 b l (g.kept p p_c)
      (holds_off ns ms y1 c g.kept (omega arith) n.held_b)
      (holds_off ns ms b c g.kept (omega arith) l.held_b)
      (λ q. let h = apart2 q in omega arith)

  pub double_3 : {ms os : List (Node K)} → Glued ns ms s c j w x x1 → Glued ms os s p k v y1 b → Loose os m i u (bond s c j w x x1) (bond s p k v y1 b)
  double_3 {ms} {os} g f =
      let h = apart2 p in
      let o = one_self p in
      let e = occ-bond p s c j w x x1 in
      rekey ns os m i u x1 y1 (bond s c j w x x1) (bond s p k v y1 b) n (f.kept m m_p ∙ g.kept m m_c)
      (holds_off ms os (bond s c j w x x1) p f.kept (omega arith) g.held)
      f.held
      (λ q. let h = apart2 q in let e = occ-bond q s c j w x x1 in let d = occ-bond q s p k v y1 b in omega arith)

  pub double_4 : {ms os rs : List (Node K)} → Glued ns ms s c j w x x1 → Glued ms os s p k v y1 b → Glued os rs s m i u (bond s c j w x x1) (bond s p k v y1 b) → Balanced (bond s c j w x (bond s m i u x1 y1)) → Balanced b → height (bond s c j w x (bond s m i u x1 y1)) ≡ height b + 2 → height x < height (bond s m i u x1 y1) → Made ns rs m (bond s p k v (bond s c j w x (bond s m i u x1 y1)) b)
  double_4 g f d la lb t le =
      let y : Tree K = bond s m i u x1 y1 in
      let lp = level_parts s c j w x y la in
      let lq = level_parts s m i u x1 y1 lp.3 in
      let left : Tree K = bond s c j w x x1 in
      let right : Tree K = bond s p k v y1 b in
      let h0 = height-bond s m i u x1 y1 in
      let h1 = height-bond s c j w x y in
      let h2 = height-bond s c j w x x1 in
      let h3 = height-bond s p k v y1 b in
      let h4 = height-bond s m i u left right in
      let h5 = height-bond s p k v (bond s c j w x y) b in
      record {
        tree = bond s m i u left right;
        at = sym (top-bond s m i u left right);
        held = d.held;
        like = record {
          pairs = pairs_double s p c m k j i v w u x x1 y1 b;
          count =
              let n0 = size-bond s m i u x1 y1 in
              let n1 = size-bond s c j w x y in
              let n2 = size-bond s c j w x x1 in
              let n3 = size-bond s p k v y1 b in
              let n4 = size-bond s m i u left right in
              let n5 = size-bond s p k v (bond s c j w x y) b in
              omega arith;
          places = λ q.
              let n0 = occ-bond q s m i u x1 y1 in
              let n1 = occ-bond q s c j w x y in
              let n2 = occ-bond q s c j w x x1 in
              let n3 = occ-bond q s p k v y1 b in
              let n4 = occ-bond q s m i u left right in
              let n5 = occ-bond q s p k v (bond s c j w x y) b in
              omega arith;
        };
        level = level_bond s m i u left right (omega arith) (omega arith) (level_bond s c j w x x1 (omega arith) (omega arith) lp.2 lq.2) (level_bond s p k v y1 b (omega arith) (omega arith) lq.3 lb);
        lower = omega arith;
        upper = omega arith;
        kept = λ q e.
            let n0 = occ-bond q s m i u x1 y1 in
            let n1 = occ-bond q s c j w x y in
            let n5 = occ-bond q s p k v (bond s c j w x y) b in
            d.kept q (one_zero q m (omega arith)) ∙ (f.kept q (one_zero q p (omega arith)) ∙ g.kept q (one_zero q c (omega arith)));
        long = d.long ∙ (f.long ∙ g.long);
      }

-- ---- from the records read

cond-swap : (s : Bool) (a b : Option ℕ) → cond s (cond s a b) (cond s b a) ≡ a
cond-swap true a b = refl
cond-swap false a b = refl

-- a tree that lies in the table, taken apart where its record was read
pub parts : {K : Type 0} {ns : List (Node K)} (s : Bool) {m : ℕ} {first second : Option ℕ} {y : Tree K} → Some m ≡ top y → 0 < height y → Holds ns y → ((q : ℕ) → occ q y ≤ 1) → {r : Node K} → r ≡ get_or ns m r → first ≡ cond s r.left r.right → second ≡ cond s r.right r.left → Parted ns s m first second y
parts {K} {ns} s {m} {first} {second} {y} e z h ap1 {r} g fe se =
    let o = open_tree ns s y z h in
    let x : Node K = rec o.key o.value (cond s (top o.outer) (top o.inner)) (cond s (top o.inner) (top o.outer)) (max (height o.outer) (height o.inner) + 1) in
    let mp : m ≡ o.place = let a = o.at in cc in
    let lm : slice_get ns m ≡ Some x = ap (slice_get ns) mp ∙ o.lies in
    let rx : r ≡ x = g ∙ get_or_from_slice_get ns m x r lm in
    let yi : y ≡ bond s m o.key o.value o.outer o.inner = subst (λ t. y ≡ bond s t o.key o.value o.outer o.inner) (sym mp) o.is in
    record {
      i = o.key;
      u = o.value;
      x1 = o.outer;
      y1 = o.inner;
      is = yi;
      below = record { at = x; lies = lm; keyed = refl; valued = refl; held_a = o.held_outer; held_b = o.held_inner; apart = λ q. let a = ap1 q in let b = occ-bond q s m o.key o.value o.outer o.inner in let d : occ q y ≡ occ q (bond s m o.key o.value o.outer o.inner) = ap (occ q) yi in omega arith };
      first_is = fe ∙ (ap (λ (n : Node K). cond s n.left n.right) rx ∙ cond-swap s (top o.outer) (top o.inner));
      second_is = se ∙ (ap (λ (n : Node K). cond s n.right n.left) rx ∙ cond-swap s (top o.inner) (top o.outer));
    }

pub stage : {K : Type 0} {ns : List (Node K)} {p : ℕ} {s : Bool} {c : ℕ} {other outer inner : Option ℕ} (l : Leaning ns p s c other) → {r : Node K} → r ≡ get_or ns c r → outer ≡ cond s r.left r.right → inner ≡ cond s r.right r.left → Staged ns p s c other outer inner l.key l.value l.a l.b
stage {K = K} {ns = ns} {p = p} {s = s} {c = c} l g fe se =
    let t = l.tilt in
    let o = parts s l.heavy_is (omega arith) l.loose.held_a (λ q. let h = l.loose.apart q in omega arith) g fe se in
    record {
      j = o.i;
      w = o.u;
      x = o.x1;
      y = o.y1;
      is = o.is;
      loose = subst (λ (t : Tree K). Loose ns p l.key l.value t l.b) o.is l.loose;
      below = o.below;
      outer_is = o.first_is;
      inner_is = o.second_is;
      other_is = l.other_is;
      level_a = subst Balanced o.is l.level_a;
      level_b = l.level_b;
      tilt = ap height (sym o.is) ∙ l.tilt;
      low = let h = l.low in let d : height l.a ≡ height (bond s c o.i o.u o.x1 o.y1) = ap height o.is in omega arith;
    }
