-- `mend`, way by way.
use Rattle.std.proofs.Common.{◌≡◌, ℕ, ◌+◌, ◌<◌, ◌≤◌, Bool, true, false, cond, not, List, length, get_or, Some, Option, sym, refl, ap, ◌∙◌, subst, arith}
use Rattle.ordered_map.specs.declared.node.Node.{Node}
use Rattle.ordered_map.specs.Tree.{Tree, top, height}
use Rattle.ordered_map.specs.Edit.{ht, Joined, bond, Made, Leaning}
use Rattle.ordered_map.specs.Path.{Mendable, Mended}
use Rattle.std.proofs.lemmas.Option.{slice_get_within, get_or_from_slice_get}
use Rattle.ordered_map.proofs.Bonds.{one_zero, occ-bond, top-bond, level_bond, ht-top, ready, glue}

bond_flip : {K : Type 0} (s : Bool) (p : ℕ) (k : K) (v : ℕ) (a b : Tree K) → bond (not s) p k v b a ≡ bond s p k v a b
bond_flip true p k v a b = refl
bond_flip false p k v a b = refl

module _ {K : Type 0} {ns : List (Node K)} {p : ℕ} {s : Bool} {near : Option ℕ} (m : Mendable ns p s near) where
  pub place_in : p < length ns
  place_in = slice_get_within ns p m.loose.at m.loose.lies

  pub near_ht : ht ns near ≡ height m.a
  near_ht = ap (ht ns) m.near_is ∙ ht-top ns m.a m.loose.held_a

  module _ {r : Node K} (g : r ≡ get_or ns p r) {far : Option ℕ} (e : far ≡ cond s r.right r.left) where
    pub far_top : far ≡ top m.b
    far_top = e ∙ (ap (λ (n : Node K). cond s n.right n.left) (g ∙ get_or_from_slice_get ns p m.loose.at r m.loose.lies) ∙ m.far_is)

    pub far_ht : ht ns far ≡ height m.b
    far_ht = ap (ht ns) far_top ∙ ht-top ns m.b m.loose.held_b

    abbrev pub lean_near : {heavy : ℕ} → near ≡ Some heavy → ht ns far + 1 < ht ns near → Leaning ns p s heavy far
    lean_near i h =
        let x = near_ht in
        let y = far_ht in
        let l = m.low in
        let n = m.near_low in
        record { key = m.key; value = m.value; a = m.a; b = m.b; loose = m.loose; heavy_is = sym i ∙ m.near_is; other_is = far_top; level_a = m.level_a; level_b = m.level_b; tilt = omega arith; low = omega arith }

    abbrev pub lean_far : {heavy : ℕ} → far ≡ Some heavy → ht ns near + 1 < ht ns far → Leaning ns p (not s) heavy near
    lean_far i h =
        let x = near_ht in
        let y = far_ht in
        let l = m.low in
        let n = m.far_low in
        record {
          key = m.key;
          value = m.value;
          a = m.b;
          b = m.a;
          loose = record { at = m.loose.at; lies = m.loose.lies; keyed = m.loose.keyed; valued = m.loose.valued; held_a = m.loose.held_b; held_b = m.loose.held_a; apart = λ q. let u = m.loose.apart q in omega arith };
          heavy_is = sym i ∙ far_top;
          other_is = m.near_is;
          level_a = m.level_b;
          level_b = m.level_a;
          tilt = omega arith;
          low = omega arith;
        }

    pub join_ready : (p < length ns) × (ht ns near < 255) × (ht ns far < 255)
    join_ready =
        let l = m.low in
        ready m.loose m.near_is far_top (omega arith) (omega arith)

    pub mended_near : {ms : List (Node K)} {o : ℕ} → ht ns far + 1 < ht ns near → Made ns ms o (bond s p m.key m.value m.a m.b) → Mended ns ms o (bond s p m.key m.value m.a m.b) m.a m.b
    mended_near h d = let x = near_ht in let y = far_ht in record { made = d; even = λ u w. absurd (omega arith) }

    pub mended_far : {ms : List (Node K)} {o : ℕ} → ht ns near + 1 < ht ns far → Made ns ms o (bond (not s) p m.key m.value m.b m.a) → Mended ns ms o (bond s p m.key m.value m.a m.b) m.a m.b
    mended_far {ms} {o} h d =
        let x = near_ht in
        let y = far_ht in
        record { made = subst (Made ns ms o) (bond_flip s p m.key m.value m.a m.b) d; even = λ u w. absurd (omega arith) }

    pub mended_even : {ms : List (Node K)} → ht ns near ≤ ht ns far + 1 → ht ns far ≤ ht ns near + 1 → Joined ns ms p s near far → Mended ns ms p (bond s p m.key m.value m.a m.b) m.a m.b
    mended_even {ms} h i j =
        let x = near_ht in
        let y = far_ht in
        let g = glue m.loose ms s m.near_is far_top j in
        record {
          made = record {
            tree = bond s p m.key m.value m.a m.b;
            at = sym (top-bond s p m.key m.value m.a m.b);
            held = g.held;
            like = record { pairs = refl; count = refl; places = λ q. refl };
            level = level_bond s p m.key m.value m.a m.b (omega arith) (omega arith) m.level_a m.level_b;
            lower = omega arith;
            upper = omega arith;
            kept = λ q z. let n = occ-bond q s p m.key m.value m.a m.b in g.kept q (one_zero q p (omega arith));
            long = g.long;
          };
          even = λ _ _. refl;
        }
