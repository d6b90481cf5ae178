-- The least of a tree.
use Rattle.std.proofs.Common.{◌≡◌, ℕ, ◌+◌, ◌<◌, max, true, List, [], ◌∷◌, ◌++◌, map, length, get_or, Some, None, Option, sym, refl, ap, ◌∙◌, subst, append-nil, arith}
use Rattle.std.specs.List.{slice_get}
use Rattle.ordered_map.specs.declared.node.Node.{Node}
use Rattle.ordered_map.specs.declared.path.Step.{Step}
use Rattle.ordered_map.specs.Tree.{Tree, leaf, node, top, height, size, occ, one, entries, Balanced}
use Rattle.ordered_map.specs.Table.{rec, Holds}
use Rattle.ordered_map.specs.Path.{Frame, plug, step_of, occ_frames, tall, Fit, before, after, Standing, Leftward, Lowest, Popped, Rising, Risen}
use Rattle.std.proofs.lemmas.Option.{slice_get_within, get_or_from_slice_get}
use Rattle.ordered_map.proofs.Bonds.{one_self}
use Rattle.ordered_map.proofs.Rises.{occ-plug}
use Rattle.ordered_map.proofs.Falls.{holds_plug, height-plug, path_low, level_plug, entries-plug, step_at}
use Rattle.ordered_map.proofs.Enters.{size-plug}

module _ {K : Type 0} {ns : List (Node K)} {root : ℕ} {t : Tree K} (s : Standing ns root t) where
  module _ (path : List Step) (at : ℕ) where
    -- what the record there tells: the least, or a way further down
    abbrev Turn : Type 0
    Turn = (at < length ns) × ((x : Node K) → x ≡ get_or ns at x → (x.left ≡ None → Lowest t path at) × ((q : ℕ) → x.left ≡ Some q → (length path < 14) × Leftward t (step_at at true ∷ path) q))

    module _ (fs : List (Frame K)) (on : path ≡ map step_of fs) (b : before fs ≡ []) (j : K) (v : ℕ) (x : Node K) where
      no_left : (l r : Tree K) → x.left ≡ top l → plug fs (node at j v l r) ≡ t → x.left ≡ None → Lowest t path at
      no_left leaf r e pl z = record { frames = fs; key = j; value = v; right = r; whole = pl; on = on; first = b }
      no_left (node q i u a c) r e pl z = cc

      go_left : (l r : Tree K) → x.left ≡ top l → plug fs (node at j v l r) ≡ t → (q : ℕ) → x.left ≡ Some q → Leftward t (step_at at true ∷ path) q
      go_left l r e pl q z = record {
        frames = record { place = at; left = true; key = j; value = v; other = r } ∷ fs;
        here = l;
        at_is = sym z ∙ e;
        whole = pl;
        on = cc;
        first = append-nil (before fs) ∙ b;
      }

    left_at : (fs : List (Frame K)) (here : Tree K) → Some at ≡ top here → plug fs here ≡ t → path ≡ map step_of fs → before fs ≡ [] → Turn
    left_at fs leaf e pl on b = cc
    left_at fs (node p j v l r) e pl0 on b =
        let d : p ≡ at = cc in
        let pl : plug fs (node at j v l r) ≡ t = ap (λ a. plug fs (node a j v l r)) (sym d) ∙ pl0 in
        let hp = holds_plug ns fs (node at j v l r) (subst (Holds ns) (sym pl) s.held) in
        let y : Node K = rec j v (top l) (top r) (max (height l) (height r) + 1) in
        let pd = path_low path fs (node at j v l r) t on pl in
        let lo = s.low in
        let dl : length path < 14 = omega arith in (
          slice_get_within ns at y hp.1.0,
          λ x g.
              let xl : x.left ≡ top l = ap (λ (n : Node K). n.left) (g ∙ get_or_from_slice_get ns at y x hp.1.0) in
              (no_left fs on b j v x l r xl pl, λ q z. (dl, go_left fs on b j v x l r xl pl q z)),
        )

  pub left_turn : {path : List Step} {at : ℕ} → Leftward t path at → Turn path at
  left_turn {path} {at} w = left_at path at w.frames w.here w.at_is w.whole w.on w.first

  module _ {path : List Step} {place : ℕ} (l : Lowest t path place) where
    lies : slice_get ns place ≡ Some (rec l.key l.value None (top l.right) (max 0 (height l.right) + 1))
    lies = (holds_plug ns l.frames (node place l.key l.value leaf l.right) (subst (Holds ns) (sym l.whole) s.held)).1.0

    pub least_in : place < length ns
    least_in = slice_get_within ns place (rec l.key l.value None (top l.right) (max 0 (height l.right) + 1)) lies

    occ_t : (q : ℕ) → occ q t ≡ one q place + (occ q l.right + occ_frames q l.frames)
    occ_t q =
        let a = occ-plug q l.frames (node place l.key l.value leaf l.right) in
        let b : occ q t ≡ occ q (plug l.frames (node place l.key l.value leaf l.right)) = ap (occ q) (sym l.whole) in
        omega arith

    th : height t ≡ tall (height l.right + 1) l.frames
    th =
        let e : height (node place l.key l.value leaf l.right) ≡ height l.right + 1 = omega arith in
        ap height (sym l.whole) ∙ (height-plug l.frames (node place l.key l.value leaf l.right) ∙ ap (λ h. tall h l.frames) e)

    pub least_rising : {x : Node K} → x ≡ get_or ns place x → Rising ns path x.right l.frames l.right (height l.right + 1)
    least_rising {x} g =
        let hp = holds_plug ns l.frames (node place l.key l.value leaf l.right) (subst (Holds ns) (sym l.whole) s.held) in
        let lp = level_plug l.frames (node place l.key l.value leaf l.right) (subst Balanced (sym l.whole) s.level) in
        let e : height (node place l.key l.value leaf l.right) ≡ height l.right + 1 = omega arith in
        let lo = s.low in
        let tt0 = th in
        record {
          on = l.on;
          at_is = ap (λ (n : Node K). n.right) (g ∙ get_or_from_slice_get ns place (rec l.key l.value None (top l.right) (max 0 (height l.right) + 1)) x lies);
          framed = hp.0;
          held = hp.1.2;
          apart = λ q. let a = occ_t q in let b = s.apart q in omega arith;
          level = lp.1.3;
          fit = subst (λ h. Fit h l.frames) e lp.0;
          upper = omega arith;
          lower = omega arith;
          low = omega arith;
        }

    pub popped : {ms : List (Node K)} {r : Option ℕ} → Risen ns ms r (plug l.frames l.right) (tall (height l.right + 1) l.frames) → Popped ns ms place r t
    popped n =
        let o0 = one_self place in
        let op : (q : ℕ) → occ q (plug l.frames l.right) ≡ occ q l.right + occ_frames q l.frames = λ q. occ-plug q l.frames l.right in
        let tt0 = th in
        let up = n.upper in
        let lo = n.lower in
        record {
          key = l.key;
          value = l.value;
          rest = n.tree;
          at = rec l.key l.value None (top l.right) (max 0 (height l.right) + 1);
          lies = n.kept place (let a = occ_t place in let b = s.apart place in let d = op place in omega arith) ∙ lies;
          keyed = refl;
          valued = refl;
          rooted = n.at;
          held = n.held;
          pairs =
              ap entries (sym l.whole)
              ∙ (entries-plug l.frames (node place l.key l.value leaf l.right)
              ∙ (ap (λ es. es ++ ((l.key, l.value) ∷ (entries l.right ++ after l.frames))) l.first
              ∙ ap (λ es. (l.key, l.value) ∷ es)
              (sym (n.like.pairs ∙ (entries-plug l.frames l.right ∙ ap (λ es. es ++ (entries l.right ++ after l.frames)) l.first)))));
          places = λ q. let a = occ_t q in let b = n.like.places q in let d = op q in omega arith;
          count =
              let a = size-plug l.frames l.right (node place l.key l.value leaf l.right) (omega arith) in
              let b : size t ≡ size (plug l.frames (node place l.key l.value leaf l.right)) = ap size (sym l.whole) in
              let d = n.like.count in
              omega arith;
          level = n.level;
          upper = omega arith;
          lower = omega arith;
          kept = λ q z. let a = occ_t q in let d = op q in n.kept q (omega arith);
          long = n.long;
        }
