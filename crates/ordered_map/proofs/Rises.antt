-- The climb along a path.
use Rattle.std.proofs.Common.{◌≡◌, ℕ, ◌+◌, ◌<◌, ◌≤◌, max, Bool, true, false, List, [], ◌∷◌, ◌++◌, map, length, Some, Option, sym, refl, ap, ◌∙◌, subst, ⊎_elim, arith}
use Rattle.std.proofs.lemmas.Bool.{cases_lt}
use Rattle.std.specs.List.{slice_get}
use Rattle.ordered_map.specs.declared.node.Node.{Node}
use Rattle.ordered_map.specs.declared.path.Step.{Step}
use Rattle.ordered_map.specs.Tree.{Tree, height, occ, one, entries}
use Rattle.ordered_map.specs.Edit.{bond, Like}
use Rattle.ordered_map.specs.Path.{Mendable, Mended, Frame, fill, plug, step_of, Framed, occ_frames, tall, Rising, Climbing, Risen}
use Rattle.ordered_map.proofs.Bonds.{one_self, occ-bond, size-bond, height-bond, holds_kept}

-- ---- like trees

pub like_trans : {K : Type 0} {a b c : Tree K} → Like a b → Like b c → Like a c
like_trans f g = record { pairs = g.pairs ∙ f.pairs; count = g.count ∙ f.count; places = λ q. g.places q ∙ f.places q }

pairs_bond : {K : Type 0} (s : Bool) (p : ℕ) (k : K) (v : ℕ) (a a' b : Tree K) → entries a' ≡ entries a → entries (bond s p k v a' b) ≡ entries (bond s p k v a b)
pairs_bond true p k v a a' b e = ap (λ es. es ++ (k, v) ∷ entries b) e
pairs_bond false p k v a a' b e = ap (λ es. entries b ++ (k, v) ∷ es) e

pub fill_like : {K : Type 0} (f : Frame K) {t u : Tree K} → Like t u → Like (fill f t) (fill f u)
fill_like f {t} {u} l = record {
  pairs = pairs_bond f.left f.place f.key f.value t u f.other l.pairs;
  count =
      let a = size-bond f.left f.place f.key f.value t f.other in
      let b = size-bond f.left f.place f.key f.value u f.other in
      let c = l.count in
      omega arith;
  places = λ q.
      let a = occ-bond q f.left f.place f.key f.value t f.other in
      let b = occ-bond q f.left f.place f.key f.value u f.other in
      let c = l.places q in
      omega arith;
}

pub plug_like : {K : Type 0} (fs : List (Frame K)) {t u : Tree K} → Like t u → Like (plug fs t) (plug fs u)
plug_like [] l = l
plug_like (f ∷ fs) l = plug_like fs (fill_like f l)

pub occ-plug : {K : Type 0} (q : ℕ) (fs : List (Frame K)) (t : Tree K) → occ q (plug fs t) ≡ occ q t + occ_frames q fs
occ-plug q [] t = omega arith
occ-plug q (f ∷ fs) t =
    let a = occ-plug q fs (fill f t) in
    let b = occ-bond q f.left f.place f.key f.value t f.other in
    omega arith

-- ---- what other writes leave

pub framed_kept : {K : Type 0} (ns ms : List (Node K)) (fs : List (Frame K)) → ((q : ℕ) → 0 < occ_frames q fs → slice_get ms q ≡ slice_get ns q) → Framed ns fs → Framed ms fs
framed_kept ns ms [] k h = tt
framed_kept ns ms (f ∷ fs) k h =
    let z = one_self f.place in (
      record {
        at = h.0.at;
        lies = k f.place (omega arith) ∙ h.0.lies;
        keyed = h.0.keyed;
        valued = h.0.valued;
        far = h.0.far;
        held = holds_kept ns ms f.other (λ q u. k q (omega arith)) h.0.held;
      },
      framed_kept ns ms fs (λ q u. k q (omega arith)) h.1,
    )

pub tall_up : {K : Type 0} (h : ℕ) (fs : List (Frame K)) → h ≤ tall h fs
tall_up h [] = omega arith
tall_up h (f ∷ fs) = let x = tall_up (max h (height f.other) + 1) fs in omega arith

-- ---- one turn

module _ {K : Type 0} {ns : List (Node K)} {path : List Step} {at : Option ℕ} {f : Frame K} {fs : List (Frame K)} {t : Tree K} {h : ℕ} (r : Rising ns path at (f ∷ fs) t h) where
  abbrev pub mendable : Mendable ns f.place f.left at
  mendable =
      let g = r.framed.0 in
      let up = r.upper in
      let lo = r.lower in
      let f0 = r.fit.0 in
      let f1 = r.fit.1 in
      let tl = tall_up (max h (height f.other) + 1) fs in
      let low = r.low in
      record {
        key = f.key;
        value = f.value;
        a = t;
        b = f.other;
        loose = record { at = g.at; lies = g.lies; keyed = g.keyed; valued = g.valued; held_a = r.held; held_b = g.held; apart = λ q. let u = r.apart q in omega arith };
        near_is = r.at_is;
        far_is = g.far;
        level_a = r.level;
        level_b = r.fit.2;
        near_low = omega arith;
        far_low = omega arith;
        low = omega arith;
      }

  pub risen_one : {ms : List (Node K)} {o : ℕ} (d : Mended ns ms o (fill f t) t f.other) → Rising ms (map step_of fs) (Some o) fs d.made.tree (max h (height f.other) + 1)
  risen_one {ms} d =
      let m = d.made in
      let up = r.upper in
      let lo = r.lower in
      let f0 = r.fit.0 in
      let f1 = r.fit.1 in
      let hb = height-bond f.left f.place f.key f.value t f.other in
      let ml = m.lower in
      let mu = m.upper in
      let ob : (q : ℕ) → occ q (fill f t) ≡ one q f.place + (occ q t + occ q f.other) = λ q. occ-bond q f.left f.place f.key f.value t f.other in
      record {
        on = refl;
        at_is = m.at;
        framed = framed_kept ns ms fs (λ q u. m.kept q (let x = ob q in let y = r.apart q in omega arith)) r.framed.1;
        held = m.held;
        apart = λ q. let x = ob q in let y = r.apart q in let z = m.like.places q in omega arith;
        level = m.level;
        fit = r.fit.3;
        upper = omega arith;
        lower =
            ⊎_elim
            (λ x. omega arith)
            (λ x. ⊎_elim (λ y. omega arith) (λ y. let e = d.even x y in omega arith) (cases_lt (height t + 1) (height f.other)))
            (cases_lt (height f.other + 1) (height t));
        low = r.low;
      }

-- ---- the loop

-- the frame at a step
abbrev pub over : {K : Type 0} → Step → K → ℕ → Tree K → Frame K
over step k v b = record { place = step.place; left = step.left; key = k; value = v; other = b }

-- the same, with the lowest step off the path
pub record Onward {K : Type 0} (ns ms : List (Node K)) (step : Step) (path : List Step) (at : Option ℕ) (u : Tree K) (high : ℕ) : Type 0 where
  pub key : K
  pub value : ℕ
  pub other : Tree K
  pub rest : List (Frame K)
  pub tree : Tree K
  pub hole : ℕ
  pub path_is : path ≡ map step_of rest
  pub rising : Rising ms (step ∷ path) at (over step key value other ∷ rest) tree hole
  pub tall_is : tall hole (over step key value other ∷ rest) ≡ high
  pub like : Like u (plug (over step key value other ∷ rest) tree)
  pub kept : (q : ℕ) → occ q u ≡ 0 → slice_get ms q ≡ slice_get ns q
  pub long : length ms ≡ length ns

module _ {K : Type 0} {ns ms : List (Node K)} {at : Option ℕ} {u : Tree K} {high : ℕ} where
  onward_at : {step : Step} {path : List Step} (fs : List (Frame K)) (t : Tree K) (h : ℕ) → Rising ms (step ∷ path) at fs t h → tall h fs ≡ high → Like u (plug fs t) → ((q : ℕ) → occ q u ≡ 0 → slice_get ms q ≡ slice_get ns q) → length ms ≡ length ns → Onward ns ms step path at u high
  onward_at [] t h r e l k g = let d = r.on in cc
  onward_at {step} {path} (f ∷ fs) t h r e l k g =
      let d = r.on in
      let n : step ≡ step_of f = cc in
      let q : f ≡ over step f.key f.value f.other = ap (λ (y : Step). over y f.key f.value f.other) (sym n) in
      record {
        key = f.key;
        value = f.value;
        other = f.other;
        rest = fs;
        tree = t;
        hole = h;
        path_is = cc;
        rising = subst (λ (f : Frame K). Rising ms (step ∷ path) at (f ∷ fs) t h) q r;
        tall_is = e;
        like = subst (λ (f : Frame K). Like u (plug (f ∷ fs) t)) q l;
        kept = k;
        long = g;
      }

  pub onward : {step : Step} {path all : List Step} → all ≡ step ∷ path → Climbing ns ms all at u high → Onward ns ms step path at u high
  onward e w = onward_at w.frames w.tree w.hole (subst (λ (p : List Step). Rising ms p at w.frames w.tree w.hole) e w.rising) w.tall_is w.like w.kept w.long

  finish_at : {path : List Step} (fs : List (Frame K)) (t : Tree K) (h : ℕ) → Rising ms path at fs t h → tall h fs ≡ high → Like u (plug fs t) → ((q : ℕ) → occ q u ≡ 0 → slice_get ms q ≡ slice_get ns q) → length ms ≡ length ns → path ≡ [] → Risen ns ms at u high
  finish_at [] t h r e l k g z = record { tree = t; at = r.at_is; held = r.held; like = l; upper = let a = r.upper in omega arith; lower = let a = r.lower in omega arith; level = r.level; kept = k; long = g }
  finish_at (f ∷ fs) t h r e l k g z = let d = r.on in cc

  pub finish : {path : List Step} → Climbing ns ms path at u high → path ≡ [] → Risen ns ms at u high
  finish w = finish_at w.frames w.tree w.hole w.rising w.tall_is w.like w.kept w.long

  module _ {step : Step} {path : List Step} (w : Onward ns ms step path at u high) where
    abbrev pub mend_ready : Mendable ms step.place step.left at
    mend_ready = mendable w.rising

    pub climbed : {os : List (Node K)} {o : ℕ} → Mended ms os o (bond step.left step.place w.key w.value w.tree w.other) w.tree w.other → Climbing ns os path (Some o) u high
    climbed {os} {o} d =
        let f : Frame K = over step w.key w.value w.other in
        let r = risen_one w.rising d in
        record {
          frames = w.rest;
          tree = d.made.tree;
          hole = max w.hole (height w.other) + 1;
          rising = subst (λ (p : List Step). Rising os p (Some o) w.rest d.made.tree (max w.hole (height w.other) + 1)) (sym w.path_is) r;
          tall_is = w.tall_is;
          like = like_trans w.like (plug_like w.rest d.made.like);
          kept = λ q z.
              let a = w.like.places q in
              let b = occ-plug q w.rest (fill f w.tree) in
              d.made.kept q (omega arith) ∙ w.kept q z;
          long = d.made.long ∙ w.long;
        }
