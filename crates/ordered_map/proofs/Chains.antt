-- The chain of free places.
use Rattle.std.proofs.Common.{◌≡◌, ℕ, ◌+◌, ◌<◌, ◌≤◌, List, [], ◌∷◌, length, set, Some, None, Option, Ordering, refl, ap, ◌∙◌, ⊎_elim, arith, length-set}
use Rattle.std.proofs.lemmas.Bool.{cases_eq}
use Rattle.ordered_map.specs.declared.node.Node.{Node}
use Rattle.ordered_map.specs.Tree.{leaf, entries, one}
use Rattle.ordered_map.specs.Table.{Rep, Kept, pairs_of, occs, Linked}
use Rattle.ordered_map.proofs.Nths.{nth_set_same, nth_set_other}
use Rattle.ordered_map.proofs.Bonds.{one_self, one_other}
use Rattle.ordered_map.proofs.Lookups.{rep_tree}
use Rattle.ordered_map.proofs.Enters.{chained_kept}

pub linked_more : {K : Type 0} (ns : List (Node K)) (i j : ℕ) (free : Option ℕ) (x : Node K) → j ≡ i + 1 → i < length ns → x.left ≡ free → Linked ns j free → Linked (set ns i x) i (Some i)
linked_more ns i j free x n h e l =
    let a0 = l.above i (omega arith) in
    let o = one_self i in
    record {
      places = i ∷ l.places;
      freed = refl;
      chained = (
        (x, nth_set_same ns i x h, e ∙ l.freed),
        chained_kept ns (set ns i x) l.places (λ q u. nth_set_other ns i q x (λ d. absurd (let y : occs q l.places ≡ occs i l.places = ap (λ p. occs p l.places) d in omega arith))) l.chained,
      );
      apart = λ q. ⊎_elim
          (λ d. let y : occs q l.places ≡ occs i l.places = ap (λ p. occs p l.places) d in let v : one q i ≡ one i i = ap (λ p. one p i) d in omega arith)
          (λ d. let v = one_other q i d in let y = l.apart q in omega arith)
          (cases_eq q i);
      above = λ q u. let v = one_other q i (λ d. absurd (omega arith)) in let y = l.above q (omega arith) in omega arith;
      counted = let s = length-set ns i x in let y = l.counted in omega arith;
    }

pub empty : {K : Type 0} (c : K → K → Ordering) (ns : List (Node K)) (free : Option ℕ) → length ns ≤ 1024 → Linked ns 0 free → Kept c ns None free × (pairs_of ns None ≡ [])
empty c ns free s l =
    let r : Rep c ns None free leaf l.places = record {
      rooted = refl;
      freed = l.freed;
      held = tt;
      chained = l.chained;
      apart = λ q. let a = l.apart q in omega arith;
      counted = let a = l.counted in omega arith;
      small = s;
      level = tt;
      sorted = tt;
    } in
    ((leaf, l.places, r), ap entries (rep_tree c ns None free leaf l.places r))
