-- The calls over a table of any length, from those over the records that serve.
use Rattle.std.proofs.Common.{◌≡◌, ℕ, ◌+◌, ◌<◌, ◌≤◌, min, true, false, ◌⊎◌, List, [], ◌++◌, length, take, drop, is_some, Some, None, Option, Ordering, sym, refl, ap, ◌∙◌, subst, ⊎_elim, arith, length-take, length-append, length-drop}
use Rattle.std.proofs.lemmas.List.{take_min, take_at, take-append-drop}
use Rattle.std.proofs.lemmas.Bool.{false≢true, true≢false}
use Rattle.std.proofs.lemmas.Bool.Decides.{nat_tests}
use Rattle.ordered_map.specs.declared.head.Head.{Head}
use Rattle.ordered_map.specs.declared.node.Node.{Node}
use Rattle.ordered_map.specs.Order.{Order}
use Rattle.ordered_map.specs.Tree.{entries, Balanced, Rises, value_at, steps, least}
use Rattle.ordered_map.specs.Table.{Kept, pairs_of, Linked}
use Rattle.ordered_map.specs.Enter.{Headed, Entered, Taken}
use Rattle.ordered_map.specs.Map.{served, room, tree_in, pairs_in, Sound, can_enter, AfterEnter, AfterRemove}
use Rattle.ordered_map.proofs.Heights.{low_by, steps_low}
use Rattle.ordered_map.proofs.Lookups.{rep_tree}
use Rattle.ordered_map.proofs.Enters.{head_of, length-entries}
use Rattle.ordered_map.proofs.Chains.{empty}
use Rattle.ordered_map.proofs.Pairs.{put_gets, put_others, cut_absent, cut_others, cut_gone}

-- ---- the part that serves

module _ {K : Type 0} (ns : List (Node K)) where
  pub length-served : length (served ns) ≡ min (length ns) 1024
  unfolding served
  length-served = let a = length-take 1024 ns in omega arith

  pub part_served : {n : ℕ} → n ≡ min (length ns) 1024 → take n ns ≡ served ns
  unfolding served
  part_served {n} e = let d : n ≡ min 1024 (length ns) = omega arith in ap (λ m. take m ns) d ∙ take_min 1024 ns

module _ {K : Type 0} (ns : List (Node K)) {n : ℕ} (e : n ≡ min (length ns) 1024) where
  pub joined_served : (ms : List (Node K)) → length ms ≡ length (take n ns) → served (ms ++ drop n ns) ≡ ms
  joined_served ms l =
      let a = length-take n ns in
      let b = length-append ms (drop n ns) in
      let d = length-drop n ns in
      sym (part_served (ms ++ drop n ns) (omega arith)) ∙ take_at ms (drop n ns) n (omega arith)

  -- what a call makes of the part is what it makes of the whole
  moved : (P : List (Node K) → List (Node K) → Type 0) (ms : List (Node K)) → length ms ≡ length (take n ns) → P (take n ns) ms → P (served ns) (served (ms ++ drop n ns))
  moved P ms l d =
      subst (λ q. P (served ns) q) (sym (joined_served ms l)) (subst (λ q. P q ms) (part_served ns e) d)

  same : (ms : List (Node K)) → ms ≡ take n ns → ms ++ drop n ns ≡ ns
  same ms d = ap (λ q. q ++ drop n ns) d ∙ take-append-drop n ns

-- ---- what is sound

module _ {K : Type 0} {c : K → K → Ordering} where
  pub sound_by : (ns : List (Node K)) (h : Head) → Headed c (served ns) h → Sound c ns h
  sound_by ns h (s, e) = record {
    kept = s;
    counted = e;
    sorted = subst (λ t. Rises c (entries t)) (sym (rep_tree c (served ns) h.root h.free s.0 s.1 s.2)) s.2.sorted;
  }

  pub part_headed : {ns : List (Node K)} {h : Head} → Sound c ns h → {n : ℕ} → n ≡ min (length ns) 1024 → Headed c (take n ns) h
  part_headed {ns} {h} s e = subst (λ q. Headed c q h) (sym (part_served ns e)) (s.kept, s.counted)

  -- the count of a look-up, by the number of pairs
  pub count_low : {ns : List (Node K)} {h : Head} → Sound c ns h → (k : K) (m : ℕ) → length (pairs_in ns h) < least (m + 1) → steps c (tree_in ns h) k ≤ m
  count_low {ns} {h} s k m l =
      let e = rep_tree c (served ns) h.root h.free s.kept.0 s.kept.1 s.kept.2 in
      let b : Balanced (tree_in ns h) = subst Balanced (sym e) s.kept.2.level in
      let z = length-entries (tree_in ns h) in
      let a = low_by (length (pairs_in ns h)) m (tree_in ns h) b (omega arith) l in
      let d = steps_low c (tree_in ns h) k in
      omega arith

module _ {K : Type 0} (c : K → K → Ordering) (ns : List (Node K)) {n : ℕ} (e : n ≡ min (length ns) 1024) (ms : List (Node K)) (free : Option ℕ) (l : length ms ≡ length (take n ns)) (d : Linked ms 0 free) where
  emptied : Kept c (served (ms ++ drop n ns)) None free × (pairs_of (served (ms ++ drop n ns)) None ≡ [])
  emptied =
      let a = length-served (ms ++ drop n ns) in
      empty c (served (ms ++ drop n ns)) free (omega arith) (moved ns e (λ _ q. Linked q 0 free) ms l d)

  pub start_sound : Sound c (ms ++ drop n ns) (head_of None free 0)
  start_sound = sound_by (ms ++ drop n ns) (head_of None free 0) (emptied.0, ap length (sym emptied.1))

  pub start_empty : pairs_in (ms ++ drop n ns) (head_of None free 0) ≡ []
  start_empty = emptied.1

module _ {K : Type 0} {c : K → K → Ordering} (w : Order c) {ns : List (Node K)} {h : Head} (s : Sound c ns h) {n : ℕ} (e : n ≡ min (length ns) 1024) (k : K) where
  no_room : (is_some (value_at c (pairs_in ns h) k) ≡ true) ⊎ (length (pairs_in ns h) ≡ length (served ns)) → can_enter c ns h k ≡ false
  no_room =
      ⊎_elim
      (λ p. rw p refl)
      (λ f. let b = length-served ns in grind (arith, nat_tests))

  -- ---- entering

  module _ (v : ℕ) {ms : List (Node K)} where
    module _ {g : Head} (d : Entered c (take n ns) h k v ms (Some g)) where
      entered : Entered c (served ns) h k v (served (ms ++ drop n ns)) (Some g)
      entered = moved ns e (λ q r. Entered c q h k v r (Some g)) ms d.4 d

      pub entered_sound : Sound c (ms ++ drop n ns) g
      entered_sound = sound_by (ms ++ drop n ns) g entered.0

      pub entered_cases : AfterEnter c ns h k v (ms ++ drop n ns) g true
      entered_cases =
          let b = length-served ns in
          let lt : length (pairs_in ns h) < room ns = (let a = entered.2 in omega arith) in
          record {
            answers = rw entered.1 (grind (arith, nat_tests));
            list = entered.3;
            gets = λ _. ap (λ es. value_at c es k) entered.3 ∙ put_gets c w (pairs_in ns h) k v entered.1;
            others = λ j ne. ap (λ es. value_at c es j) entered.3 ∙ put_others c w (pairs_in ns h) k v j ne;
            refused = λ z. absurd (true≢false z);
          }

    pub refused_cases : Entered c (take n ns) h k v ms None → AfterEnter c ns h k v (ms ++ drop n ns) h false
    refused_cases d =
        let r = moved ns e (λ q r. Entered c q h k v r None) ms (ap length d.0) d in
        subst (λ q. AfterEnter c ns h k v q h false) (sym (same ns e ms d.0))
        (record { answers = sym (no_room r.1); list = refl; gets = λ z. absurd (false≢true z); others = λ j ne. refl; refused = λ _. (refl, refl) })

  -- ---- removing

  module _ {ms : List (Node K)} where
    module _ {g : Head} (d : Taken c (take n ns) h k ms (Some g)) where
      taken : Taken c (served ns) h k (served (ms ++ drop n ns)) (Some g)
      taken = moved ns e (λ q r. Taken c q h k r (Some g)) ms d.3 d

      pub taken_sound : Sound c (ms ++ drop n ns) g
      taken_sound = sound_by (ms ++ drop n ns) g taken.0

      pub taken_cases : AfterRemove c ns h k (ms ++ drop n ns) g true
      taken_cases = record {
        answers = sym taken.1;
        list = taken.2;
        gone = ap (λ es. value_at c es k) taken.2 ∙ cut_gone c w (pairs_in ns h) k s.sorted;
        others = λ j ne. ap (λ es. value_at c es j) taken.2 ∙ cut_others c w (pairs_in ns h) k j ne;
        refused = λ y. absurd (true≢false y);
      }

    pub absent_cases : Taken c (take n ns) h k ms None → AfterRemove c ns h k (ms ++ drop n ns) h false
    absent_cases d =
        let r = moved ns e (λ q r. Taken c q h k r None) ms (ap length d.0) d in
        subst (λ q. AfterRemove c ns h k q h false) (sym (same ns e ms d.0))
        (record { answers = ap is_some (sym r.1); list = sym (cut_absent c w (pairs_in ns h) k r.1); gone = r.1; others = λ j ne. refl; refused = λ _. (refl, refl) })
