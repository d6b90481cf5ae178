-- Pairs whose keys rise.
use Rattle.std.proofs.Common.{◌≡◌, ℕ, List, [], ◌∷◌, ◌++◌, Some, None, Option, Ordering, Less, Equal, Greater, sym, refl, ap, ◌∙◌}
use Rattle.std.specs.Ordering.{ordering_reverse, match_ordering as by_order}
use Rattle.std.specs.List.{AllByRecursion}
use Rattle.std.proofs.ByRecursion.{All-weaker}
use Rattle.ordered_map.specs.Order.{Order}
use Rattle.ordered_map.specs.Tree.{Tree, leaf, node, entries, Rises, value_at, find}

module _ {K : Type 0} (c : K → K → Ordering) where
  abbrev pub Under : K → List (K × ℕ) → Type 0
  Under k es = AllByRecursion (λ e. c k e.0 ≡ Less) es

  abbrev pub Over : K → List (K × ℕ) → Type 0
  Over k es = AllByRecursion (λ e. c k e.0 ≡ Greater) es

  pub value_under : (k : K) (es : List (K × ℕ)) → Under k es → value_at c es k ≡ None
  value_under k [] h = refl
  value_under k (e ∷ es) h = rw h.0 (value_under k es h.1)

  pub value_left : (k : K) (xs ys : List (K × ℕ)) → Under k ys → value_at c (xs ++ ys) k ≡ value_at c xs k
  value_left k [] ys h = value_under k ys h
  value_left k (x ∷ xs) ys h = rw (value_left k xs ys h) refl

  pub value_right : (k : K) (xs ys : List (K × ℕ)) → Over k xs → value_at c (xs ++ ys) k ≡ value_at c ys k
  value_right k [] ys h = refl
  value_right k (x ∷ xs) ys h = rw h.0 (value_right k xs ys h.1)

  all_left : (P : K × ℕ → Type 0) (xs ys : List (K × ℕ)) → AllByRecursion P (xs ++ ys) → AllByRecursion P xs
  all_left P [] ys h = tt
  all_left P (x ∷ xs) ys h = (h.0, all_left P xs ys h.1)

  all_right : (P : K × ℕ → Type 0) (xs ys : List (K × ℕ)) → AllByRecursion P (xs ++ ys) → AllByRecursion P ys
  all_right P [] ys h = h
  all_right P (x ∷ xs) ys h = all_right P xs ys h.1

  pub rises_left : (xs ys : List (K × ℕ)) → Rises c (xs ++ ys) → Rises c xs
  rises_left [] ys h = tt
  rises_left (x ∷ xs) ys h = (all_left (λ d. c x.0 d.0 ≡ Less) xs ys h.0, rises_left xs ys h.1)

  pub rises_right : (xs ys : List (K × ℕ)) → Rises c (xs ++ ys) → Rises c ys
  rises_right [] ys h = h
  rises_right (x ∷ xs) ys h = rises_right xs ys h.1

  pub rises_mid : (xs : List (K × ℕ)) (e : K × ℕ) (ys : List (K × ℕ)) → Rises c (xs ++ e ∷ ys) → AllByRecursion (λ d. c d.0 e.0 ≡ Less) xs
  rises_mid [] e ys h = tt
  rises_mid (x ∷ xs) e ys h = ((all_right (λ d. c x.0 d.0 ≡ Less) xs (e ∷ ys) h.0).0, rises_mid xs e ys h.1)

  module _ (w : Order c) where
    turned_less : (x y : K) → c x y ≡ Less → c y x ≡ Greater
    turned_less x y h = w.flip y x ∙ ap ordering_reverse h

    turned_greater : (x y : K) → c x y ≡ Greater → c y x ≡ Less
    turned_greater x y h = w.flip y x ∙ ap ordering_reverse h

    -- what lies beyond a key that is at least k
    pub under_less : (k j : K) (es : List (K × ℕ)) → c k j ≡ Less → Under j es → Under k es
    under_less k j es h = All-weaker (λ e. c j e.0 ≡ Less) (λ e. c k e.0 ≡ Less) (λ e u. w.trans k j e.0 h u) es

    pub over_mid : (k j : K) (es : List (K × ℕ)) → c k j ≡ Greater → AllByRecursion (λ d. c d.0 j ≡ Less) es → Over k es
    over_mid k j es h = All-weaker (λ d. c d.0 j ≡ Less) (λ e. c k e.0 ≡ Greater) (λ e u. turned_less e.0 k (w.trans e.0 j k u (turned_greater k j h))) es

    pub over_equal : (k j : K) (es : List (K × ℕ)) → c k j ≡ Equal → AllByRecursion (λ d. c d.0 j ≡ Less) es → Over k es
    over_equal k j es h = All-weaker (λ d. c d.0 j ≡ Less) (λ e. c k e.0 ≡ Greater) (λ e u. turned_less e.0 k (rw (w.exact k j h) u)) es

    find_by : (k j : K) (v : ℕ) (xs ys : List (K × ℕ)) (a b : Option ℕ) (o : Ordering) → c k j ≡ o → Rises c (xs ++ (j, v) ∷ ys) → a ≡ value_at c xs k → b ≡ value_at c ys k → by_order o a (Some v) b ≡ value_at c (xs ++ (j, v) ∷ ys) k
    find_by k j v xs ys a b Less e h p q = p ∙ sym (value_left k xs ((j, v) ∷ ys) (e, under_less k j ys e (rises_right xs ((j, v) ∷ ys) h).0))
    find_by k j v xs ys a b Equal e h p q =
        let z = value_right k xs ((j, v) ∷ ys) (over_equal k j xs e (rises_mid xs (j, v) ys h)) in rw (z, e) refl
    find_by k j v xs ys a b Greater e h p q =
        let z = value_right k xs ((j, v) ∷ ys) (over_mid k j xs e (rises_mid xs (j, v) ys h)) in rw (z, e) q

    pub find_is : (t : Tree K) (k : K) → Rises c (entries t) → find c t k ≡ value_at c (entries t) k
    find_is leaf k h = refl
    find_is (node p j v l r) k h =
        find_by k j v (entries l) (entries r) (find c l k) (find c r k) (c k j) refl h
        (find_is l k (rises_left (entries l) ((j, v) ∷ entries r) h))
        (find_is r k (rises_right (entries l) ((j, v) ∷ entries r) h).1)
