-- A pair put among sorted pairs, and a key cut out of them.
use Rattle.std.proofs.Common.{◌≡◌, ℕ, List, [], ◌∷◌, Some, None, Option, Ordering, Less, Equal, Greater, sym, refl, ap, ◌∙◌, subst}
use Rattle.std.specs.Ordering.{ordering_reverse, match_ordering as by_order}
use Rattle.ordered_map.specs.Order.{Order}
use Rattle.ordered_map.specs.Tree.{Rises, value_at}
use Rattle.ordered_map.specs.Enter.{put, cut}
use Rattle.ordered_map.proofs.Sorted.{Under, value_under, under_less}

self_by : (o : Ordering) → o ≡ ordering_reverse o → o ≡ Equal
self_by Less e = cc
self_by Equal e = refl
self_by Greater e = cc

module _ {K : Type 0} (c : K → K → Ordering) (w : Order c) where
  self : (k : K) → c k k ≡ Equal
  self k = self_by (c k k) (w.flip k k)

  -- another key than k is not equal to it
  skip : {A : Type 0} (j k : K) → (j ≡ k → ⊥) → (x y : A) → (o : Ordering) → c j k ≡ o → by_order o x y x ≡ x
  skip j k ne x y Less e = refl
  skip j k ne x y Equal e = absurd (ne (w.exact j k e))
  skip j k ne x y Greater e = refl

  -- ---- put

  gets_step : (o : Ordering) (k : K) (v : ℕ) (e : K × ℕ) (es ps : List (K × ℕ)) → c k e.0 ≡ o → by_order o (value_at c es k) (Some e.1) (value_at c es k) ≡ None → (value_at c es k ≡ None → value_at c ps k ≡ Some v) → value_at c (by_order o ((k, v) ∷ e ∷ es) (e ∷ es) (e ∷ ps)) k ≡ Some v
  gets_step Less k v e es ps q h f = rw (self k) refl
  gets_step Equal k v e es ps q h f = cc
  gets_step Greater k v e es ps q h f = rw q (f h)

  pub put_gets : (es : List (K × ℕ)) (k : K) (v : ℕ) → value_at c es k ≡ None → value_at c (put c es k v) k ≡ Some v
  put_gets [] k v h = rw (self k) refl
  put_gets (e ∷ es) k v h = gets_step (c k e.0) k v e es (put c es k v) refl h (put_gets es k v)

  others_step : (o : Ordering) (k : K) (v : ℕ) (j : K) (e : K × ℕ) (es ps : List (K × ℕ)) → (j ≡ k → ⊥) → value_at c ps j ≡ value_at c es j → value_at c (by_order o ((k, v) ∷ e ∷ es) (e ∷ es) (e ∷ ps)) j ≡ value_at c (e ∷ es) j
  others_step Less k v j e es ps ne f = skip j k ne (value_at c (e ∷ es) j) (Some v) (c j k) refl
  others_step Equal k v j e es ps ne f = refl
  others_step Greater k v j e es ps ne f = ap (λ x. by_order (c j e.0) x (Some e.1) x) f

  pub put_others : (es : List (K × ℕ)) (k : K) (v : ℕ) (j : K) → (j ≡ k → ⊥) → value_at c (put c es k v) j ≡ value_at c es j
  put_others [] k v j ne = skip j k ne None (Some v) (c j k) refl
  put_others (e ∷ es) k v j ne = others_step (c k e.0) k v j e es (put c es k v) ne (put_others es k v j ne)

  -- ---- cut

  absent_step : (o : Ordering) (e : K × ℕ) (es ps : List (K × ℕ)) (x : Option ℕ) → by_order o x (Some e.1) x ≡ None → (x ≡ None → ps ≡ es) → by_order o (e ∷ es) es (e ∷ ps) ≡ e ∷ es
  absent_step Less e es ps x h f = refl
  absent_step Equal e es ps x h f = cc
  absent_step Greater e es ps x h f = ap (λ ys. e ∷ ys) (f h)

  pub cut_absent : (es : List (K × ℕ)) (k : K) → value_at c es k ≡ None → cut c es k ≡ es
  cut_absent [] k h = refl
  cut_absent (e ∷ es) k h = absent_step (c k e.0) e es (cut c es k) (value_at c es k) h (cut_absent es k)

  kept_step : (o : Ordering) (k j : K) (e : K × ℕ) (es ps : List (K × ℕ)) → c k e.0 ≡ o → (j ≡ k → ⊥) → value_at c ps j ≡ value_at c es j → value_at c (by_order o (e ∷ es) es (e ∷ ps)) j ≡ value_at c (e ∷ es) j
  kept_step Less k j e es ps q ne f = refl
  kept_step Equal k j e es ps q ne f = sym (skip j e.0 (λ d. ne (d ∙ sym (w.exact k e.0 q))) (value_at c es j) (Some e.1) (c j e.0) refl)
  kept_step Greater k j e es ps q ne f = ap (λ x. by_order (c j e.0) x (Some e.1) x) f

  pub cut_others : (es : List (K × ℕ)) (k j : K) → (j ≡ k → ⊥) → value_at c (cut c es k) j ≡ value_at c es j
  cut_others [] k j ne = refl
  cut_others (e ∷ es) k j ne = kept_step (c k e.0) k j e es (cut c es k) refl ne (cut_others es k j ne)

  under_equal : (k : K) (e : K × ℕ) (es : List (K × ℕ)) → c k e.0 ≡ Equal → Under c e.0 es → Under c k es
  under_equal k e es q h = subst (λ (x : K). Under c x es) (sym (w.exact k e.0 q)) h

  gone_step : (o : Ordering) (k : K) (e : K × ℕ) (es ps : List (K × ℕ)) → c k e.0 ≡ o → Under c e.0 es → value_at c ps k ≡ None → value_at c (by_order o (e ∷ es) es (e ∷ ps)) k ≡ None
  gone_step Less k e es ps q u f = value_under c k (e ∷ es) (q, under_less c w k e.0 es q u)
  gone_step Equal k e es ps q u f = value_under c k es (under_equal k e es q u)
  gone_step Greater k e es ps q u f = rw q f

  pub cut_gone : (es : List (K × ℕ)) (k : K) → Rises c es → value_at c (cut c es k) k ≡ None
  cut_gone [] k r = refl
  cut_gone (e ∷ es) k r = gone_step (c k e.0) k e es (cut c es k) refl r.0 (cut_gone es k r.1)
