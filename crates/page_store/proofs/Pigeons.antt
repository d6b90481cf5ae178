use Rattle.std.proofs.Common.{◌≡◌, ℕ, zero, suc, ◌+◌, ◌<◌, ◌≤◌, not, eqb, List, [], ◌∷◌, ◌++◌, length, filter, sym, refl, ap, ◌∙◌, ⊎_elim, arith}
use Rattle.std.proofs.lemmas.Bool.{cases_eq, eq-eqb, ne_eqb}
use Rattle.page_store.specs.Tallies.{tally}

-- Numbers below a limit of which none stands twice are no more than the limit.

pub tally_here : (q : ℕ) (xs : List ℕ) → tally q (q ∷ xs) ≡ 1 + tally q xs
tally_here q xs = rw (eq-eqb q q refl)

pub tally_there : (q x : ℕ) (xs : List ℕ) → (x ≡ q → ⊥) → tally q (x ∷ xs) ≡ tally q xs
tally_there q x xs ne = rw (ne_eqb x q ne) (omega arith)

pub tally-append : (q : ℕ) (xs ys : List ℕ) → tally q (xs ++ ys) ≡ tally q xs + tally q ys
tally-append q [] ys = omega arith
tally-append q (x ∷ xs) ys = let e = tally-append q xs ys in omega arith

-- the list without the number n
without : ℕ → List ℕ → List ℕ
without n xs = filter (λ x. not (eqb x n)) xs

without-length : (n : ℕ) (xs : List ℕ) → length xs ≡ length (without n xs) + tally n xs
unfolding without
without-length n [] = refl
without-length n (x ∷ xs) =
    let e = without-length n xs in
    ⊎_elim (λ (h : x ≡ n). rw (eq-eqb x n h) (omega arith)) (λ (h : x ≡ n → ⊥). rw (ne_eqb x n h) (omega arith)) (cases_eq x n)

without_none : (n : ℕ) (xs : List ℕ) → tally n (without n xs) ≡ 0
unfolding without
without_none n [] = refl
without_none n (x ∷ xs) =
    let e = without_none n xs in
    ⊎_elim
    (λ (h : x ≡ n). rw (eq-eqb x n h) e)
    (λ (h : x ≡ n → ⊥). rw (ne_eqb x n h) (rw (ne_eqb x n h) (omega arith)))
    (cases_eq x n)

without_other : (n q : ℕ) (xs : List ℕ) → (q ≡ n → ⊥) → tally q (without n xs) ≡ tally q xs
unfolding without
without_other n q [] ne = refl
without_other n q (x ∷ xs) ne =
    let e = without_other n q xs ne in
    ⊎_elim
    (λ (h : x ≡ n). let f : x ≡ q → ⊥ = λ z. ne (sym z ∙ h) in rw (eq-eqb x n h, ne_eqb x q f) (omega arith))
    (λ (h : x ≡ n → ⊥). rw (ne_eqb x n h) (omega arith))
    (cases_eq x n)

pub pigeonhole : (n : ℕ) (xs : List ℕ) → ((q : ℕ) → n ≤ q → tally q xs ≡ 0) → ((q : ℕ) → tally q xs ≤ 1) → length xs ≤ n
pigeonhole zero [] low once = omega arith
pigeonhole zero (x ∷ xs) low once = let e = low x (omega arith) in let f = tally_here x xs in absurd (omega arith)
pigeonhole (suc n) xs low once =
    let l = without-length n xs in
    let o = once n in
    let r : length (without n xs) ≤ n =
    pigeonhole n (without n xs)
    (λ q h. ⊎_elim (λ (e : q ≡ n). ap (λ k. tally k (without n xs)) e ∙ without_none n xs) (λ (e : q ≡ n → ⊥). without_other n q xs e ∙ low q (omega arith)) (cases_eq q n))
    (λ q. ⊎_elim
    (λ (e : q ≡ n). let z = ap (λ k. tally k (without n xs)) e ∙ without_none n xs in omega arith)
    (λ (e : q ≡ n → ⊥). let z = without_other n q xs e in let w = once q in omega arith)
    (cases_eq q n)) in
    omega arith

-- and where some number below the limit is not among them, they are less
pub pigeonhole_less : (n q : ℕ) (xs : List ℕ) → q < n → tally q xs ≡ 0 → ((k : ℕ) → n ≤ k → tally k xs ≡ 0) → ((k : ℕ) → tally k xs ≤ 1) → length xs < n
pigeonhole_less n q xs h none low once =
    let r : length (q ∷ xs) ≤ n =
    pigeonhole n (q ∷ xs)
    (λ k l. tally_there k q xs (λ e. omega arith) ∙ low k l)
    (λ k. ⊎_elim
    (λ (e : q ≡ k). one q k xs e none)
    (λ (e : q ≡ k → ⊥). let z = tally_there k q xs e in let w = once k in omega arith)
    (cases_eq q k)) in
    omega arith
  where
    one : (q k : ℕ) (xs : List ℕ) → q ≡ k → tally q xs ≡ 0 → tally k (q ∷ xs) ≤ 1
    one q k xs e w = let z : tally k xs ≡ 0 = ap (λ j. tally j xs) (sym e) ∙ w in rw (eq-eqb q k e) (omega arith)
