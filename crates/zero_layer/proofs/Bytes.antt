use Rattle.std.proofs.Common.{◌≡◌, ℕ, zero, suc, Bool, true, false, ◌&&◌, eqb, List, [], ◌∷◌, length, MatchBool, sym, refl, ap, ◌∙◌, arith}
use lib.Bits.{bit_or, or_add_and, and_le_l, and_le_r}
use Rattle.std.proofs.lemmas.Bool.{eqb-true, and_parts, both_ways}
use Rattle.std.proofs.lemmas.Bool.Decides.{nat_tests}
use Rattle.std.specs.List.{fold}
use Rattle.zero_layer.specs.Zeros.{zeros, is_zeros}

-- Pages of zeros.

zeros_from_test : (bs : List ℕ) → is_zeros bs ≡ true → bs ≡ zeros (length bs)
unfolding is_zeros
zeros_from_test [] h = refl
zeros_from_test (b ∷ bs) h =
    let w = and_parts (eqb b 0) (is_zeros bs) h in
    let b0 = eqb-true b 0 w.0 in
    let rest = zeros_from_test bs w.1 in
    cc

zeros_pass : (n : ℕ) → is_zeros (zeros n) ≡ true
unfolding is_zeros
zeros_pass zero = refl
zeros_pass (suc n) = zeros_pass n

pub test_tells : (r : Bool) (bs : List ℕ) → r ≡ is_zeros bs → MatchBool r (bs ≡ zeros (length bs)) (bs ≡ zeros (length bs) → ⊥)
test_tells true bs e = zeros_from_test bs (sym e)
test_tells false bs e = λ z. both_ways (is_zeros bs) (sym e) (ap is_zeros z ∙ zeros_pass (length bs))

-- Bytes joined by `or` are 0 where each of them is.

or_is_zero : (a b : ℕ) → eqb (bit_or a b) 0 ≡ (eqb a 0 && eqb b 0)
or_is_zero a b =
    let sum = or_add_and a b in
    let left = and_le_l a b in
    let right = and_le_r a b in
    grind (arith, nat_tests)

pub joined : (a : ℕ) (bs : List ℕ) → eqb (fold (λ x b. bit_or x b) a bs) 0 ≡ (eqb a 0 && is_zeros bs)
unfolding is_zeros
joined a [] = plain (eqb a 0)
  where
    plain : (x : Bool) → x ≡ (x && true)
    plain true = refl
    plain false = refl
joined a (b ∷ bs) = joined (bit_or a b) bs ∙ ap (λ t. t && is_zeros bs) (or_is_zero a b) ∙ regroup (eqb a 0) (eqb b 0) (is_zeros bs)
  where
    regroup : (x y z : Bool) → ((x && y) && z) ≡ (x && (y && z))
    regroup true y z = refl
    regroup false y z = refl
