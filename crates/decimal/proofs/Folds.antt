use Rattle.std.proofs.Common.{◌≡◌, ℕ, Bool, true, false, ◌&&◌, List, [], ◌∷◌, refl, ap, ◌∙◌}
use Rattle.std.specs.List.{fold, list_all}

-- Tests joined by `and` hold where each of them does.

pub all_folded : (test : ℕ → Bool) (a : Bool) (bs : List ℕ) → fold (λ x b. x && test b) a bs ≡ (a && list_all test bs)
all_folded test a [] = plain a
  where
    plain : (x : Bool) → x ≡ (x && true)
    plain true = refl
    plain false = refl
all_folded test a (b ∷ bs) = all_folded test (a && test b) bs ∙ regroup a (test b) (list_all test bs)
  where
    regroup : (x y z : Bool) → ((x && y) && z) ≡ (x && (y && z))
    regroup true y z = refl
    regroup false y z = refl
