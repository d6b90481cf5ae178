use Rattle.std.proofs.Common.{◌≡◌, ℕ, ◌^◌, ◌<◌, Bool, true, false, List, length, Option, Result, Ok, Err, refl, rules}
use Rattle.std.specs.Result.{OkIff, result_ok}
use Rattle.std.specs.Str.Parse.{digits_value, ParsesUnsigned}
use Rattle.std.proofs.lemmas.Bool.{both_ways}
use Rattle.std.proofs.lemmas.Str.Parse.{IsNumeralModel, numerals_by_value, parse_digits}
use Rattle.decimal.specs.Digits.{are_digits, ReadsDigits, ReadsNumber}

-- What is read at an unsigned type is the number that the digits write.

own : IsNumeralModel (λ ds. are_digits ds ≡ true) (digits_value 10)
own = numerals_by_value _ (search rules)

-- of digits, what `parse` gives
of_digits : {E : Type 0} (k : ℕ) (bs : List ℕ) (p : Result ℕ E) → are_digits bs ≡ true → OkIff p ((0 < length bs) × (digits_value 10 bs < 2 ^ k)) (digits_value 10 bs) → ReadsNumber k bs (result_ok p)
of_digits k bs (Ok x) d h = ((h.0.0, d, h.0.1), h.1)
of_digits k bs (Err e) d h = λ n. h (n.0, n.2)

pub reads_number : {E : Type 0} (gives : List ℕ → Result ℕ E → Type 0) (k : ℕ) (bs : List ℕ) (r : Option ℕ) → ((p : Result ℕ E) → gives bs p → ParsesUnsigned k 10 bs p) → ReadsDigits gives bs r → ReadsNumber k bs r
reads_number gives k bs r parses h = by_test (are_digits bs) refl
  where
    by_test : (b : Bool) → are_digits bs ≡ b → ReadsNumber k bs r
    by_test true d = let p = h.digits d in rw p.2 (of_digits k bs p.0 d (parse_digits own k bs p.0 (parses p.0 p.1) d))
    by_test false d = rw (h.other d) (λ n. both_ways (are_digits bs) d n.1)
