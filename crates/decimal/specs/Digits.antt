use Rattle.std.specs.Prelude.{◌≡◌, ℕ, ◌^◌, ◌<◌, Bool, false, List, length, IsTrue, None, Option, Result}
use Rattle.std.specs.Char.{is_ascii_digit}
use Rattle.std.specs.List.{list_all}
use Rattle.std.specs.Option.{SomeIff}
use Rattle.std.specs.Result.{result_ok}
use Rattle.std.specs.Str.Parse.{digits_value}

-- each byte of a text is a digit, 0 to 9
abbrev pub are_digits : List ℕ → Bool
are_digits bs = list_all is_ascii_digit bs

-- Of a text of digits, what the type's own `parse` gives; of any other, nothing.
pub record ReadsDigits {T E : Type 0} (gives : List ℕ → Result T E → Type 0) (bs : List ℕ) (r : Option T) : Type 0 where
  pub digits : IsTrue (are_digits bs) → (p : Result T E) × gives bs p × (r ≡ result_ok p)
  pub other : are_digits bs ≡ false → r ≡ None

-- The rule of a number of k bits: the text is one digit or more and nothing else, and the number that they write fits.
abbrev pub ReadsNumber : ℕ → List ℕ → Option ℕ → Type 0
ReadsNumber k bs r = SomeIff r ((0 < length bs) × IsTrue (are_digits bs) × (digits_value 10 bs < 2 ^ k)) (digits_value 10 bs)
