use Rattle.std.proofs.Common.{◌≡◌, ℕ, zero, suc, ◌<◌, Bool, true, false, cond, List, length, Some, None, Option, refl, subst, arith}
use Rattle.std.proofs.lemmas.List.{get_or_past}
use Rattle.policy.specs.declared.row.Row.{Row}
use Rattle.policy.specs.Rows.{absent_row, row_at, offered_at}
use Rattle.policy.specs.Choices.{takes_over, best_below}
use Rattle.policy.specs.Promise.{LawfulBelow, best_lawful}

-- The best row by a comparison that orders the offered rows: no offered row goes before it, and it goes before every offered row of a lower number.

-- what is asked of the comparison; Q is what is known of each offered row
pub record Orders (Q : Row → Type 0) (before : Row → Row → Bool) : Type 0 where
  pub one_way : (x y : Row) → before x y ≡ true → before y x ≡ false
  pub chain : (x y z : Row) → Q y → before x y ≡ false → before y z ≡ false → before x z ≡ false

-- row c is the first of the best among the rows below n
pub record First (before : Row → Row → Bool) (rows : List Row) (n c : ℕ) : Type 0 where
  pub none_before : (j : ℕ) → j < n → offered_at rows j ≡ true → before (row_at rows j) (row_at rows c) ≡ false
  pub before_the_earlier : (j : ℕ) → j < c → offered_at rows j ≡ true → before (row_at rows c) (row_at rows j) ≡ true

abbrev FirstOr : (Row → Row → Bool) → List Row → ℕ → Option ℕ → Type 0
FirstOr before rows n None = Unit {0}
FirstOr before rows n (Some c) = First before rows n c

module _ (Q : Row → Type 0) (before : Row → Row → Bool) (o : Orders Q before) (rows : List Row) (q : (j : ℕ) → offered_at rows j ≡ true → Q (row_at rows j)) where
  -- row n goes before row b, and so before each row that b goes before
  over_earlier : (n b : ℕ) → before (row_at rows n) (row_at rows b) ≡ true → First before rows n b → (j : ℕ) → j < n → offered_at rows j ≡ true → before (row_at rows n) (row_at rows j) ≡ true
  over_earlier n b over h j l f = grind (arith, o.chain (row_at rows n) (row_at rows j) (row_at rows b) (q j f), h.none_before j l f)

  -- one row more
  first_step : (n : ℕ) (b : Option ℕ) (t : Bool) → t ≡ takes_over before rows b n → LawfulBelow rows n b → FirstOr before rows n b → FirstOr before rows (suc n) (cond t (Some n) b)
  first_step n None true e none h = grind (arith, none, o.one_way (row_at rows n))
  first_step n None false e none h = tt
  first_step n (Some b) true e lawful h = grind (arith, over_earlier n b (grind arith) h, o.one_way (row_at rows n))
  first_step n (Some b) false e lawful h = grind (arith, h.none_before, h.before_the_earlier)

  first_or : (n : ℕ) → FirstOr before rows n (best_below before rows n)
  unfolding best_below
  first_or zero = tt
  first_or (suc n) = first_step n (best_below before rows n) _ refl (best_lawful before rows n) (first_or n)

  pub best_is_first : (n c : ℕ) → best_below before rows n ≡ Some c → First before rows n c
  best_is_first n c e = subst (FirstOr before rows n) e (first_or n)

-- an offered row is one of the rows
pub offered_below : (rows : List Row) (j : ℕ) → offered_at rows j ≡ true → j < length rows
offered_below rows j f = grind (arith, get_or_past rows j absent_row)
