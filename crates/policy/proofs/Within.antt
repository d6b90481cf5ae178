use Rattle.std.proofs.Common.{◌≡◌, ℕ, zero, suc, true, List, [], ◌∷◌, refl, arith}
use Rattle.std.proofs.lemmas.Bool.Decides.{nat_tests}
use Rattle.policy.specs.declared.row.Row.{Row}
use Rattle.policy.specs.Rows.{is_within, all_within, row_at, Limits}

-- What the limits of all rows say of one row.

pub limits_of : (row : Row) → is_within row ≡ true → Limits row
limits_of row h = grind (arith, nat_tests)

pub within_at : (rows : List Row) (g : ℕ) → all_within rows ≡ true → is_within (row_at rows g) ≡ true
within_at [] g h = refl
within_at (row ∷ rows) zero h = grind arith
within_at (row ∷ rows) (suc g) h = within_at rows g (grind arith)

pub limits_at : (rows : List Row) (g : ℕ) → all_within rows ≡ true → Limits (row_at rows g)
limits_at rows g h = limits_of (row_at rows g) (within_at rows g h)
