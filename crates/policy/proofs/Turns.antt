use Rattle.std.proofs.Common.{◌≡◌, ℕ, ◌+◌, Bool, List, add-one}
use Rattle.policy.specs.declared.row.Row.{Row}
use Rattle.policy.specs.Choices.{better_of, best_below}

-- The best of the rows below n + 1.
pub best_more : (before : Row → Row → Bool) (rows : List Row) (n : ℕ) → best_below before rows (n + 1) ≡ better_of before rows (best_below before rows n) n
unfolding best_below
best_more before rows n = rw add-one
