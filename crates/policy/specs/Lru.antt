use Rattle.std.specs.Prelude.{◌≡◌, ℕ, ◌<◌, ◌≤◌, Bool, true, List, Option, nat_lt}
use Rattle.std.specs.Option.{unwrap_or}
use Rattle.policy.specs.declared.row.Row.{Row}
use Rattle.policy.specs.Rows.{row_at, offered_at}
use Rattle.policy.specs.Choices.{choice_by}

-- the rank of a row; an offered row has one, so the 0 is never read of it
abbrev pub rank_of : Row → ℕ
rank_of row = unwrap_or row.rank 0

abbrev pub is_older : Row → Row → Bool
is_older x y = nat_lt (rank_of x) (rank_of y)

-- The choice of L: the offered row of lowest rank, the first among equals.
abbrev pub lru_choice : List Row → Option ℕ
lru_choice = choice_by is_older

-- What the choice of row c says in plain words.
pub record OldestPage (rows : List Row) (c : ℕ) : Type 0 where
  pub no_offered_row_is_older : (j : ℕ) → offered_at rows j ≡ true → rank_of (row_at rows c) ≤ rank_of (row_at rows j)
  pub each_before_it_is_younger : (j : ℕ) → j < c → offered_at rows j ≡ true → rank_of (row_at rows c) < rank_of (row_at rows j)
