use Rattle.std.specs.Prelude.{◌≡◌, ℕ, ◌≤◌, Bool, true, false, cond, ◌&&◌, List, length, is_some, Some, None, Option, nat_le, slice_index_or}
use Rattle.std.specs.List.{list_all}
use Rattle.policy.specs.declared.row.Row.{Row}

-- the row of a guest that is not admitted
abbrev pub absent_row : Row
absent_row = record { offered = false; resident = 0; active = 0; minimum = 0; shares = 0; rank = None }

-- The limits of a row: no more active pages than resident ones, at most 256 of these, at most 100,000 shares.
abbrev pub is_counted : Row → Bool
is_counted row = nat_le row.active row.resident && (nat_le row.resident 256 && nat_le row.shares 100000)

-- And an offered row has a resident page, a share and a rank.
abbrev pub is_eligible : Row → Bool
is_eligible row = nat_le 1 row.resident && (nat_le 1 row.shares && is_some row.rank)

abbrev pub is_within : Row → Bool
is_within row = is_counted row && cond row.offered (is_eligible row) true

-- every row is within its limits
abbrev pub all_within : List Row → Bool
all_within rows = list_all is_within rows

-- what the making of rows answers: these rows, or nothing where one is out of its limits
abbrev pub taken : List Row → Option (List Row)
taken rows = cond (all_within rows) (Some rows) None

-- what every policy can rely on
pub record EightRows (rows : List Row) : Type 0 where
  pub eight : length rows ≡ 8
  pub within : all_within rows ≡ true

-- row g, or past the last row that of a guest that is not admitted
abbrev pub row_at : List Row → ℕ → Row
row_at rows g = slice_index_or rows g absent_row

abbrev pub offered_at : List Row → ℕ → Bool
offered_at rows g = (row_at rows g).offered

-- the limits of a row in plain words
pub record Limits (row : Row) : Type 0 where
  pub active_are_resident : row.active ≤ row.resident
  pub few_resident : row.resident ≤ 256
  pub few_shares : row.shares ≤ 100000
  pub offered_has_a_page : row.offered ≡ true → 1 ≤ row.resident
  pub offered_has_a_share : row.offered ≡ true → 1 ≤ row.shares
  pub offered_has_a_rank : row.offered ≡ true → is_some row.rank ≡ true
