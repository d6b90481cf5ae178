use Rattle.std.specs.Prelude.{◌≡◌, ℕ, ◌+◌, ◌-◌, ◌*◌, ◌<◌, ◌≤◌, Bool, true, cond, List, Some, None, Option, nat_le, nat_lt}
use Rattle.policy.specs.declared.refusal.Refusal.{Refusal}
use Rattle.policy.specs.declared.refusal.Refusal.TheVariants.{Tax}
use Rattle.policy.specs.declared.row.Row.{Row}
use Rattle.policy.specs.Rows.{row_at, offered_at}
use Rattle.policy.specs.Choices.{choice_by}

-- The tax is in per cent: 0 to 99 are taken.
abbrev pub tax_refusal : ℕ → Option Refusal
tax_refusal t = cond (nat_le t 99) None (Some Tax)

-- what a row is charged: 100 for each idle page, 100 less the tax for each active one
abbrev pub cost_of : ℕ → Row → ℕ
cost_of t row = (100 - t) * row.active + 100 * (row.resident - row.active)

-- x has a lower ratio of shares to cost than y, by cross multiplication
abbrev pub pays_less : ℕ → Row → Row → Bool
pays_less t x y = nat_lt (x.shares * cost_of t y) (y.shares * cost_of t x)

-- The choice of M: the offered row of lowest ratio, the first among equals.
abbrev pub funding_choice : ℕ → List Row → Option ℕ
funding_choice t = choice_by (pays_less t)

-- What the choice of row c says in plain words: no offered row has a lower ratio, and each offered row before it has a higher one.
pub record LowestRatio (t : ℕ) (rows : List Row) (c : ℕ) : Type 0 where
  pub no_offered_row_pays_less : (j : ℕ) → offered_at rows j ≡ true → (row_at rows c).shares * cost_of t (row_at rows j) ≤ (row_at rows j).shares * cost_of t (row_at rows c)
  pub each_before_it_pays_more : (j : ℕ) → j < c → offered_at rows j ≡ true → (row_at rows c).shares * cost_of t (row_at rows j) < (row_at rows j).shares * cost_of t (row_at rows c)
