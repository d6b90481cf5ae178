use Rattle.std.specs.Prelude.{ℕ, List, Some, None, Ok, Err, Option, Result}
use Rattle.policy.specs.declared.funding.MinFunding.{MinFunding}
use Rattle.policy.specs.declared.refusal.Refusal.{Refusal}
use Rattle.policy.specs.declared.row.Row.{Row}
use Rattle.policy.specs.declared.rows.Rows.{Rows}

abbrev pub rows_of : Rows → List Row
rows_of v = v.rows

abbrev pub rows_in : Option Rows → Option (List Row)
rows_in (Some v) = Some (rows_of v)
rows_in None = None

-- the tax of a policy that is made, or the refusal
abbrev pub tax_in : Result MinFunding Refusal → Result ℕ Refusal
tax_in (Ok p) = Ok p.tax
tax_in (Err e) = Err e
