use Rattle.std.specs.Prelude.{ℕ, cond, List, Some, None, Ok, Err, Option, Result}
use Rattle.page_key.specs.Fnv.{key_of}
use Rattle.policy.specs.declared.refusal.Refusal.{Refusal}
use Rattle.policy.specs.declared.row.Row.{Row}
use Rattle.policy.specs.Rows.{all_within}
use Rattle.policy.specs.Funding.{tax_refusal, funding_choice}
use Rattle.choices.specs.declared.answer.Answer.{Answer}
use Rattle.choices.specs.declared.answer.Answer.TheVariants.{Key, Chosen}
use Rattle.choices.specs.declared.fault.Fault.{Fault}
use Rattle.choices.specs.declared.fault.Fault.TheVariants.{Rows, Refused}

abbrev pub key_answer : List ℕ → Answer
key_answer bytes = Key (key_of bytes)

-- the answer of a policy, where the rows are within their limits
abbrev pub among_rows : (List Row → Option ℕ) → List Row → Result Answer Fault
among_rows choice rows = cond (all_within rows) (Ok (Chosen (choice rows))) (Err Rows)

abbrev pub refused_or : Option Refusal → Result Answer Fault → Result Answer Fault
refused_or (Some e) a = Err (Refused e)
refused_or None a = a

-- the answer of M of tax t: its tax comes before the rows
abbrev pub by_min_funding : ℕ → List Row → Result Answer Fault
by_min_funding t rows = refused_or (tax_refusal t) (among_rows (funding_choice t) rows)
