use Rattle.std.specs.Prelude.{ℕ, List, ◌++◌, codes, Some, None, Ok, Err, Option, Result}
use Rattle.std.specs.Fmt.{decimal}
use Rattle.policy.specs.declared.refusal.Refusal.{Refusal}
use Rattle.policy.specs.declared.refusal.Refusal.TheVariants.{Tax}

-- the number of each refusal
abbrev pub number_of : Refusal → ℕ
number_of Tax = 8

-- what is printed of a refusal
abbrev pub words_of : Refusal → List ℕ
words_of e = codes "refused by " ++ decimal (number_of e)

-- the answer of a check: the refusal, or else x
abbrev pub answer : {X : Type 0} → Option Refusal → X → Result X Refusal
answer None x = Ok x
answer (Some e) x = Err e
