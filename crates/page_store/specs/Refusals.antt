use Rattle.std.specs.Prelude.{ℕ, List, ◌++◌, Some, Option}
use Rattle.std.specs.Fmt.{decimal}
use lib.Chars.{codes}
use Rattle.page_store.specs.declared.refusal.Refusal.{Refusal}
use Rattle.page_store.specs.declared.refusal.Refusal.TheVariants.{PageSize, StoreSize, WrongLength, NoSuchSlot, EmptySlot}

-- the number of each refusal
abbrev pub number_of : Refusal → ℕ
number_of PageSize = 1
number_of StoreSize = 2
number_of WrongLength = 3
number_of NoSuchSlot = 30
number_of EmptySlot = 31

-- what is printed of a refusal
abbrev pub told : Refusal → Option (List ℕ)
told e = Some (codes "refused by " ++ decimal (number_of e))
