use Rattle.std.specs.Prelude.{◌≡◌, ℕ, zero, suc, ◌<◌, Bool, true, false, cond, List, length, Some, None, Option, refl}
use Rattle.std.proofs.Common.{sym, arith}
use Rattle.std.proofs.lemmas.List.{get_or_past}
use Rattle.policy.specs.declared.row.Row.{Row}
use Rattle.policy.specs.Rows.{absent_row, offered_at, EightRows}
use Rattle.policy.specs.Choices.{takes_over, best_below, choice_by, Lawful}

-- The best row by any comparison keeps the promise of a policy. (This stands in specs/ since the policies cite it in the code.)

-- the promise for the rows below n
abbrev pub LawfulBelow : List Row → ℕ → Option ℕ → Type 0
LawfulBelow rows n None = (g : ℕ) → g < n → offered_at rows g ≡ false
LawfulBelow rows n (Some c) = (c < n) × (offered_at rows c ≡ true)

-- one row more
lawful_step : (before : Row → Row → Bool) (rows : List Row) (n : ℕ) (b : Option ℕ) (t : Bool) → t ≡ takes_over before rows b n → LawfulBelow rows n b → LawfulBelow rows (suc n) (cond t (Some n) b)
lawful_step before rows n None true e h = (omega arith, sym e)
lawful_step before rows n None false e h = λ g l. grind (arith, h g)
lawful_step before rows n (Some b) true e h = (omega arith, grind arith)
lawful_step before rows n (Some b) false e h = (omega arith, h.1)

pub best_lawful : (before : Row → Row → Bool) (rows : List Row) (n : ℕ) → LawfulBelow rows n (best_below before rows n)
unfolding best_below
best_lawful before rows zero = λ g l. absurd (omega arith)
best_lawful before rows (suc n) =
    lawful_step before rows n (best_below before rows n) _ refl (best_lawful before rows n)

all_lawful : (rows : List Row) (b : Option ℕ) → length rows ≡ 8 → LawfulBelow rows (length rows) b → Lawful rows b
all_lawful rows None eight h = λ g. grind (arith, h g, get_or_past rows g absent_row)
all_lawful rows (Some c) eight h = (rw eight at h.0, h.1)

pub choice_lawful : (before : Row → Row → Bool) (rows : List Row) → EightRows rows → Lawful rows (choice_by before rows)
choice_lawful before rows e = all_lawful rows (choice_by before rows) e.eight (best_lawful before rows (length rows))
