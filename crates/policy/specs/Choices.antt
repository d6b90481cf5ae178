use Rattle.std.specs.Prelude.{◌≡◌, ℕ, zero, suc, ◌<◌, Bool, true, false, cond, ◌&&◌, List, length, Some, None, Option}
use Rattle.std.specs.Fn.{Shared}
use denote.Ref.{Bor}
use Rattle.policy.specs.declared.bounded.BoundedRow.{BoundedRow}
use Rattle.policy.specs.declared.row.Row.{Row}
use Rattle.policy.specs.Rows.{row_at, offered_at}

-- each call of a comparison answers as `before` does of the two rows
abbrev pub AnswersAs : {F : Type 0} → Shared F (Bor BoundedRow × (Bor BoundedRow × Unit {0})) Bool → F → (Row → Row → Bool) → Type 0
AnswersAs g f before = (x y : Bor BoundedRow) (r : Bool) → g.post f (x, (y, tt)) r → r ≡ before x.now.row y.now.row

-- Whether row g is taken in place of the best of the rows below g: it is offered, and there is none yet or it goes strictly before that.
abbrev pub takes_over : (Row → Row → Bool) → List Row → Option ℕ → ℕ → Bool
takes_over before rows None g = offered_at rows g
takes_over before rows (Some b) g = offered_at rows g && before (row_at rows g) (row_at rows b)

abbrev pub better_of : (Row → Row → Bool) → List Row → Option ℕ → ℕ → Option ℕ
better_of before rows b g = cond (takes_over before rows b g) (Some g) b

-- the best of the rows below n, the first among equals; nobody where none of them is offered
unfoldable pub best_below : (Row → Row → Bool) → List Row → ℕ → Option ℕ
best_below before rows zero = None
best_below before rows (suc n) = better_of before rows (best_below before rows n) n

-- the best of all rows
abbrev pub choice_by : (Row → Row → Bool) → List Row → Option ℕ
choice_by before rows = best_below before rows (length rows)

-- What every policy answers: the number of an offered row, and nobody only where no row is offered.
abbrev pub Lawful : List Row → Option ℕ → Type 0
Lawful rows None = (g : ℕ) → offered_at rows g ≡ false
Lawful rows (Some c) = (c < 8) × (offered_at rows c ≡ true)
