use Rattle.std.proofs.Common.{◌≡◌, Bool}
use Rattle.policy.specs.declared.row.Row.{Row}
use Rattle.policy.specs.Choices.{AnswersAs, best_below}
use Rattle.policy.specs.Meaning.{rows_of}
use Rattle.policy.proofs.compare.best.Given as goal

abbrev pub invariant-loop-guest : goal.invariant-loop-guest
invariant-loop-guest g l = (before : Row → Row → Bool) → AnswersAs g.F.Fn l.goes_before before → l.best ≡ best_below before (rows_of l.rows) l.guest
