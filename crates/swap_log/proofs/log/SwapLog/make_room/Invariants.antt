use Rattle.swap_log.proofs.Arrays.{Squeezed}
use Rattle.swap_log.proofs.log.SwapLog.make_room.Given as goal

abbrev pub invariant-loop-at : goal.invariant-loop-at
invariant-loop-at l = Squeezed l.page l.initial.numbers.now l.initial.bytes.now l.numbers.now l.bytes.now l.at l.front
