use Rattle.ordered_map.specs.Table.{Linked}
use Rattle.ordered_map.proofs.chain.chain.Given as goal

abbrev pub invariant-loop-i : goal.invariant-loop-i
invariant-loop-i g l = Linked l.nodes l.i l.free
