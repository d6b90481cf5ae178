use Rattle.std.proofs.Common.{◌-◌, length}
use Rattle.ordered_map.specs.Tree.{Tree}
use Rattle.ordered_map.specs.Path.{Standing, Leftward, upward}
use Rattle.ordered_map.proofs.least.leftmost.Given as goal

abbrev pub invariant-loop-left : goal.invariant-loop-left
invariant-loop-left g l = (t : Tree g.row.K.Denot) → Standing l.nodes l.root t → Leftward t (upward l.path) l.at

abbrev pub decreases-loop-left : goal.decreases-loop-left
decreases-loop-left g l = 14 - length l.path.items
