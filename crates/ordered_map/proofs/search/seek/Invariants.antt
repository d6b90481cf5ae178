use Rattle.std.proofs.Common.{◌-◌}
use Rattle.ordered_map.specs.Table.{Going, tree_of}
use Rattle.ordered_map.proofs.search.seek.Given as goal

abbrev pub invariant-loop-at : goal.invariant-loop-at
invariant-loop-at g l = Going g.K.Key.cmp l.nodes (tree_of l.nodes l.fn.root) l.key l.at l.count

abbrev pub decreases-loop-at : goal.decreases-loop-at
decreases-loop-at g l = 14 - l.count
