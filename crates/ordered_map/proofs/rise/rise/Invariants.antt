use Rattle.std.proofs.Common.{ℕ, List, length}
use Rattle.ordered_map.specs.Tree.{Tree}
use Rattle.ordered_map.specs.Path.{Frame, Rising, Climbing, plug, tall, upward}
use Rattle.ordered_map.proofs.rise.rise.Given as goal

abbrev pub invariant-loop-step : goal.invariant-loop-step
invariant-loop-step g l = (fs : List (Frame g.row.K.Denot)) (t : Tree g.row.K.Denot) (h : ℕ) → Rising l.initial.nodes (upward l.initial.path) l.fn.child fs t h → Climbing l.initial.nodes l.nodes (upward l.path) l.at (plug fs t) (tall h fs)

abbrev pub decreases-loop-step : goal.decreases-loop-step
decreases-loop-step g l = length l.path.items
