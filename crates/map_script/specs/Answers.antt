-- The answer to a line and the pairs after it, from the pairs that the map holds. A bad line is no command.
use Rattle.std.specs.Prelude.{ℕ, cond, List, length, is_some, Option, Some, None}
use Rattle.ordered_map.specs.declared.head.Head.{Head}
use Rattle.ordered_map.specs.declared.node.Node.{Node}
use Rattle.ordered_map.specs.Tree.{value_at, steps}
use Rattle.ordered_map.specs.Enter.{put, cut}
use Rattle.ordered_map.specs.Map.{pairs_in, tree_in, can_enter}
use Rattle.map_script.specs.declared.answer.Answer.{Answer}
use Rattle.map_script.specs.declared.answer.Answer.TheVariants.{Done, Value, Pairs}
use Rattle.map_script.specs.declared.command.Command.{Command}
use Rattle.map_script.specs.declared.command.Command.TheVariants.{Enter, Remove, LookUp, Count}
use Rattle.std.specs.Ordering.{nat_cmp}

abbrev pub answer_to : List (Node ℕ) → Head → Option Command → Option Answer
answer_to ns h None = None
answer_to ns h (Some (Enter k v)) = Some (Done (can_enter nat_cmp ns h k))
answer_to ns h (Some (Remove k)) = Some (Done (is_some (value_at nat_cmp (pairs_in ns h) k)))
answer_to ns h (Some (LookUp k)) = Some (Value (value_at nat_cmp (pairs_in ns h) k) (steps nat_cmp (tree_in ns h) k))
answer_to ns h (Some Count) = Some (Pairs (length (pairs_in ns h)))

abbrev pub pairs_after : List (Node ℕ) → Head → Option Command → List (ℕ × ℕ)
pairs_after ns h None = pairs_in ns h
pairs_after ns h (Some (Enter k v)) = cond (can_enter nat_cmp ns h k) (put nat_cmp (pairs_in ns h) k v) (pairs_in ns h)
pairs_after ns h (Some (Remove k)) = cut nat_cmp (pairs_in ns h) k
pairs_after ns h (Some (LookUp k)) = pairs_in ns h
pairs_after ns h (Some Count) = pairs_in ns h

-- how many comparisons a look-up took
abbrev pub comparisons_of : Option Answer → ℕ
comparisons_of None = 0
comparisons_of (Some (Done done)) = 0
comparisons_of (Some (Value value comparisons)) = comparisons
comparisons_of (Some (Pairs count)) = 0
