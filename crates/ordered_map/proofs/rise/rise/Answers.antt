use Rattle.ordered_map.proofs.Paths.{upward_more, upward_none}
use Rattle.ordered_map.proofs.Rises.{onward, finish, mend_ready, climbed}
use Rattle.ordered_map.proofs.rise.rise.Goals as goal

pub mend-requires : goal.mend-requires
mend-requires g c = mend_ready (onward (upward_more c.pop.new.self c.loop-step.path c.in-Some.ensures.items) (c.loop-step.invariant _ _ _ c.requires.3))

pub loop-step-preserved : goal.loop-step-preserved
loop-step-preserved g c fs t h r =
    let w = onward (upward_more c.pop.new.self c.loop-step.path c.in-Some.ensures.items) (c.loop-step.invariant fs t h r) in
    climbed w (c.mend.ensures (mend_ready w))

pub returns : goal.returns
returns g c fs t h r = finish (c.loop-step.invariant fs t h r) (upward_none c.loop-step.path c.in_default.ensures.variant.1)
