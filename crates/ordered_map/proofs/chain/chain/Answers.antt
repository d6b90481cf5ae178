use Rattle.std.proofs.Common.{refl, arith}
use Rattle.ordered_map.proofs.Chains.{linked_more}
use Rattle.ordered_map.proofs.chain.chain.Goals as goal

pub loop-i-preserved : goal.loop-i-preserved
loop-i-preserved g c = linked_more _ _ _ _ _ (omega arith) (omega arith) refl c.loop-i.invariant
