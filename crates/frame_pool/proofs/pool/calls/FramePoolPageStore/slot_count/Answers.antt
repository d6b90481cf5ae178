use Rattle.std.proofs.Common.{sym}
use Rattle.frame_pool.specs.Meaning.{memory_of}
use Rattle.frame_pool.proofs.Pools.{pool_size}
use Rattle.frame_pool.proofs.pool.calls.FramePoolPageStore.slot_count.Goals as goal

pub returns : goal.returns
returns c = let s = c.args.self.now in sym (pool_size s.page (memory_of s))
