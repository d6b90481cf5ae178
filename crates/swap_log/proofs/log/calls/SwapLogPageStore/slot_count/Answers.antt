use Rattle.std.proofs.Common.{sym}
use Rattle.swap_log.specs.Meaning.{positions_of}
use Rattle.swap_log.proofs.Positions.{log_size}
use Rattle.swap_log.proofs.log.calls.SwapLogPageStore.slot_count.Goals as goal

pub returns : goal.returns
returns c = let s = c.args.self.now in sym (log_size s.page s.count (positions_of s))
