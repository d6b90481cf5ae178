use Rattle.std.proofs.Common.{get_or, rules, Fits, w8}
use Rattle.swap_log.proofs.Arrays.{positions_none}
use Rattle.swap_log.proofs.Made.{log_starts, one_live_starts}
use Rattle.swap_log.proofs.log.SwapLog.new.Goals as goal

pub invariant_of-result-clause-bounded : goal.invariant_of-result-clause-bounded
invariant_of-result-clause-bounded c = λ k h. let byte : Fits w8 (get_or c.args.bytes.now k 0) = search rules in byte.fits

pub invariant_of-result-clause-within : goal.invariant_of-result-clause-within
invariant_of-result-clause-within c = (one_live_starts c.args.count c.args.page c.args.numbers.now c.args.bytes.now).within

pub invariant_of-result-clause-once : goal.invariant_of-result-clause-once
invariant_of-result-clause-once c = (one_live_starts c.args.count c.args.page c.args.numbers.now c.args.bytes.now).once

pub invariant_of-result-clause-lean : goal.invariant_of-result-clause-lean
invariant_of-result-clause-lean c = (one_live_starts c.args.count c.args.page c.args.numbers.now c.args.bytes.now).lean

pub returns-clause-starts_empty : goal.returns-clause-starts_empty
returns-clause-starts_empty c = log_starts c.args.page c.args.count c.args.numbers.now c.args.bytes.now

pub returns-clause-no_position_is_in_use : goal.returns-clause-no_position_is_in_use
returns-clause-no_position_is_in_use c = positions_none c.args.page c.args.numbers.now c.args.bytes.now
