use Rattle.std.specs.Prelude.{ℕ, List, length}
use Rattle.page_store.specs.Stores.{Store, Sound}
use Rattle.swap_log.specs.Layout.{Position, positions_in, log_of}
use Rattle.swap_log.specs.Limits.{log_sound}
use Rattle.swap_log.specs.declared.log.SwapLog.{SwapLog}

-- the positions in use of a log
abbrev pub positions_of : SwapLog → List Position
positions_of s = positions_in s.page s.numbers.now s.bytes.now s.end

-- how many positions there are, in use or not
abbrev pub position_count : SwapLog → ℕ
position_count s = length s.numbers.now

-- the store that a log is
abbrev pub model_of : SwapLog → Store
model_of s = log_of s.page s.count (positions_of s)

pub sound_log : (s : SwapLog) → Sound (model_of s)
sound_log s = log_sound s.page s.count s.end s.numbers.now s.bytes.now s.sized s.some s.few s.whole s.used s.bounded
