use Rattle.page_store.specs.Stores.{Store, Sound}
use Rattle.frame_pool.specs.Layout.{Memory, pool_of}
use Rattle.frame_pool.specs.Limits.{pool_sound}
use Rattle.frame_pool.specs.declared.pool.FramePool.{FramePool}

-- the memory that a pool was lent, as it is now
abbrev pub memory_of : FramePool → Memory
memory_of s = record { bytes = s.bytes.now; marks = s.marks.now }

-- the store that a pool is
abbrev pub model_of : FramePool → Store
model_of s = pool_of s.page (memory_of s)

pub sound_pool : (s : FramePool) → Sound (model_of s)
sound_pool s = pool_sound s.page (memory_of s) s.sized s.some s.few s.whole s.bounded
