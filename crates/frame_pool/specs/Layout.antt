use Rattle.std.specs.Prelude.{ℕ, ◌*◌, cond, ◌&&◌, List, map, length, replicate, Some, None, Option, ◌==◌, nat_le, slice_index, slice_set}
use Rattle.std.specs.List.{range_with_len}
use Rattle.page_store.specs.declared.refusal.Refusal.{Refusal}
use Rattle.page_store.specs.declared.refusal.Refusal.TheVariants.{PageSize, StoreSize, WrongLength}
use Rattle.page_store.specs.Stores.{Page, Store, is_page_size}
use Rattle.page_store.specs.Memory.{page_at, with_page_at}

-- The memory lent to a pool: pages one after another, and a mark byte for each slot.
pub record Memory : Type 0 where
  pub bytes : List ℕ
  pub marks : List ℕ

-- what slot i holds: nothing where its mark is 0, else the page at place i
abbrev pub slot_at : ℕ → Memory → ℕ → Option Page
slot_at p m i = cond (slice_index m.marks i == 0) None (Some (page_at p m.bytes i))

-- what the slots hold, one for each mark
unfoldable pub slots_in : ℕ → Memory → List (Option Page)
slots_in p m = map (slot_at p m) (range_with_len 0 (length m.marks))

-- the store that this memory is
abbrev pub pool_of : ℕ → Memory → Store
pool_of p m = record { page = p; slots = slots_in p m }

-- the memory after a page was put into slot i: the page at place i, the mark 1, and all else as it was
abbrev pub saved : ℕ → Memory → ℕ → Page → Memory
saved p m i page = record { bytes = with_page_at p m.bytes i page; marks = slice_set m.marks i 1 }

-- the memory after slot i was emptied: the mark 0, and all else as it was
abbrev pub cleared : Memory → ℕ → Memory
cleared m i = record { bytes = m.bytes; marks = slice_set m.marks i 0 }

-- the memory at the start: every mark 0, and the bytes as they were lent
abbrev pub unmarked : List ℕ → ℕ → Memory
unmarked bytes n = record { bytes = bytes; marks = replicate n 0 }

-- Why no pool of n slots of p bytes can be made over b bytes and m marks, the first that fits in the order of the numbers.
abbrev pub pool_refusal : ℕ → ℕ → ℕ → ℕ → Option Refusal
pool_refusal p n b m =
    cond (is_page_size p)
    (cond (nat_le 1 n && nat_le n 2048) (cond (b == n * p && m == n) None (Some WrongLength)) (Some StoreSize))
    (Some PageSize)
