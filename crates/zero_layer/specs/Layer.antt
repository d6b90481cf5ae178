use Rattle.std.specs.Prelude.{◌≡◌, ℕ, ◌<◌, Bool, true, false, cond, List, map, Some, None, Option, slice_index_or}
use Rattle.std.specs.List.{range_with_len}
use Rattle.page_store.specs.Stores.{Page, Store, size_of, slot_of}
use Rattle.zero_layer.specs.Zeros.{zeros, is_zeros}

-- A layer: the store below, and a mark for each slot number.
pub record Layer : Type 0 where
  pub below : Store
  pub marks : List Bool

abbrev pub is_marked : Layer → ℕ → Bool
is_marked l i = slice_index_or l.marks i false

-- what slot i holds: a page of zeros where it is marked, else what the store below holds there
abbrev pub slot_at : Layer → ℕ → Option Page
slot_at l i = cond (is_marked l i) (Some (zeros l.below.page)) (slot_of l.below i)

-- what the slots hold, one for each slot of the store below
unfoldable pub slots_over : Layer → List (Option Page)
slots_over l = map (slot_at l) (range_with_len 0 (size_of l.below))

-- the store that a layer is
abbrev pub layered : Layer → Store
layered l = record { page = l.below.page; slots = slots_over l }

-- Every marked slot is one of the slots of the store below, and is empty there.
pub record Tidy (l : Layer) : Type 0 where
  pub is_a_slot : (i : ℕ) → is_marked l i ≡ true → i < size_of l.below
  pub is_empty_below : (i : ℕ) → is_marked l i ≡ true → slot_of l.below i ≡ None

-- no slot holds a page of zeros
abbrev pub NoZeroPage : Store → Type 0
NoZeroPage s = (i : ℕ) (page : Page) → slot_of s i ≡ Some page → is_zeros page ≡ false
