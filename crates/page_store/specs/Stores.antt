use Rattle.std.specs.Prelude.{◌≡◌, ℕ, ◌<◌, ◌≤◌, Bool, true, ◌||◌, List, length, replicate, is_some, Some, None, Option, ◌==◌, slice_index, slice_index_or, slice_set}

-- the bytes of a page, in order
abbrev pub Page : Type 0
Page = List ℕ

-- What a store holds: pages of one size, and for each slot a page or nothing.
pub record Store : Type 0 where
  pub page : ℕ
  pub slots : List (Option Page)

abbrev pub size_of : Store → ℕ
size_of s = length s.slots

-- what slot i holds: nothing past the last slot
abbrev pub slot_of : Store → ℕ → Option Page
slot_of s i = slice_index_or s.slots i None

abbrev pub is_full : Store → ℕ → Bool
is_full s i = is_some (slot_of s i)

-- the store with x in slot i, and all else as it was
abbrev pub with_slot : Store → ℕ → Option Page → Store
with_slot s i x = record { page = s.page; slots = slice_set s.slots i x }

-- a store of n empty slots
abbrev pub empty_store : ℕ → ℕ → Store
empty_store p n = record { page = p; slots = replicate n None }

-- the four page sizes
abbrev pub is_page_size : ℕ → Bool
is_page_size p = p == 64 || (p == 256 || (p == 1024 || p == 4096))

-- every number of the list is a byte
abbrev pub Bytes : List ℕ → Type 0
Bytes bs = (k : ℕ) → k < length bs → slice_index bs k < 256

-- The limits of every store: one of the four page sizes, 1 to 2,048 slots, and in a full slot exactly one page of bytes.
pub record Sound (s : Store) : Type 0 where
  pub page_size : is_page_size s.page ≡ true
  pub some_slot : 1 ≤ size_of s
  pub few_slots : size_of s ≤ 2048
  pub one_page : (i : ℕ) (b : Page) → slot_of s i ≡ Some b → length b ≡ s.page
  pub bytes : (i : ℕ) (b : Page) → slot_of s i ≡ Some b → Bytes b
