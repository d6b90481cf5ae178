use Rattle.std.specs.Prelude.{◌≡◌, ℕ, ◌*◌, ◌<◌, ◌≤◌, Bool, cond, not, ◌&&◌, List, [], ◌∷◌, ◌++◌, map, length, Some, None, filter, Option, ◌==◌, ◌≢◌, nat_le, slice_index}
use Rattle.std.specs.List.{range_with_len}
use Rattle.page_store.specs.declared.refusal.Refusal.{Refusal}
use Rattle.page_store.specs.declared.refusal.Refusal.TheVariants.{PageSize, StoreSize, WrongLength}
use Rattle.page_store.specs.Stores.{Page, Store, is_page_size}
use Rattle.page_store.specs.Memory.{page_at}
use Rattle.page_store.specs.Tallies.{tally}

-- A position of a log: the number that it bears, a slot's or 65,535 where it is dead, and the page that lies there.
pub record Position : Type 0 where
  pub number : ℕ
  pub page : Page

-- The layout: the positions in use are those below the end; position k bears number k and has the page at place k. What lies at and past the end is of no account.
abbrev pub position_at : ℕ → List ℕ → List ℕ → ℕ → Position
position_at p numbers bytes k = record { number = slice_index numbers k; page = page_at p bytes k }

unfoldable pub positions_in : ℕ → List ℕ → List ℕ → ℕ → List Position
positions_in p numbers bytes end = map (position_at p numbers bytes) (range_with_len 0 end)

abbrev pub is_live : Position → Bool
is_live x = not (x.number == 65535)

-- the live positions, in their order
unfoldable pub live : List Position → List Position
live xs = filter is_live xs

-- how many positions bear the number q
unfoldable pub bearing : ℕ → List Position → ℕ
bearing q xs = tally q (map (λ x. x.number) xs)

-- no number is borne but 65,535 and those of the n slots
abbrev pub Within : ℕ → List Position → Type 0
Within n xs = (q : ℕ) → n ≤ q → (q ≢ 65535) → bearing q xs ≡ 0

-- no slot's number is borne twice
abbrev pub Once : List Position → Type 0
Once xs = (q : ℕ) → (q ≢ 65535) → bearing q xs ≤ 1

-- what slot q holds: the page at the position that bears its number
abbrev pub slot_in : List Position → ℕ → Option Page
slot_in [] q = None
slot_in (x ∷ xs) q = cond (x.number == q) (Some x.page) (slot_in xs q)

unfoldable pub slots_in : ℕ → List Position → List (Option Page)
slots_in n xs = map (slot_in xs) (range_with_len 0 n)

-- the store of n slots that these positions are
abbrev pub log_of : ℕ → ℕ → List Position → Store
log_of p n xs = record { page = p; slots = slots_in n xs }

-- the positions, with every one that bears q dead
abbrev pub dead : ℕ → Position → Position
dead q x = cond (x.number == q) (record { number = 65535; page = x.page }) x

unfoldable pub killed : ℕ → List Position → List Position
killed q xs = map (dead q) xs

-- the positions, where all l are in use compacted to the live ones
abbrev pub with_room : ℕ → List Position → List Position
with_room l xs = cond (length xs == l) (live xs) xs

-- The positions after a page was put into slot q of a log of l positions: the old position of q is dead, then there is room, and last the pair stands at the end.
abbrev pub put_at_the_end : ℕ → List Position → ℕ → Page → List Position
put_at_the_end l xs q page = with_room l (killed q xs) ++ record { number = q; page = page } ∷ []

-- which position below the end bears the number q
abbrev pub Found : List ℕ → ℕ → ℕ → Option ℕ → Type 0
Found numbers end q None = (k : ℕ) → k < end → slice_index numbers k ≢ q
Found numbers end q (Some k) = (k < end) × (slice_index numbers k ≡ q)

-- Why no log of n slots of p bytes and l positions can be made over m numbers and b bytes, the first that fits in the order of the numbers.
abbrev pub log_refusal : ℕ → ℕ → ℕ → ℕ → ℕ → Option Refusal
log_refusal p n l m b =
    cond (is_page_size p)
    (cond ((nat_le 1 n && nat_le n 2048) && (nat_le n l && nat_le l (2 * n))) (cond (m == l && b == l * p) None (Some WrongLength)) (Some StoreSize))
    (Some PageSize)

-- At most one live position a slot, of slots only, and so no more live positions than slots.
pub record OneLivePosition (n : ℕ) (xs : List Position) : Type 0 where
  pub once : Once xs
  pub within : Within n xs
  pub lean : length (live xs) ≤ n
