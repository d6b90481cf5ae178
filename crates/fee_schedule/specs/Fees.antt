use Rattle.std.specs.Prelude.{◌≡◌, ℕ, ◌+◌, ◌*◌, ◌/◌, ◌%◌, ◌^◌, ◌<◌, List, [], ◌∷◌, length, ◌≢◌, slice_index}
use Rattle.page_store.specs.Memory.{with_page_at}

-- the lines of a page of n bytes
abbrev pub line_count : ℕ → ℕ
line_count n = n / 4

-- a fee in cents as four bytes, the highest first
abbrev pub fee_bytes : ℕ → List ℕ
fee_bytes cents = (cents / 16777216 % 256) ∷ (cents / 65536 % 256) ∷ (cents / 256 % 256) ∷ (cents % 256) ∷ []

-- the fee in a line
abbrev pub fee_at : List ℕ → ℕ → ℕ
fee_at page line = slice_index page (line * 4) * 16777216 + slice_index page (line * 4 + 1) * 65536 + slice_index page (line * 4 + 2) * 256 + slice_index page (line * 4 + 3)

-- a fee that was written into a line of the page is read from it
abbrev pub FeeReadsBack : Type 0
FeeReadsBack = (page : List ℕ) (line cents : ℕ) → line < line_count (length page) → cents < 2 ^ 32 → fee_at (with_page_at 4 page line (fee_bytes cents)) line ≡ cents

-- and no fee in another line changes
abbrev pub OtherFeesStay : Type 0
OtherFeesStay =
    (page : List ℕ) (line other cents : ℕ) → line < line_count (length page) → (other ≢ line) → fee_at (with_page_at 4 page line (fee_bytes cents)) other ≡ fee_at page other
