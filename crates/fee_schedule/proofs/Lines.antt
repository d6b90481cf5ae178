use Rattle.std.proofs.Common.{◌≡◌, ℕ, ◌+◌, ◌*◌, ◌/◌, ◌%◌, ◌<◌, ◌≤◌, List, length, get_or, sym, refl, ap, ◌∙◌, add-zero, mod-eq_of_lt, arith}
use lib.Arith.{mod-mul}
use Rattle.page_store.specs.Memory.{page_at, with_page_at}
use Rattle.page_store.proofs.Pages.{page_byte, page_here, page_other}
use Rattle.fee_schedule.specs.Fees.{line_count, fee_bytes, fee_at, FeeReadsBack, OtherFeesStay}

-- the number that four bytes are, the highest first
number : List ℕ → ℕ
number bs = get_or bs 0 0 * 16777216 + get_or bs 1 0 * 65536 + get_or bs 2 0 * 256 + get_or bs 3 0

-- a line lies within the page
pub line_ends : (n line : ℕ) → line < line_count n → line * 4 + 4 ≤ n
line_ends n line h = omega arith

fee_is : (page : List ℕ) (line : ℕ) → fee_at page line ≡ number (page_at 4 page line)
unfolding number
fee_is page line =
    let b0 : get_or (page_at 4 page line) 0 0 ≡ get_or page (line * 4) 0 = page_byte 4 line 0 page (omega arith) ∙ ap (λ k. get_or page k 0) (add-zero (line * 4)) in
    let b1 = page_byte 4 line 1 page (omega arith) in
    let b2 = page_byte 4 line 2 page (omega arith) in
    let b3 = page_byte 4 line 3 page (omega arith) in
    rw (b0, b1, b2, b3)

pub fee_reads_back : FeeReadsBack
unfolding number
fee_reads_back page line cents h few =
    let e = line_ends (length page) line h in
    fee_is (with_page_at 4 page line (fee_bytes cents)) line
    ∙ ap number (page_here 4 line page (fee_bytes cents) e refl)
    ∙ back
  where
    back : number (fee_bytes cents) ≡ cents
    back =
        let whole : cents % 4294967296 ≡ cents = mod-eq_of_lt few in
        let top : cents % 4294967296 ≡ (cents / 16777216 % 256) * 16777216 + cents % 16777216 = mod-mul cents {m = 256} {c = 16777216} (omega arith) (omega arith) in
        let next : cents % 16777216 ≡ (cents / 65536 % 256) * 65536 + cents % 65536 = mod-mul cents {m = 256} {c = 65536} (omega arith) (omega arith) in
        let last : cents % 65536 ≡ (cents / 256 % 256) * 256 + cents % 256 = mod-mul cents {m = 256} {c = 256} (omega arith) (omega arith) in
        omega arith

pub other_fees_stay : OtherFeesStay
other_fees_stay page line other cents h ne =
    let e = line_ends (length page) line h in
    fee_is (with_page_at 4 page line (fee_bytes cents)) other
    ∙ ap number (page_other 4 line other page (fee_bytes cents) e refl ne)
    ∙ sym (fee_is page other)
