use Rattle.std.proofs.Common.{◌≡◌, ◌+◌, ◌-◌, ◌*◌, ◌≤◌, length, set, Some, sym, ap, ◌∙◌, arith}
use borrow.Rule.Slice.PartMut.{put_mid}
use Rattle.page_store.specs.Stores.{with_slot}
use Rattle.page_store.specs.Calls.{answer, after}
use Rattle.page_store.specs.Memory.{page_at, with_page_at}
use Rattle.page_store.proofs.Pages.{written_is, place_ends, page_here}
use Rattle.page_store.proofs.Slots.{length_is_one_page, slot_is_below_size, put_accepted}
use Rattle.frame_pool.specs.Layout.{pool_of, saved}
use Rattle.frame_pool.specs.Meaning.{memory_of, model_of}
use Rattle.frame_pool.proofs.Pools.{checked, pool_saved}
use Rattle.frame_pool.proofs.pool.calls.FramePoolPageStore.put.Goals as goal

pub returns : goal.returns
returns c =
    let s = c.args.self.now in
    let m = model_of s in
    let p = s.page in
    let i = c.args.slot in
    let page = c.args.page.now in
    let lt = checked s i c.in_ok-check_slot.ensures in
    let one = length_is_one_page m (length page) c.in_ok-check_length.ensures in
    let accepted = put_accepted m i (length page) one (slot_is_below_size m i c.in_ok-check_slot.ensures) in
    let ends = place_ends i (length s.marks.now) p lt in
    let fits : i * p + p ≤ length s.bytes.now = omega (arith, s.whole) in
    let written : put_mid (i * p) (i * p + p - i * p) s.bytes.now c.copy_from_slice.new.self ≡ with_page_at p s.bytes.now i page =
    written_is p i _ s.bytes.now c.copy_from_slice.new.self (omega arith) ∙ ap (with_page_at p s.bytes.now i) c.copy_from_slice.ensures.after in
    let memory = ap (λ bs. record { bytes = bs; marks = set s.marks.now i 1 }) written in
    let model = ap (pool_of p) memory ∙ pool_saved p (memory_of s) i page lt s.whole one in
    record {
      store = record {
        answers = sym (ap (λ o. answer o tt) accepted);
        changes_this_slot_only = model ∙ sym (ap (λ o. after o (with_slot m i (Some page)) m) accepted);
      };
      slot_lies_at_its_place =
          ap (λ bs. page_at p bs i) written ∙ page_here p i s.bytes.now page fits one
          ∙ sym (ap (λ o. after o page (page_at p s.bytes.now i)) accepted);
      keeps_bytes_and_marks_of_other_slots = memory ∙ sym (ap (λ o. after o (saved p (memory_of s) i page) (memory_of s)) accepted);
    }
