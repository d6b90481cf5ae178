use Rattle.std.proofs.Common.{◌≡◌, ◌*◌, length, take, drop, Some, sym, ap, ◌∙◌, unwrap_or, arith}
use Rattle.page_store.specs.Stores.{slot_of}
use Rattle.page_store.specs.Calls.{answer, after}
use Rattle.page_store.specs.Memory.{page_at}
use Rattle.page_store.proofs.Slots.{told, length_is_one_page, fetch_accepted}
use Rattle.frame_pool.specs.Meaning.{memory_of, model_of}
use Rattle.frame_pool.proofs.Pools.{marked, full_slot}
use Rattle.frame_pool.proofs.pool.calls.FramePoolPageStore.fetch.Goals as goal

pub returns : goal.returns
unfolding page_at
returns c =
    let s = c.args.self.now in
    let m = model_of s in
    let i = c.args.slot in
    let old = c.args.buffer.now in
    let t = told m i _ c.in_ok-is_full.ensures.store in
    let full = sym t.is ∙ c.if-not-branch.false in
    let one = length_is_one_page m (length old) c.in_ok-check_length.ensures in
    let accepted = fetch_accepted m i (length old) one t.inside full in
    let copied : c.copy_from_slice.new.self ≡ page_at s.page s.bytes.now i =
    c.copy_from_slice.ensures.after ∙ ap (λ n. take n (drop (i * s.page) s.bytes.now)) (omega arith) in
    let held : slot_of m i ≡ Some (page_at s.page s.bytes.now i) = full_slot s.page (memory_of s) i (marked s i t.inside) full in
    record {
      store = record {
        answers = sym (ap (λ o. answer o tt) accepted);
        fills_the_buffer = copied ∙ sym (ap (λ o. after o (unwrap_or (slot_of m i) old) old) accepted ∙ ap (λ x. unwrap_or x old) held);
      };
      slot_lies_at_its_place = copied ∙ sym (ap (λ o. after o (page_at s.page s.bytes.now i) old) accepted);
    }
