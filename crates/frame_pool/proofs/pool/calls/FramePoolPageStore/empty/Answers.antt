use Rattle.std.proofs.Common.{None, sym, ap, ◌∙◌}
use Rattle.page_store.specs.Stores.{with_slot}
use Rattle.page_store.specs.Calls.{answer, after}
use Rattle.page_store.proofs.Slots.{told, empty_accepted}
use Rattle.frame_pool.specs.Meaning.{memory_of, model_of}
use Rattle.frame_pool.proofs.Pools.{marked, pool_cleared}
use Rattle.frame_pool.proofs.pool.calls.FramePoolPageStore.empty.Goals as goal

pub returns-clause-store : goal.returns-clause-store
returns-clause-store c =
    let s = c.args.self.now in
    let m = model_of s in
    let i = c.args.slot in
    let t = told m i _ c.in_ok-is_full.ensures.store in
    let accepted = empty_accepted m i t.inside (sym t.is ∙ c.if-not-branch.false) in
    record {
      answers = sym (ap (λ o. answer o tt) accepted);
      changes_this_slot_only = pool_cleared s.page (memory_of s) i (marked s i t.inside) ∙ sym (ap (λ o. after o (with_slot m i None) m) accepted);
    }
