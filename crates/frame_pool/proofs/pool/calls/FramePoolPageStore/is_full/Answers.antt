use Rattle.std.proofs.Common.{Ok, sym, ap, ◌∙◌}
use Rattle.std.proofs.lemmas.Bool.{lt-ltb}
use Rattle.page_store.specs.Stores.{size_of}
use Rattle.page_store.proofs.Slots.{slot_is_below_size}
use Rattle.frame_pool.specs.Meaning.{memory_of, model_of}
use Rattle.frame_pool.proofs.Pools.{checked, full_is_marked}
use Rattle.frame_pool.proofs.pool.calls.FramePoolPageStore.is_full.Goals as goal

pub returns-clause-store : goal.returns-clause-store
returns-clause-store c =
    let s = c.args.self.now in
    let i = c.args.slot in
    let full = full_is_marked s.page (memory_of s) i (checked s i c.in_ok-check_slot.ensures) in
    record { answers = ap Ok (sym full) ∙ rw (lt-ltb i (size_of (model_of s)) (slot_is_below_size (model_of s) i c.in_ok-check_slot.ensures)) }
