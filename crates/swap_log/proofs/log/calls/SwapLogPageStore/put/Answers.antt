use Rattle.std.proofs.Common.{◌≡◌, ◌<◌, [], ◌∷◌, ◌++◌, length, Some, None, ap, ◌∙◌, arith}
use Rattle.std.proofs.lemmas.List.{set-set}
use Rattle.std.proofs.lemmas.Bool.{lt-ltb, eq-eqb}
use Rattle.std.proofs.lemmas.Bool.Decides.{nat_tests}
use Rattle.page_store.specs.Stores.{size_of, with_slot}
use Rattle.swap_log.specs.Layout.{live}
use Rattle.swap_log.specs.Meaning.{positions_of, position_count, model_of}
use Rattle.swap_log.proofs.Founds.{slot_below}
use Rattle.swap_log.proofs.Positions.{at, live_order}
use Rattle.swap_log.proofs.log.calls.SwapLogPageStore.put.Goals as goal

pub returns-clause-store : goal.returns-clause-store
returns-clause-store c =
    let s = c.args.self.now in
    let q = c.args.slot in
    let page = c.args.page.now in
    let one : length page ≡ s.page = grind (arith, nat_tests, c.in_ok-check_length.ensures) in
    let slot : q < size_of (model_of s) = grind (arith, nat_tests, c.in_ok-check_slot.ensures) in
    record {
      answers = rw (eq-eqb _ s.page one, lt-ltb q _ slot);
      changes_this_slot_only =
          rw (eq-eqb _ s.page one, lt-ltb q _ slot)
          (c.append.ensures.model
          ∙ ap (λ m. with_slot m q (Some page)) c.kill.ensures.model
          ∙ ap (λ sl. record { page = s.page; slots = sl }) (set-set (model_of s).slots q None (Some page)));
    }

pub returns-clause-compaction_keeps_order : goal.returns-clause-compaction_keeps_order
returns-clause-compaction_keeps_order c =
    let s = c.args.self.now in
    let q = c.args.slot in
    let page = c.args.page.now in
    let t = c.kill.new.self in
    let one : length page ≡ s.page = grind (arith, nat_tests, c.in_ok-check_length.ensures) in
    let slot : q < size_of (model_of s) = grind (arith, nat_tests, c.in_ok-check_slot.ensures) in
    let below = slot_below s q slot in
    rw (eq-eqb _ s.page one, lt-ltb q _ slot)
    (ap live c.append.ensures.positions
    ∙ live_order (position_count t) q page (positions_of t) (λ e. omega (arith, s.few))
    ∙ ap (λ xs. live xs ++ at q page ∷ []) c.kill.ensures.positions)
