use Rattle.std.proofs.Common.{◌≡◌, ◌*◌, ◌<◌, length, take, drop, ap, ◌∙◌, arith}
use Rattle.std.proofs.lemmas.Bool.Decides.{nat_tests}
use Rattle.std.proofs.lemmas.Bool.{lt-ltb, eq-eqb}
use Rattle.std.proofs.lemmas.Result.{err_from_is_err_and}
use Rattle.page_store.specs.Stores.{size_of}
use Rattle.page_store.specs.Memory.{page_at}
use Rattle.swap_log.specs.Meaning.{model_of}
use Rattle.swap_log.proofs.Founds.{slot_is, slot_is_empty}
use Rattle.swap_log.proofs.log.calls.SwapLogPageStore.fetch.Goals as goal

pub returns-in_err-position : goal.returns-in_err-position
returns-in_err-position c =
    let s = c.args.self.now in
    let q = c.args.slot in
    let one : length c.args.buffer.now ≡ s.page = grind (arith, nat_tests, c.in_ok-check_length.ensures) in
    let slot : q < size_of (model_of s) = grind (arith, nat_tests, c.in_ok-check_slot.ensures) in
    let none = rw c.in_err-position.ensures.ok_part at c.find.ensures in
    let e = err_from_is_err_and c.from_residual-in_err-position.result c.from_residual-in_err-position.ensures.1 in
    record {
      answers = grind (arith, nat_tests, slot_is_empty s q slot none, e.1, e.2, c.in_err-position.ensures.value, c.in_err-position.ensures.ok_part);
      fills_the_buffer = rw (eq-eqb _ s.page one, lt-ltb q _ slot, slot_is_empty s q slot none);
    }

pub returns : goal.returns
unfolding page_at
returns c =
    let s = c.args.self.now in
    let q = c.args.slot in
    let k = c.in_ok-position.position in
    let one : length c.args.buffer.now ≡ s.page = grind (arith, nat_tests, c.in_ok-check_length.ensures) in
    let slot : q < size_of (model_of s) = grind (arith, nat_tests, c.in_ok-check_slot.ensures) in
    let found = rw c.in_ok-position.ensures.ok_part at c.find.ensures in
    let copied : c.copy_from_slice.new.self ≡ page_at s.page s.bytes.now k =
    c.copy_from_slice.ensures.after ∙ ap (λ n. take n (drop (k * s.page) s.bytes.now)) (omega arith) in
    record {
      answers = rw (eq-eqb _ s.page one, lt-ltb q _ slot, slot_is s q k slot found);
      fills_the_buffer = rw (eq-eqb _ s.page one, lt-ltb q _ slot, slot_is s q k slot found, copied);
    }
