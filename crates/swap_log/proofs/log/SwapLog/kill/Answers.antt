use Rattle.std.proofs.Common.{◌*◌, sym, refl, ap, ◌∙◌, subst, arith}
use Rattle.std.proofs.lemmas.List.{length-set}
use Rattle.std.proofs.lemmas.Bool.{lt-ltb}
use Rattle.std.proofs.lemmas.Bool.Decides.{nat_tests}
use Rattle.std.proofs.lemmas.Result.{err_from_is_err_and}
use Rattle.swap_log.specs.Layout.{OneLivePosition, log_of}
use Rattle.swap_log.specs.Meaning.{positions_of}
use Rattle.swap_log.proofs.Founds.{one_live_log, slot_below, slot_is, slot_is_empty, killed_there, killed_nowhere, model_killed}
use Rattle.swap_log.proofs.Positions.{one_live_killed}
use Rattle.swap_log.proofs.log.SwapLog.kill.Goals as goal

pub returns-in_err-position : goal.returns-in_err-position
returns-in_err-position c =
    let s = c.args.self.now in
    let q = c.args.slot in
    let none = rw c.in_err-position.ensures.ok_part at c.find.ensures in
    let e = err_from_is_err_and c.from_residual.result c.from_residual.ensures.1 in
    record {
      answers = grind (arith, nat_tests, slot_is_empty s q c.requires none, e.1, e.2, c.in_err-position.ensures.value, c.in_err-position.ensures.ok_part);
      positions = killed_nowhere s q none;
      model = ap (log_of s.page s.count) (killed_nowhere s q none) ∙ model_killed s q c.requires;
      count = refl;
    }

pub invariant_of-self : goal.invariant_of-self
invariant_of-self c =
    let s = c.args.self.now in
    let q = c.args.slot in
    let k = c.in_ok-position.position in
    let l = length-set s.numbers.now k 65535 in
    let found = rw c.in_ok-position.ensures.ok_part at c.find.ensures in
    let v = subst (OneLivePosition s.count) (sym (killed_there s q k c.requires found)) (one_live_killed s.count q (positions_of s) (slot_below s q c.requires) (one_live_log s)) in
    record {
      sized = s.sized;
      some = s.some;
      few = s.few;
      room = omega (arith, s.room);
      most = omega (arith, s.most);
      whole = s.whole ∙ ap (λ n. n * s.page) (sym l);
      used = omega (arith, s.used);
      bounded = s.bounded;
      within = v.within;
      once = v.once;
      lean = v.lean;
    }

pub returns : goal.returns
returns c =
    let s = c.args.self.now in
    let q = c.args.slot in
    let k = c.in_ok-position.position in
    let found = rw c.in_ok-position.ensures.ok_part at c.find.ensures in
    record {
      answers = rw (lt-ltb q _ c.requires, slot_is s q k c.requires found);
      positions = killed_there s q k c.requires found;
      model = ap (log_of s.page s.count) (killed_there s q k c.requires found) ∙ model_killed s q c.requires;
      count = length-set s.numbers.now k 65535;
    }
