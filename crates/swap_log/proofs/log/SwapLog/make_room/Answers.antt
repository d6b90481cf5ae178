use Rattle.std.proofs.Common.{◌≡◌, ℕ, List, sym, ap, ◌∙◌, subst, arith}
use Rattle.swap_log.specs.Layout.{positions_in, live, OneLivePosition, log_of}
use Rattle.swap_log.specs.Meaning.{positions_of}
use Rattle.swap_log.specs.declared.log.SwapLog.{SwapLog}
use Rattle.swap_log.proofs.Arrays.{Squeezed, squeeze_none, squeeze_dead, squeeze_live}
use Rattle.swap_log.proofs.Founds.{room_there, room_made, one_live_log}
use Rattle.swap_log.proofs.Positions.{one_live_compacted, log_live}
use Rattle.swap_log.proofs.log.SwapLog.make_room.Goals as goal
use Rattle.swap_log.proofs.log.SwapLog.make_room.Goals.{then-number, else-number}

-- what the loop leaves in use, when it has gone over all positions
squeezed : (s : SwapLog) (ms cs : List ℕ) (i j : ℕ) → Squeezed s.page s.numbers.now s.bytes.now ms cs i j → i ≡ s.end → positions_in s.page ms cs j ≡ live (positions_of s)
squeezed s ms cs i j v e = v.front ∙ ap (λ k. live (positions_in s.page s.numbers.now s.bytes.now k)) e

one_live_squeezed : (s : SwapLog) (ms cs : List ℕ) (i j : ℕ) → Squeezed s.page s.numbers.now s.bytes.now ms cs i j → i ≡ s.end → OneLivePosition s.count (positions_in s.page ms cs j)
one_live_squeezed s ms cs i j v e = subst (OneLivePosition s.count) (sym (squeezed s ms cs i j v e)) (one_live_compacted s.count (positions_of s) (one_live_log s))

pub returns-then-self-clause-positions : goal.returns-then-self-clause-positions
returns-then-self-clause-positions c = room_there c.args.self.now c.if-self.true

pub loop-at-init : goal.loop-at-init
loop-at-init c = let s = c.args.self.now in squeeze_none s.page s.numbers.now s.bytes.now s.bounded

pub loop-at-preserved : goal.loop-at-preserved
loop-at-preserved c =
    let s = c.args.self.now in
    elim c.if-number.branch [
      | then-number w ↦ rw (w.numbers-is, w.bytes-is, w.front-is, w.copy_page.ensures) (squeeze_live _ _ _ _ _ _ _ c.loop-at.invariant (omega (arith, s.used)) s.whole w.if-number.true)
      | else-number w ↦ rw (w.numbers-is, w.bytes-is, w.front-is) (squeeze_dead _ _ _ _ _ _ _ c.loop-at.invariant w.if-number.false)
    ]

pub invariant_of-self-clause-within : goal.invariant_of-self-clause-within
invariant_of-self-clause-within c = (one_live_squeezed c.args.self.now _ _ _ _ c.loop-at.invariant (omega arith)).within

pub invariant_of-self-clause-once : goal.invariant_of-self-clause-once
invariant_of-self-clause-once c = (one_live_squeezed c.args.self.now _ _ _ _ c.loop-at.invariant (omega arith)).once

pub invariant_of-self-clause-lean : goal.invariant_of-self-clause-lean
invariant_of-self-clause-lean c = (one_live_squeezed c.args.self.now _ _ _ _ c.loop-at.invariant (omega arith)).lean

pub returns-clause-positions : goal.returns-clause-positions
returns-clause-positions c =
    let s = c.args.self.now in
    squeezed s _ _ _ _ c.loop-at.invariant (omega arith) ∙ room_made s c.if-self.false

pub returns-clause-model : goal.returns-clause-model
returns-clause-model c =
    let s = c.args.self.now in
    ap (log_of s.page s.count) (squeezed s _ _ _ _ c.loop-at.invariant (omega arith)) ∙ log_live s.page s.count (positions_of s) s.few
