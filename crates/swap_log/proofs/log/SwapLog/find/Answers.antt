use Rattle.std.proofs.Common.{◌≡◌, ℕ, ◌<◌, ◌≤◌, List, length, take, Some, None, Option, MatchOption, sym, ◌∙◌, arith, rules, tests}
use Rattle.std.specs.List.{HoldsAt, AllWithin}
use Rattle.std.proofs.lemmas.Iterator.{IsFirst-from_position, YieldsList-from_slice}
use Rattle.std.proofs.lemmas.List.{get_or-take, length-take-le}
use Rattle.swap_log.specs.Layout.{Found}
use Rattle.swap_log.proofs.log.SwapLog.find.Goals as goal

-- the first of the first e numbers that is q is one below e, and none of them is q where there is no first
found_first : (ns : List ℕ) (e q : ℕ) (o : Option ℕ) → e ≤ length ns → MatchOption o (AllWithin (λ x. x ≡ q → ⊥) (take e ns) 0 (length (take e ns))) (λ k. (k < length (take e ns)) × HoldsAt (λ x. x ≡ q) (take e ns) k × AllWithin (λ x. x ≡ q → ⊥) (take e ns) 0 k) → Found ns e q o
found_first ns e q None used h = λ k l is. h k 0 (omega arith) (omega (arith, length-take-le e ns used)) (get_or-take e ns k 0 l ∙ is)
found_first ns e q (Some k) used h =
    let l = length-take-le e ns used in
    (omega (arith, h.0), sym (get_or-take e ns k 0 (omega (arith, h.0))) ∙ h.1 0)

pub returns : goal.returns
returns c =
    let s = c.args.self.now in
    let xs = take s.end s.numbers.now in
    let first = IsFirst-from_position _ _ _ (λ x. x ≡ c.args.slot) (λ x. x ≡ c.args.slot → ⊥) c.position.ensures.ran (YieldsList-from_slice xs cc) (λ x q k. search (rules, tests)) (λ x q k. search (rules, tests)) in
    found_first s.numbers.now s.end c.args.slot c.position.result s.used first
