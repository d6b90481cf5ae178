use Rattle.std.proofs.Common.{◌≡◌, ℕ, List, length, Some, arith}
use Rattle.std.proofs.lemmas.Bool.Decides.{nat_tests}
use Rattle.policy.specs.declared.row.Row.{Row}
use Rattle.policy.specs.Lru.{is_older, lru_choice, OldestPage}
use Rattle.policy.proofs.Firsts.{Orders, best_is_first, offered_below}

rank_orders : Orders (λ _. Unit {0}) is_older
rank_orders = grind (arith, nat_tests)

pub oldest_page : (rows : List Row) (c : ℕ) → lru_choice rows ≡ Some c → OldestPage rows c
oldest_page rows c e =
    let first = best_is_first _ is_older rank_orders rows (λ _ _. tt) (length rows) c e in
    grind (arith, nat_tests, first.none_before, first.before_the_earlier, offered_below rows)
