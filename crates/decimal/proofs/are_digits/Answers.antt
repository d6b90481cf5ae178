use Rattle.std.proofs.Common.{◌≡◌, true, ◌&&◌, ◌∙◌, rules}
use Rattle.std.specs.Char.{is_ascii_digit}
use Rattle.std.specs.List.{fold}
use Rattle.std.proofs.iter.runs.Made.{chains}
use Rattle.decimal.proofs.Folds.{all_folded}
use Rattle.decimal.proofs.are_digits.Goals as goal

pub returns : goal.returns
returns c =
    let bs = c.args.text.now in
    let seen : c.fold.result ≡ fold (λ x b. x && is_ascii_digit b) true bs = search (rules, chains) in
    seen ∙ all_folded is_ascii_digit true bs
