use Rattle.std.proofs.Common.{rules}
use Rattle.decimal.proofs.parse_digits.Goals as goal

pub returns : goal.returns
returns g c =
    record { digits = λ d. (c.parse.result, c.parse.ensures.value, c.ok.ensures.value); other = λ d. search rules }
