use Rattle.std.proofs.Common.{◌≡◌, eqb, ◌∙◌, ap, rules}
use Rattle.std.specs.Int.Bits.{bit_or}
use Rattle.std.specs.List.{fold}
use Rattle.std.proofs.iter.runs.Made.{chains}
use Rattle.zero_layer.specs.Zeros.{is_zeros}
use Rattle.zero_layer.proofs.Bytes.{test_tells, joined}
use Rattle.zero_layer.proofs.zeros.is_zero.Goals as goal

pub returns : goal.returns
returns c =
    let page = c.args.page.now in
    let seen : c.fold.result ≡ fold (λ x b. bit_or x b) 0 page = search (rules, chains) in
    let test : eqb c.fold.result 0 ≡ is_zeros page = ap (λ x. eqb x 0) seen ∙ joined 0 page in
    record { test = test; tells = test_tells (eqb c.fold.result 0) page test }
