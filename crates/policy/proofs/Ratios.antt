use Rattle.std.proofs.Common.{◌≡◌, ℕ, ◌-◌, ◌*◌, ◌^◌, ◌<◌, ◌≤◌, true, List, length, Some, mul-le-mul_right, mul-le-mul, mul_right_comm, le_of_mul-le-mul_right, arith}
use Rattle.std.proofs.lemmas.Bool.Decides.{nat_tests}
use Rattle.policy.specs.declared.row.Row.{Row}
use Rattle.policy.specs.Rows.{row_at, Limits, all_within}
use Rattle.policy.specs.Funding.{cost_of, pays_less, funding_choice, LowestRatio}
use Rattle.policy.proofs.Firsts.{Orders, best_is_first, offered_below}
use Rattle.policy.proofs.Within.{limits_at}

-- Costs and products fit.

pub cost_most : (t : ℕ) (row : Row) → Limits row → cost_of t row ≤ 25600
cost_most t row l =
    let less : 100 - t ≤ 100 = omega arith in
    omega (arith, mul-le-mul_right row.active less)

pub product_fits : (t : ℕ) (x y : Row) → Limits x → Limits y → x.shares * cost_of t y < 2 ^ 32
product_fits t x y lx ly = omega (arith, mul-le-mul lx.few_shares (cost_most t y ly))

cost_least : (t : ℕ) (row : Row) → t ≤ 99 → Limits row → row.offered ≡ true → 1 ≤ cost_of t row
cost_least t row h l o =
    let some : 1 ≤ 100 - t = omega arith in
    omega (arith, mul-le-mul_right row.active some, l.offered_has_a_page o)

-- Ratios of shares to costs are in order, where the cost in the middle is not 0.

cross : (sx cx sy cy sz cz : ℕ) → 1 ≤ cy → sy * cx ≤ sx * cy → sz * cy ≤ sy * cz → sz * cx ≤ sx * cz
cross sx cx sy cy sz cz pos h k =
    let all : sz * cx * cy ≤ sx * cz * cy =
    omega (arith, mul_right_comm sz cx cy, mul-le-mul_right cx k, mul_right_comm sy cz cx, mul-le-mul_right cz h, mul_right_comm sx cy cz) in
    le_of_mul-le-mul_right {k = cy} all pos

ratio_orders : (t : ℕ) → Orders (λ row. 1 ≤ cost_of t row) (pays_less t)
ratio_orders t =
    record {
      one_way = λ x y h. grind (arith, nat_tests);
      chain = λ x y z pos h k. grind (arith, nat_tests, cross x.shares (cost_of t x) y.shares (cost_of t y) z.shares (cost_of t z) pos);
    }

pub lowest_ratio : (t : ℕ) (rows : List Row) (c : ℕ) → t ≤ 99 → all_within rows ≡ true → funding_choice t rows ≡ Some c → LowestRatio t rows c
lowest_ratio t rows c h within e =
    let first = best_is_first _ (pays_less t) (ratio_orders t) rows (λ j o. cost_least t (row_at rows j) h (limits_at rows j within) o) (length rows) c e in
    grind (arith, nat_tests, first.none_before, first.before_the_earlier, offered_below rows)
