-- The order of labels: byte by byte from the first.
use Rattle.std.specs.declared.cmp.Ordering.{Ordering}
use Rattle.std.specs.Cmp.Lexicographic.{slice_cmp}
use Rattle.std.specs.Ordering.{nat_cmp}
use Rattle.std.proofs.Common.{ap}
use Rattle.ordered_map.specs.Order.{Order, order_bytes}
use Rattle.ordered_map.specs.declared.label.Label.{Label}

abbrev pub label_cmp : Label → Label → Ordering
label_cmp a b = slice_cmp nat_cmp a.0 b.0

pub label_order : Order label_cmp
label_order = record {
  flip = λ x y. order_bytes.flip x.0 y.0;
  trans = λ x y z. order_bytes.trans x.0 y.0 z.0;
  exact = λ x y e. ap (λ b. record { 0 = b }) (order_bytes.exact x.0 y.0 e);
}
