use Rattle.zero_layer.proofs.Layers.{layer_starts, tidy_starts}
use Rattle.zero_layer.proofs.layer.ZeroLayer.new.Goals as goal

pub returns-clause-pages_below_show_through : goal.returns-clause-pages_below_show_through
returns-clause-pages_below_show_through g c = layer_starts (g.S.PageStore.model c.args.below) 2048

pub returns-clause-marked_slots_are_empty_below : goal.returns-clause-marked_slots_are_empty_below
returns-clause-marked_slots_are_empty_below g c = tidy_starts (g.S.PageStore.model c.args.below) 2048
