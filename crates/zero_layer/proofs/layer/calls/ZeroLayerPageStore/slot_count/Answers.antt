use Rattle.std.proofs.Common.{rules}
use Rattle.zero_layer.specs.Meaning.{layer_of}
use Rattle.zero_layer.proofs.Layers.{layer_size}
use Rattle.zero_layer.proofs.layer.calls.ZeroLayerPageStore.slot_count.Goals as goal

pub returns : goal.returns
returns g c = let size = layer_size (layer_of g.S.PageStore.model c.args.self.now) in search rules
