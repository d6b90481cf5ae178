use Rattle.page_store.specs.Stores.{Store}
use Rattle.zero_layer.specs.Layer.{Layer, layered}
use Rattle.zero_layer.specs.declared.layer.ZeroLayer.{ZeroLayer}

-- A layer as it is now, where `model` says what the store below holds.
abbrev pub layer_of : {S : Type 0} → (S → Store) → ZeroLayer S → Layer
layer_of model s = record { below = model s.below; marks = s.marks }

-- the store that it is
abbrev pub model_of : {S : Type 0} → (S → Store) → ZeroLayer S → Store
model_of model s = layered (layer_of model s)
