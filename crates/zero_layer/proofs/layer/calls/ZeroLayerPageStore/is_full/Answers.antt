use Rattle.std.proofs.lemmas.Bool.{lt-ltb}
use Rattle.page_store.specs.Stores.{size_of}
use Rattle.zero_layer.specs.Meaning.{layer_of}
use Rattle.zero_layer.proofs.Layers.{layer_size, layer_slot, checked}
use Rattle.zero_layer.proofs.layer.calls.ZeroLayerPageStore.is_full.Goals as goal

pub returns-then-self-slot-clause-store : goal.returns-then-self-slot-clause-store
returns-then-self-slot-clause-store g c =
    let l = layer_of g.S.PageStore.model c.args.self.now in
    let i = c.args.slot in
    let h = checked l i c.in_ok-check_slot.ensures in
    record { answers = rw (layer_size l, lt-ltb i (size_of l.below) h, layer_slot l i h, c.if-self-slot.true) }

pub returns-clause-store : goal.returns-clause-store
returns-clause-store g c =
    let l = layer_of g.S.PageStore.model c.args.self.now in
    let i = c.args.slot in
    let h = checked l i c.in_ok-check_slot.ensures in
    record { answers = rw (layer_size l, layer_slot l i h, c.if-self-slot.false) c.is_full.ensures.answers }

pub returns-clause-mark_or_store_below_tells : goal.returns-clause-mark_or_store_below_tells
returns-clause-mark_or_store_below_tells g c =
    let l = layer_of g.S.PageStore.model c.args.self.now in
    rw (layer_size l, c.if-self-slot.false) c.is_full.ensures.answers
