use Rattle.std.proofs.Common.{◌≡◌, length, replicate, ap, ◌∙◌}
use Rattle.std.proofs.lemmas.Bool.{lt-ltb, eq-eqb}
use Rattle.page_store.specs.Stores.{size_of}
use Rattle.page_store.proofs.Slots.{length_is_one_page}
use Rattle.zero_layer.specs.Layer.{layered}
use Rattle.zero_layer.specs.Meaning.{layer_of}
use Rattle.zero_layer.proofs.Layers.{layer_size, layer_slot, checked}
use Rattle.zero_layer.proofs.layer.calls.ZeroLayerPageStore.fetch.Goals as goal

pub returns-then-self-slot : goal.returns-then-self-slot
returns-then-self-slot g c =
    let l = layer_of g.S.PageStore.model c.args.self.now in
    let i = c.args.slot in
    let n = length c.args.buffer.now in
    let h = checked l i c.in_ok-check_slot.ensures in
    let one = length_is_one_page (layered l) n c.in_ok-check_length.ensures in
    let zeros : c.fill.new.self ≡ replicate n 0 = c.fill.ensures.after (λ y e. e) in
    record {
      store = record {
        answers = rw (eq-eqb n l.below.page one, layer_size l, lt-ltb i (size_of l.below) h, layer_slot l i h, c.if-self-slot.true);
        fills_the_buffer =
            rw (eq-eqb n l.below.page one, layer_size l, lt-ltb i (size_of l.below) h, layer_slot l i h, c.if-self-slot.true)
            (zeros ∙ ap (λ k. replicate k 0) one);
      };
      marked_slots_give_zeros = rw (eq-eqb n l.below.page one, layer_size l, lt-ltb i (size_of l.below) h, layer_slot l i h, c.if-self-slot.true) zeros;
    }

pub returns : goal.returns
returns g c =
    let l = layer_of g.S.PageStore.model c.args.self.now in
    let i = c.args.slot in
    let h = checked l i c.in_ok-check_slot.ensures in
    record {
      store = record {
        answers = rw (layer_size l, layer_slot l i h, c.if-self-slot.false) c.fetch.ensures.answers;
        fills_the_buffer = rw (layer_size l, layer_slot l i h, c.if-self-slot.false) c.fetch.ensures.fills_the_buffer;
      };
      marked_slots_give_zeros = rw (layer_size l, layer_slot l i h, c.if-self-slot.false) c.fetch.ensures.fills_the_buffer;
    }
