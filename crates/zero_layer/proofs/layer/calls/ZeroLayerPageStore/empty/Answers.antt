use Rattle.std.proofs.Common.{◌≡◌, ◌<◌, false, length, set, None, sym, ap, ◌∙◌, rules}
use Rattle.page_store.specs.Stores.{with_slot}
use Rattle.page_store.specs.Calls.{answer, after, empty_refusal}
use Rattle.page_store.proofs.Slots.{emptied_anyway}
use Rattle.zero_layer.specs.Layer.{layered}
use Rattle.zero_layer.specs.Meaning.{layer_of}
use Rattle.zero_layer.proofs.Layers.{checked, checked_few, marked_is_full, plain_is_as_below, plain_stays, cleared}
use Rattle.zero_layer.proofs.layer.calls.ZeroLayerPageStore.empty.Goals as goal

pub returns-then-self-slot : goal.returns-then-self-slot
returns-then-self-slot g c =
    let q = g.S.PageStore.model in
    let s = c.args.self.now in
    let i = c.args.slot in
    let l = layer_of q s in
    let h = checked l i c.in_ok-check_slot.ensures in
    let small = checked_few l i (g.met.S.PageStore.sound s.below) c.in_ok-check_slot.ensures in
    let few : i < length s.marks = search rules in
    let o = empty_refusal (layered l) i in
    let accepted : o ≡ None = marked_is_full l i h c.if-self-slot.true in
    let below =
    c.empty-emptied.ensures.changes_this_slot_only ∙ emptied_anyway (q s.below) i ∙
    sym (ap (λ p. after p (with_slot (q s.below) i None) (q s.below)) accepted) in
    let marks = sym (ap (λ p. after p (set s.marks i false) s.marks) accepted) in
    let w = cleared l (record { below = q c.empty-emptied.new.self; marks = set s.marks i false }) i o h few below marks in
    record {
      store = record { answers = sym (ap (λ p. answer p tt) accepted); changes_this_slot_only = w.model };
      nothing_is_left_below = below;
      mark_is_cleared = marks;
      marked_slots_stay_empty_below = w.tidy;
      no_page_of_zeros_comes_below = w.free;
    }

pub returns : goal.returns
returns g c =
    let q = g.S.PageStore.model in
    let s = c.args.self.now in
    let i = c.args.slot in
    let l = layer_of q s in
    let h = checked l i c.in_ok-check_slot.ensures in
    let small = checked_few l i (g.met.S.PageStore.sound s.below) c.in_ok-check_slot.ensures in
    let few : i < length s.marks = search rules in
    let o = empty_refusal (layered l) i in
    let as_below : o ≡ empty_refusal (q s.below) i = plain_is_as_below l i h c.if-self-slot.false in
    let below =
    c.empty-emptied.ensures.changes_this_slot_only ∙
    sym (ap (λ p. after p (with_slot (q s.below) i None) (q s.below)) as_below) in
    let marks = plain_stays l i o c.if-self-slot.false in
    let w = cleared l (record { below = q c.empty-emptied.new.self; marks = s.marks }) i o h few below marks in
    record {
      store = record { answers = c.empty-emptied.ensures.answers ∙ sym (ap (λ p. answer p tt) as_below); changes_this_slot_only = w.model };
      nothing_is_left_below = below;
      mark_is_cleared = marks;
      marked_slots_stay_empty_below = w.tidy;
      no_page_of_zeros_comes_below = w.free;
    }
