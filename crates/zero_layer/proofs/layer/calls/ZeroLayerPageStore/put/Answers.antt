use Rattle.std.proofs.Common.{◌<◌, Bool, if◌then◌else◌, true, false, length, set, Some, None, sym, refl, ap, ◌∙◌, subst, rules}
use Rattle.std.proofs.lemmas.Bool.{false≢true}
use Rattle.page_store.specs.Stores.{with_slot}
use Rattle.page_store.specs.Calls.{after}
use Rattle.page_store.proofs.Slots.{length_is_one_page, slot_is_below_size, put_accepted, emptied_anyway}
use Rattle.zero_layer.specs.Zeros.{is_zeros}
use Rattle.zero_layer.specs.Layer.{layered, Tidy}
use Rattle.zero_layer.specs.Meaning.{layer_of}
use Rattle.zero_layer.proofs.Layers.{checked, checked_few, tidy_turned, put_zeros, put_below}
use Rattle.zero_layer.proofs.layer.calls.ZeroLayerPageStore.put.Goals as goal

pub returns-then-is_zero-clause-marked_slots_stay_empty_below : goal.returns-then-is_zero-clause-marked_slots_stay_empty_below
returns-then-is_zero-clause-marked_slots_stay_empty_below g c =
    let s = c.args.self.now in
    let i = c.args.slot in
    let l = layer_of g.S.PageStore.model s in
    let small = checked_few l i (g.met.S.PageStore.sound s.below) c.in_ok-check_slot.ensures in
    let few : i < length s.marks = search rules in
    let below = c.empty.ensures.changes_this_slot_only ∙ emptied_anyway l.below i in
    λ t. subst (λ b. Tidy (record { below = b; marks = set s.marks i true })) (sym below) (tidy_turned l i true None (checked l i c.in_ok-check_slot.ensures) few (λ _. refl) t)

pub returns-then-is_zero-clause-store : goal.returns-then-is_zero-clause-store
returns-then-is_zero-clause-store g c =
    let s = c.args.self.now in
    let i = c.args.slot in
    let l = layer_of g.S.PageStore.model s in
    let small = checked_few l i (g.met.S.PageStore.sound s.below) c.in_ok-check_slot.ensures in
    let few : i < length s.marks = search rules in
    let one = length_is_one_page (layered l) (length c.args.page.now) c.in_ok-check_length.ensures in
    let below = c.empty.ensures.changes_this_slot_only ∙ emptied_anyway l.below i in
    put_zeros l i c.args.page.now _ (checked l i c.in_ok-check_slot.ensures) few one c.if-is_zero.ensures.tells below

pub returns-then-is_zero-clause-zero_pages_are_not_kept_below : goal.returns-then-is_zero-clause-zero_pages_are_not_kept_below
returns-then-is_zero-clause-zero_pages_are_not_kept_below g c =
    let i = c.args.slot in
    let page = c.args.page.now in
    let l = layer_of g.S.PageStore.model c.args.self.now in
    let one = length_is_one_page (layered l) (length page) c.in_ok-check_length.ensures in
    let accepted = put_accepted (layered l) i (length page) one (slot_is_below_size (layered l) i c.in_ok-check_slot.ensures) in
    let below = c.empty.ensures.changes_this_slot_only ∙ emptied_anyway l.below i in
    let kept = λ (b : Bool). with_slot l.below i (if b then None else Some page) in
    below ∙ ap kept c.if-is_zero.ensures.test ∙ sym (ap (λ o. after o (kept (is_zeros page)) l.below) accepted)

pub returns-clause-store : goal.returns-clause-store
returns-clause-store g c =
    let s = c.args.self.now in
    let i = c.args.slot in
    let l = layer_of g.S.PageStore.model s in
    let small = checked_few l i (g.met.S.PageStore.sound s.below) c.in_ok-check_slot.ensures in
    let few : i < length s.marks = search rules in
    let one = length_is_one_page (layered l) (length c.args.page.now) c.in_ok-check_length.ensures in
    put_below l i c.args.page.now _ _ (checked l i c.in_ok-check_slot.ensures) few one c.put.ensures

pub returns-clause-marked_slots_stay_empty_below : goal.returns-clause-marked_slots_stay_empty_below
returns-clause-marked_slots_stay_empty_below g c =
    let s = c.args.self.now in
    let i = c.args.slot in
    let page = c.args.page.now in
    let l = layer_of g.S.PageStore.model s in
    let h = checked l i c.in_ok-check_slot.ensures in
    let small = checked_few l i (g.met.S.PageStore.sound s.below) c.in_ok-check_slot.ensures in
    let few : i < length s.marks = search rules in
    let one = length_is_one_page (layered l) (length page) c.in_ok-check_length.ensures in
    let there = put_accepted l.below i (length page) one h in
    let below = c.put.ensures.changes_this_slot_only ∙ ap (λ o. after o (with_slot l.below i (Some page)) l.below) there in
    λ t. subst (λ b. Tidy (record { below = b; marks = set s.marks i false })) (sym below) (tidy_turned l i false (Some page) h few (λ e. absurd (false≢true e)) t)
