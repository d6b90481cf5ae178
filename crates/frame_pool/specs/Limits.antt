use Rattle.std.specs.Prelude.{◌≡◌, ℕ, ◌*◌, ◌<◌, ◌≤◌, Bool, true, false, cond, length, Some, None, ◌==◌, slice_index}
use Rattle.std.proofs.Common.{ap, sym, subst, ◌∙◌, ⊎_elim, arith}
use Rattle.std.proofs.lemmas.List.FromFn.{length-map-range_with_len, get_or-map-range_with_len}
use Rattle.std.proofs.lemmas.List.{get_or_past}
use Rattle.std.proofs.lemmas.Bool.{cases_lt}
use Rattle.page_store.specs.Stores.{Page, Sound, Bytes, is_page_size, slot_of}
use Rattle.page_store.specs.Memory.{page_at}
use Rattle.page_store.proofs.Pages.{page_length, bytes_page}
use Rattle.frame_pool.specs.Layout.{Memory, slot_at, slots_in, pool_of}

-- A pool keeps the limits of a store. (This stands in specs/ since the pool's implementation of the trait cites it.)

-- a page in a slot is what lies at the slot's place
held_is : (empty : Bool) (x b : Page) → cond empty None (Some x) ≡ Some b → x ≡ b
held_is true x b h = let z : ◌≡◌ {A = ℕ} 0 1 = cc in absurd (omega arith)
held_is false x b h = cc

at_place : (p : ℕ) (m : Memory) (i : ℕ) (b : Page) → slot_of (pool_of p m) i ≡ Some b → (i < length m.marks) × (page_at p m.bytes i ≡ b)
unfolding slots_in
at_place p m i b h =
    let n = length-map-range_with_len (slot_at p m) 0 (length m.marks) in
    ⊎_elim
    (λ (l : i < length m.marks).
    (l, held_is (slice_index m.marks i == 0) (page_at p m.bytes i) b (sym (get_or-map-range_with_len (slot_at p m) 0 (length m.marks) i i None l (omega arith)) ∙ h)))
    (λ (l : length m.marks ≤ i).
    let e : slot_of (pool_of p m) i ≡ None = get_or_past (pool_of p m).slots i None (omega arith) in
    let z : ◌≡◌ {A = ℕ} 0 1 = cc in
    absurd (omega arith))
    (cases_lt i (length m.marks))

pub pool_sound : (p : ℕ) (m : Memory) → is_page_size p ≡ true → 1 ≤ length m.marks → length m.marks ≤ 2048 → length m.bytes ≡ length m.marks * p → Bytes m.bytes → Sound (pool_of p m)
unfolding slots_in
pool_sound p m sized some few whole bounded =
    let n = length-map-range_with_len (slot_at p m) 0 (length m.marks) in
    record {
      page_size = sized;
      some_slot = omega arith;
      few_slots = omega arith;
      one_page =
          λ i b h.
          let w = at_place p m i b h in
          ap length (sym w.1) ∙ page_length i (length m.marks) p m.bytes w.0 whole;
      bytes = λ i b h. subst Bytes (at_place p m i b h).1 (bytes_page p i m.bytes bounded);
    }
