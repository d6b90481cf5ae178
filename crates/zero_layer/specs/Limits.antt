use Rattle.std.specs.Prelude.{◌≡◌, ℕ, ◌<◌, ◌≤◌, Bool, true, false, cond, length, Some, None, Option}
use Rattle.std.proofs.Common.{sym, subst, ◌∙◌, ⊎_elim, arith}
use Rattle.std.proofs.lemmas.List.FromFn.{length-map-range_with_len, get_or-map-range_with_len}
use Rattle.std.proofs.lemmas.List.{get_or_past, length-replicate, get_or-replicate}
use Rattle.std.proofs.lemmas.Bool.{cases_lt}
use Rattle.page_store.specs.Stores.{Page, Sound, Bytes, size_of, slot_of}
use Rattle.zero_layer.specs.Zeros.{zeros}
use Rattle.zero_layer.specs.Layer.{Layer, is_marked, slot_at, slots_over, layered}

-- A layer keeps the limits of a store. (This stands in specs/ since the layer's implementation of the trait cites it.)

-- what is true of p zeros, and of each page below, is true of each page of the layer
either : (P : Page → Type 0) (marked : Bool) (z b : Page) (x : Option Page) → P z → ((c : Page) → x ≡ Some c → P c) → cond marked (Some z) x ≡ Some b → P b
either P true z b x pz px h = let e : z ≡ b = cc in subst P e pz
either P false z b x pz px h = px b h

every_page : (P : Page → Type 0) (l : Layer) → P (zeros l.below.page) → ((i : ℕ) (c : Page) → slot_of l.below i ≡ Some c → P c) → (i : ℕ) (b : Page) → slot_of (layered l) i ≡ Some b → P b
unfolding slots_over
every_page P l pz pb i b h =
    let n = length-map-range_with_len (slot_at l) 0 (size_of l.below) in
    ⊎_elim
    (λ (lt : i < size_of l.below).
    either P (is_marked l i) (zeros l.below.page) b (slot_of l.below i) pz (pb i)
    (sym (get_or-map-range_with_len (slot_at l) 0 (size_of l.below) i i None lt (omega arith)) ∙ h))
    (λ (le : size_of l.below ≤ i).
    let e : slot_of (layered l) i ≡ None = get_or_past (layered l).slots i None (omega arith) in
    let z : ◌≡◌ {A = ℕ} 0 1 = cc in
    absurd (omega arith))
    (cases_lt i (size_of l.below))

zero_bytes : (p : ℕ) → Bytes (zeros p)
zero_bytes p k h =
    let n = length-replicate {A = ℕ} p 0 in
    let z = get_or-replicate {A = ℕ} p k 0 0 (omega arith) in
    omega arith

pub layer_sound : (l : Layer) → Sound l.below → Sound (layered l)
unfolding slots_over
layer_sound l s =
    let n = length-map-range_with_len (slot_at l) 0 (size_of l.below) in
    let some = s.some_slot in
    let few = s.few_slots in
    record {
      page_size = s.page_size;
      some_slot = omega arith;
      few_slots = omega arith;
      one_page = every_page (λ b. length b ≡ l.below.page) l (length-replicate l.below.page 0) s.one_page;
      bytes = every_page Bytes l (zero_bytes l.below.page) s.bytes;
    }
