use Rattle.std.proofs.Common.{◌≡◌, ℕ, ◌<◌, ◌≤◌, Bool, true, false, cond, length, get_or, set, replicate, Some, None, Ok, Option, sym, refl, ap, ◌∙◌, subst, ⊎_elim, arith}
use Rattle.std.proofs.lemmas.List.FromFn.{length-map-range_with_len, get_or-map-range_with_len}
use Rattle.std.proofs.lemmas.List.{ext_get_or, set-get_or, get_or-set_same, get_or-set_other, get_or_past, length-set, length-replicate, get_or-replicate}
use Rattle.std.proofs.lemmas.Bool.{cases_eq, cases_lt, lt-ltb, both_ways}
use Rattle.page_store.specs.declared.refusal.Refusal.{Refusal}
use Rattle.page_store.specs.Stores.{Page, Store, Sound, size_of, slot_of, with_slot}
use Rattle.page_store.specs.Calls.{answer, after, ask_refusal, empty_refusal, Put}
use Rattle.page_store.specs.Laws.{Done}
use Rattle.page_store.proofs.Counts.{counted_set}
use Rattle.page_store.proofs.Slots.{after_same, slot_is_below_size, put_accepted}
use Rattle.zero_layer.specs.Zeros.{zeros, is_zeros}
use Rattle.zero_layer.specs.Layer.{Layer, is_marked, slot_at, slots_over, layered, Tidy, NoZeroPage}

-- What a layer holds.

pub layer_size : (l : Layer) → size_of (layered l) ≡ size_of l.below
unfolding slots_over
layer_size l = length-map-range_with_len (slot_at l) 0 (size_of l.below)

pub layer_slot : (l : Layer) (i : ℕ) → i < size_of l.below → slot_of (layered l) i ≡ slot_at l i
unfolding slots_over
layer_slot l i h = get_or-map-range_with_len (slot_at l) 0 (size_of l.below) i i None h (omega arith)

-- What a check that was not refused tells.

pub checked : (l : Layer) (i : ℕ) → ◌≡◌ {A = Done} (Ok tt) (answer (ask_refusal (layered l) i) tt) → i < size_of l.below
checked l i h = let e = layer_size l in let w = slot_is_below_size (layered l) i h in omega arith

pub checked_few : (l : Layer) (i : ℕ) → Sound l.below → ◌≡◌ {A = Done} (Ok tt) (answer (ask_refusal (layered l) i) tt) → i < 2048
checked_few l i s h = let few = s.few_slots in let w = checked l i h in omega arith

-- the layer with x in slot i below, with the mark m for that slot, and with all else as it was
abbrev pub turned : Layer → ℕ → Bool → Option Page → Layer
turned l i m x = record { below = with_slot l.below i x; marks = set l.marks i m }

pub layer_turned : (l : Layer) (i : ℕ) (m : Bool) (x : Option Page) → i < size_of l.below → i < length l.marks → layered (turned l i m x) ≡ with_slot (layered l) i (cond m (Some (zeros l.below.page)) x)
unfolding slots_over
layer_turned l i m x h hm =
    ap (λ sl. record { page = l.below.page; slots = sl })
    (rw (length-set l.below.slots i x)
    (counted_set (slot_at l) (slot_at (turned l i m x)) (size_of l.below) i (cond m (Some (zeros l.below.page)) x) h
    (rw (get_or-set_same l.marks i m false hm, get_or-set_same l.below.slots i x None h))
    (λ k kn ne. rw (get_or-set_other l.marks i k m false ne, get_or-set_other l.below.slots i k x None ne))))

-- a mark goes only with an empty slot below
pub tidy_turned : (l : Layer) (i : ℕ) (m : Bool) (x : Option Page) → i < size_of l.below → i < length l.marks → (m ≡ true → x ≡ None) → Tidy l → Tidy (turned l i m x)
tidy_turned l i m x h hm alone t =
    let n = length-set l.below.slots i x in
    record {
      is_a_slot =
          λ k e.
          ⊎_elim (λ (q : k ≡ i). omega arith)
          (λ (ne : k ≡ i → ⊥). let lt = t.is_a_slot k (sym (get_or-set_other l.marks i k m false ne) ∙ e) in omega arith)
          (cases_eq k i);
      is_empty_below =
          λ k e.
          ⊎_elim
          (λ (q : k ≡ i).
          ap (λ j. get_or (set l.below.slots i x) j None) q ∙ get_or-set_same l.below.slots i x None h ∙
          alone (sym (get_or-set_same l.marks i m false hm) ∙ ap (λ j. get_or (set l.marks i m) j false) (sym q) ∙ e))
          (λ (ne : k ≡ i → ⊥).
          get_or-set_other l.below.slots i k x None ne ∙ t.is_empty_below k (sym (get_or-set_other l.marks i k m false ne) ∙ e))
          (cases_eq k i);
    }

-- no page of zeros comes below where x is none
free_turned : (s : Store) (i : ℕ) (x : Option Page) → i < size_of s → ((b : Page) → x ≡ Some b → is_zeros b ≡ false) → NoZeroPage s → NoZeroPage (with_slot s i x)
free_turned s i x h other f k b e =
    ⊎_elim
    (λ (q : k ≡ i). other b (sym (get_or-set_same s.slots i x None h) ∙ ap (λ j. get_or (set s.slots i x) j None) (sym q) ∙ e))
    (λ (ne : k ≡ i → ⊥). f k b (sym (get_or-set_other s.slots i k x None ne) ∙ e))
    (cases_eq k i)

pub free_put : (s : Store) (i : ℕ) (page : Page) → i < size_of s → is_zeros page ≡ false → NoZeroPage s → NoZeroPage (with_slot s i (Some page))
free_put s i page h other f = free_turned s i (Some page) h (λ b e. let p : page ≡ b = cc in rw p at other) f

pub free_emptied : (s : Store) (i : ℕ) → i < size_of s → NoZeroPage s → NoZeroPage (with_slot s i None)
free_emptied s i h f = free_turned s i None h (λ b e. let z : ◌≡◌ {A = ℕ} 0 1 = cc in absurd (omega arith)) f

-- What a put leaves: zeros as a mark, any other page below.

pub put_zeros : (l : Layer) (i : ℕ) (page : Page) (b : Store) → i < size_of l.below → i < length l.marks → length page ≡ l.below.page → page ≡ zeros (length page) → b ≡ with_slot l.below i None → Put (layered l) (layered (record { below = b; marks = set l.marks i true })) i page (Ok tt)
put_zeros l i page b h hm one zero below =
    let size = layer_size l in
    let accepted = put_accepted (layered l) i (length page) one (omega arith) in
    record {
      answers = sym (ap (λ o. answer o tt) accepted);
      changes_this_slot_only =
          ap (λ s. layered (record { below = s; marks = set l.marks i true })) below
          ∙ layer_turned l i true None h hm
          ∙ ap (λ zs. with_slot (layered l) i (Some zs)) (ap zeros (sym one) ∙ sym zero)
          ∙ sym (ap (λ o. after o (with_slot (layered l) i (Some page)) (layered l)) accepted);
    }

pub put_below : (l : Layer) (i : ℕ) (page : Page) (b : Store) (r : Done) → i < size_of l.below → i < length l.marks → length page ≡ l.below.page → Put l.below b i page r → Put (layered l) (layered (record { below = b; marks = set l.marks i false })) i page r
put_below l i page b r h hm one put =
    let size = layer_size l in
    let accepted = put_accepted (layered l) i (length page) one (omega arith) in
    let there = put_accepted l.below i (length page) one h in
    record {
      answers = put.answers ∙ ap (λ o. answer o tt) there ∙ sym (ap (λ o. answer o tt) accepted);
      changes_this_slot_only =
          ap (λ s. layered (record { below = s; marks = set l.marks i false })) (put.changes_this_slot_only ∙ ap (λ o. after o (with_slot l.below i (Some page)) l.below) there)
          ∙ layer_turned l i false (Some page) h hm
          ∙ sym (ap (λ o. after o (with_slot (layered l) i (Some page)) (layered l)) accepted);
    }

same_layer : (k l : Layer) → k.below ≡ l.below → k.marks ≡ l.marks → k ≡ l
same_layer k l b m = ap (λ s. record { below = s; marks = k.marks }) b ∙ ap (λ ms. record { below = l.below; marks = ms }) m

-- What an emptying leaves of the layer; o says whether it is refused.

pub marked_is_full : (l : Layer) (i : ℕ) → i < size_of l.below → is_marked l i ≡ true → empty_refusal (layered l) i ≡ None
marked_is_full l i h marked = rw (layer_size l, lt-ltb i (size_of l.below) h, layer_slot l i h, marked)

pub plain_is_as_below : (l : Layer) (i : ℕ) → i < size_of l.below → is_marked l i ≡ false → empty_refusal (layered l) i ≡ empty_refusal l.below i
plain_is_as_below l i h plain = rw (layer_size l, layer_slot l i h, plain)

-- the marks, where the slot has none
pub plain_stays : (l : Layer) (i : ℕ) (o : Option Refusal) → is_marked l i ≡ false → l.marks ≡ after o (set l.marks i false) l.marks
plain_stays l i o plain =
    sym (after_same o l.marks) ∙ ap (λ ms. after o ms l.marks) (sym (ap (set l.marks i) (sym plain) ∙ set-get_or l.marks i false))

pub record Cleared (l k : Layer) (i : ℕ) (o : Option Refusal) : Type 0 where
  pub model : layered k ≡ after o (with_slot (layered l) i None) (layered l)
  pub tidy : Tidy l → Tidy k
  pub free : NoZeroPage l.below → NoZeroPage k.below

pub cleared : (l k : Layer) (i : ℕ) (o : Option Refusal) → i < size_of l.below → i < length l.marks → k.below ≡ after o (with_slot l.below i None) l.below → k.marks ≡ after o (set l.marks i false) l.marks → Cleared l k i o
cleared l k i (Some e) h hm b m =
    let same = same_layer k l b m in
    record { model = ap layered same; tidy = subst Tidy (sym same); free = subst NoZeroPage (sym b) }
cleared l k i None h hm b m =
    let same = same_layer k (turned l i false None) b m in
    record {
      model = ap layered same ∙ layer_turned l i false None h hm;
      tidy = λ t. subst Tidy (sym same) (tidy_turned l i false None h hm (λ _. refl) t);
      free = λ f. subst NoZeroPage (sym b) (free_emptied l.below i h f);
    }

-- A layer with no mark.

no_marks : (n i : ℕ) → get_or (replicate n false) i false ≡ false
no_marks n i =
    let l = length-replicate {A = Bool} n false in
    ⊎_elim (λ (h : i < n). get_or-replicate n i false false h) (λ (h : n ≤ i). get_or_past (replicate n false) i false (omega arith)) (cases_lt i n)

pub layer_starts : (s : Store) (n : ℕ) → layered (record { below = s; marks = replicate n false }) ≡ s
layer_starts s n =
    let l : Layer = record { below = s; marks = replicate n false } in
    ap (λ sl. record { page = s.page; slots = sl })
    (ext_get_or None _ _ (layer_size l)
    (λ k h. let z = layer_size l in layer_slot l k (omega arith) ∙ rw (no_marks n k)))

pub tidy_starts : (s : Store) (n : ℕ) → Tidy (record { below = s; marks = replicate n false })
tidy_starts s n =
    record {
      is_a_slot = λ i e. absurd (both_ways (get_or (replicate n false) i false) (no_marks n i) e);
      is_empty_below = λ i e. absurd (both_ways (get_or (replicate n false) i false) (no_marks n i) e);
    }
