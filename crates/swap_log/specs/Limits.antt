use Rattle.std.specs.Prelude.{◌≡◌, ℕ, ◌*◌, ◌<◌, ◌≤◌, Bool, true, false, cond, List, [], ◌∷◌, length, Some, None, Option, ◌==◌, slice_index_or, refl}
use Rattle.std.proofs.Common.{sym, subst, ◌∙◌, ⊎_elim, arith}
use Rattle.std.specs.List.{AllByRecursion}
use Rattle.std.proofs.lemmas.List.FromFn.{length-map-range_with_len, get_or-map-range_with_len}
use Rattle.std.proofs.ByRecursion.{All-from_get_or}
use Rattle.std.proofs.lemmas.List.{get_or_past}
use Rattle.std.proofs.lemmas.Bool.{cases_lt}
use Rattle.page_store.specs.Stores.{Page, Sound, Bytes, is_page_size, slot_of}
use Rattle.page_store.proofs.Pages.{page_length, bytes_page}
use Rattle.swap_log.specs.Layout.{Position, position_at, positions_in, slot_in, slots_in, log_of}

-- A log keeps the limits of a store. (This stands in specs/ since the log's implementation of the trait cites it.)

-- what is true of a page
abbrev OnePage : ℕ → Page → Type 0
OnePage p b = (length b ≡ p) × Bytes b

no_page : {o : Option Page} {b : Page} {A : Type 0} → o ≡ None → o ≡ Some b → A
no_page e h = let z : ◌≡◌ {A = ℕ} 0 1 = cc in absurd (omega arith)

-- a slot's page is the page at some position
held : (P : Page → Type 0) (xs : List Position) (q : ℕ) (b : Page) → AllByRecursion (λ x. P x.page) xs → slot_in xs q ≡ Some b → P b
held P [] q b all h = no_page refl h
held P (x ∷ xs) q b all h = here (x.number == q) h (λ e. held P xs q b all.1 e)
  where
    here : (t : Bool) → cond t (Some x.page) (slot_in xs q) ≡ Some b → (slot_in xs q ≡ Some b → P b) → P b
    here true e later = let z : x.page ≡ b = cc in subst P z all.0
    here false e later = later e

-- every position has one page of bytes
pages_fit : (p e : ℕ) (ns bs : List ℕ) → length bs ≡ length ns * p → e ≤ length ns → Bytes bs → AllByRecursion (λ x. OnePage p x.page) (positions_in p ns bs e)
unfolding positions_in
pages_fit p e ns bs whole used bounded =
    let n = length-map-range_with_len (position_at p ns bs) 0 e in
    All-from_get_or (λ x. OnePage p x.page) (positions_in p ns bs e) (record { number = 0; page = [] })
    (λ k h.
    let lt : k < e = omega arith in
    let is : slice_index_or (positions_in p ns bs e) k (record { number = 0; page = [] }) ≡ position_at p ns bs k = get_or-map-range_with_len (position_at p ns bs) 0 e k k _ lt (omega arith) in
    subst (λ x. OnePage p x.page) (sym is) (page_length k (length ns) p bs (omega arith) whole, bytes_page p k bs bounded))

pub log_sound : (p n e : ℕ) (ns bs : List ℕ) → is_page_size p ≡ true → 1 ≤ n → n ≤ 2048 → length bs ≡ length ns * p → e ≤ length ns → Bytes bs → Sound (log_of p n (positions_in p ns bs e))
unfolding slots_in
log_sound p n e ns bs sized some few whole used bounded =
    let xs = positions_in p ns bs e in
    let ln = length-map-range_with_len (slot_in xs) 0 n in
    let fit : (i : ℕ) (b : Page) → slot_of (log_of p n xs) i ≡ Some b → OnePage p b =
    λ i b h.
    ⊎_elim
    (λ (l : i < n). held (OnePage p) xs i b (pages_fit p e ns bs whole used bounded) (sym (get_or-map-range_with_len (slot_in xs) 0 n i i None l (omega arith)) ∙ h))
    (λ (l : n ≤ i). no_page (get_or_past (log_of p n xs).slots i None (omega arith)) h)
    (cases_lt i n) in
    record { page_size = sized; some_slot = omega arith; few_slots = omega arith; one_page = λ i b h. (fit i b h).0; bytes = λ i b h. (fit i b h).1 }
