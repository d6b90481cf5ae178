use Rattle.std.proofs.Common.{◌≡◌, ℕ, ◌<◌, ◌≤◌, Bool, true, Some, None, Ok, Err, Option, Result, sym, refl, ap, ◌∙◌, ⊎_elim, arith}
use Rattle.std.proofs.lemmas.List.{set-get_or, get_or_past}
use Rattle.std.proofs.lemmas.Bool.{cases_lt, lt-ltb, eq-eqb}
use Rattle.std.proofs.lemmas.Bool.Decides.{nat_tests}
use Rattle.page_store.specs.declared.refusal.Refusal.{Refusal}
use Rattle.page_store.specs.Stores.{Page, Store, size_of, slot_of, is_full, with_slot}
use Rattle.page_store.specs.Calls.{answer, after, length_refusal, ask_refusal, fetch_refusal, put_refusal, empty_refusal, Asked}

-- What a check or a question that was not refused tells.

abbrev Answered : Type 0 → Type 0
Answered X = Result X Refusal

abbrev Done : Type 0
Done = Answered (Unit {0})

never_err : {X : Type 0} {Y : Type 0} {x : X} {e : Refusal} → ◌≡◌ {A = Answered X} (Ok x) (Err e) → Y
never_err h = let z : ◌≡◌ {A = ℕ} 0 1 = cc in absurd (omega arith)

pub not_refused : {X : Type 0} (o : Option Refusal) (x y : X) → Ok x ≡ answer o y → (o ≡ None) × (x ≡ y)
not_refused None x y h = (refl, cc)
not_refused (Some e) x y h = never_err h

pub length_is_one_page : (s : Store) (n : ℕ) → ◌≡◌ {A = Done} (Ok tt) (answer (length_refusal s n) tt) → n ≡ s.page
length_is_one_page s n h = let none = (not_refused {X = Unit {0}} (length_refusal s n) tt tt h).0 in grind (arith, nat_tests)

pub slot_is_below_size : (s : Store) (i : ℕ) → ◌≡◌ {A = Done} (Ok tt) (answer (ask_refusal s i) tt) → i < size_of s
slot_is_below_size s i h = let none = (not_refused {X = Unit {0}} (ask_refusal s i) tt tt h).0 in grind (arith, nat_tests)

pub record Told (s : Store) (i : ℕ) (full : Bool) : Type 0 where
  pub inside : i < size_of s
  pub is : full ≡ is_full s i

pub told : (s : Store) (i : ℕ) (full : Bool) → Asked s i (Ok full) → Told s i full
told s i full h =
    let w = not_refused (ask_refusal s i) full (is_full s i) h.answers in
    let none = w.0 in
    record { inside = grind (arith, nat_tests); is = w.1 }

-- What a call leaves, whether it is refused or not.

pub after_same : {X : Type 0} (o : Option Refusal) (x : X) → after o x x ≡ x
after_same None x = refl
after_same (Some e) x = refl

-- A slot that is given what it holds already.

pub with_own_slot : (s : Store) (i : ℕ) → with_slot s i (slot_of s i) ≡ s
with_own_slot s i = ap (λ sl. record { page = s.page; slots = sl }) (set-get_or s.slots i None)

pub with_nothing_again : (s : Store) (i : ℕ) → slot_of s i ≡ None → with_slot s i None ≡ s
with_nothing_again s i e = ap (with_slot s i) (sym e) ∙ with_own_slot s i

-- a slot that holds a page is one of the store's
pub full_slot_below_size : (s : Store) (i : ℕ) (b : Page) → slot_of s i ≡ Some b → i < size_of s
full_slot_below_size s i b e =
    ⊎_elim (λ (h : i < size_of s). h)
    (λ (h : size_of s ≤ i).
    let past = get_or_past s.slots i None h in
    let z : ◌≡◌ {A = ℕ} 0 1 = cc in
    absurd (omega arith))
    (cases_lt i (size_of s))

-- an emptying leaves nothing in the slot, also where it is refused
pub emptied_anyway : (s : Store) (i : ℕ) → after (empty_refusal s i) (with_slot s i None) s ≡ with_slot s i None
emptied_anyway s i = by_slot (slot_of s i) refl
  where
    by_slot : (x : Option Page) → slot_of s i ≡ x → after (empty_refusal s i) (with_slot s i None) s ≡ with_slot s i None
    by_slot None e = ap (after (empty_refusal s i) (with_slot s i None)) (sym (with_nothing_again s i e)) ∙ after_same (empty_refusal s i) (with_slot s i None)
    by_slot (Some b) e = rw (lt-ltb i (size_of s) (full_slot_below_size s i b e), e)

-- a page of the right length is put into any slot of the store
pub put_accepted : (s : Store) (i n : ℕ) → n ≡ s.page → i < size_of s → put_refusal s i n ≡ None
put_accepted s i n one h = rw (eq-eqb n s.page one, lt-ltb i (size_of s) h)

-- and a full slot is emptied and fetched
pub empty_accepted : (s : Store) (i : ℕ) → i < size_of s → is_full s i ≡ true → empty_refusal s i ≡ None
empty_accepted s i h full = rw (lt-ltb i (size_of s) h, full)

pub fetch_accepted : (s : Store) (i n : ℕ) → n ≡ s.page → i < size_of s → is_full s i ≡ true → fetch_refusal s i n ≡ None
fetch_accepted s i n one h full = rw (eq-eqb n s.page one, lt-ltb i (size_of s) h, full)
