use Rattle.std.proofs.Common.{◌≡◌, ℕ, ◌<◌, ◌⊎◌, length, Some, None, Ok, Err, Option, unwrap_or, refl, ap, ◌∙◌, inl, inr, ⊎_elim, arith}
use Rattle.std.proofs.lemmas.List.{get_or-set_same, get_or-set_other, length-set}
use Rattle.std.proofs.lemmas.Bool.{lt-ltb, eq-eqb}
use Rattle.std.proofs.lemmas.Bool.Decides.{nat_tests}
use Rattle.page_store.specs.declared.refusal.Refusal.{Refusal}
use Rattle.page_store.specs.Stores.{Page, Store, size_of, slot_of, with_slot}
use Rattle.page_store.specs.Calls.{answer, after, fetch_refusal, put_refusal, empty_refusal, Put, Emptied}
use Rattle.page_store.specs.Laws.{Done, PutHoldsThePage, FetchAfterPutGivesThePage, EmptiedHoldsNothing, OtherSlotsStay, SizesStay, RefusalsChangeNothing}

-- A call is accepted, with the new store after it, or refused, with the old one.
pub record Accepted {X : Type 0} (o : Option Refusal) (r : Done) (x new : X) : Type 0 where
  pub none : o ≡ None
  pub ok : r ≡ Ok tt
  pub is_new : x ≡ new

pub record Refused {X : Type 0} (r : Done) (x old : X) : Type 0 where
  pub refusal : Refusal
  pub err : r ≡ Err refusal
  pub is_old : x ≡ old

pub ends : {X : Type 0} (o : Option Refusal) (r : Done) (x new old : X) → r ≡ answer o tt → x ≡ after o new old → Accepted o r x new ⊎ Refused r x old
ends None r x new old a b = inl (record { none = refl; ok = a; is_new = b })
ends (Some e) r x new old a b = inr (record { refusal = e; err = a; is_old = b })

put_ends : (s t : Store) (i : ℕ) (page : Page) (r : Done) → Put s t i page r → Accepted (put_refusal s i (length page)) r t (with_slot s i (Some page)) ⊎ Refused r t s
put_ends s t i page r h = ends (put_refusal s i (length page)) r t (with_slot s i (Some page)) s h.answers h.changes_this_slot_only

empty_ends : (s t : Store) (i : ℕ) (r : Done) → Emptied s t i r → Accepted (empty_refusal s i) r t (with_slot s i None) ⊎ Refused r t s
empty_ends s t i r h = ends (empty_refusal s i) r t (with_slot s i None) s h.answers h.changes_this_slot_only

-- a refused call did not answer Ok
never : {X Y : Type 0} {x old : X} (r : Done) → Refused r x old → r ≡ Ok tt → Y
never r w ok = let e = w.err in let z : ◌≡◌ {A = ℕ} 0 1 = cc in absurd (omega arith)

-- an accepted call was not refused
refused_not : {X Y : Type 0} {o : Option Refusal} {x new : X} (e : Refusal) → Accepted o (Err e) x new → Y
refused_not e w = let ok = w.ok in let z : ◌≡◌ {A = ℕ} 0 1 = cc in absurd (omega arith)

-- an accepted call names a slot of the store
put_slot : (s : Store) (i n : ℕ) → put_refusal s i n ≡ None → i < size_of s
put_slot s i n h = grind (arith, nat_tests)

empty_slot : (s : Store) (i : ℕ) → empty_refusal s i ≡ None → i < size_of s
empty_slot s i h = grind (arith, nat_tests)

pub put_holds_the_page : PutHoldsThePage
put_holds_the_page s t i page r h ok =
    ⊎_elim
    (λ w. ap (λ u. slot_of u i) w.is_new ∙ get_or-set_same s.slots i (Some page) None (put_slot s i (length page) w.none))
    (λ w. never r w ok)
    (put_ends s t i page r h)

pub fetch_after_put : FetchAfterPutGivesThePage
fetch_after_put s t i page old new q r h ok f l =
    ⊎_elim
    (λ w.
    let held = put_holds_the_page s t i page q h ok in
    let size : size_of t ≡ size_of s = ap size_of w.is_new ∙ length-set s.slots i (Some page) in
    let inside : i < size_of t = let lt = put_slot s i (length page) w.none in omega arith in
    let none : fetch_refusal t i (length old) ≡ None = rw (eq-eqb (length old) t.page l, lt-ltb i (size_of t) inside, held) in
    (f.answers ∙ ap (λ o. answer o tt) none, f.fills_the_buffer ∙ ap (λ o. after o (unwrap_or (slot_of t i) old) old) none ∙ ap (λ x. unwrap_or x old) held))
    (λ w. never q w ok)
    (put_ends s t i page q h)

pub emptied_holds_nothing : EmptiedHoldsNothing
emptied_holds_nothing s t i r h ok =
    ⊎_elim
    (λ w. ap (λ u. slot_of u i) w.is_new ∙ get_or-set_same s.slots i None None (empty_slot s i w.none))
    (λ w. never r w ok)
    (empty_ends s t i r h)

other_slot : {o : Option Refusal} (s t : Store) (i k : ℕ) (x : Option Page) (r : Done) → (k ≡ i → ⊥) → Accepted o r t (with_slot s i x) ⊎ Refused r t s → slot_of t k ≡ slot_of s k
other_slot s t i k x r ne =
    ⊎_elim (λ w. ap (λ u. slot_of u k) w.is_new ∙ get_or-set_other s.slots i k x None ne) (λ w. ap (λ u. slot_of u k) w.is_old)

sizes : {o : Option Refusal} (s t : Store) (i : ℕ) (x : Option Page) (r : Done) → Accepted o r t (with_slot s i x) ⊎ Refused r t s → (t.page ≡ s.page) × (size_of t ≡ size_of s)
sizes s t i x r =
    ⊎_elim
    (λ w. (ap (λ u. u.page) w.is_new, ap size_of w.is_new ∙ length-set s.slots i x))
    (λ w. (ap (λ u. u.page) w.is_old, ap size_of w.is_old))

pub other_slots_stay : OtherSlotsStay
other_slots_stay =
    record {
      by_a_put = λ s t i k page r h ne. other_slot s t i k (Some page) r ne (put_ends s t i page r h);
      by_an_emptying = λ s t i k r h ne. other_slot s t i k None r ne (empty_ends s t i r h);
    }

pub sizes_stay : SizesStay
sizes_stay =
    record {
      by_a_put = λ s t i page r h. sizes s t i (Some page) r (put_ends s t i page r h);
      by_an_emptying = λ s t i r h. sizes s t i None r (empty_ends s t i r h);
    }

pub refusals_change_nothing : RefusalsChangeNothing
refusals_change_nothing =
    record {
      of_a_put = λ s t i page e h. ⊎_elim (λ w. refused_not e w) (λ w. w.is_old) (put_ends s t i page (Err e) h);
      of_an_emptying = λ s t i e h. ⊎_elim (λ w. refused_not e w) (λ w. w.is_old) (empty_ends s t i (Err e) h);
      of_a_fetch =
          λ s i old new e h.
          ⊎_elim (λ w. refused_not e w) (λ w. w.is_old)
          (ends (fetch_refusal s i (length old)) (Err e) new (unwrap_or (slot_of s i) old) old h.answers h.fills_the_buffer);
    }
