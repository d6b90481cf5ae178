use Rattle.std.specs.Prelude.{◌≡◌, ℕ, List, length, Some, None, Ok, Err, Result, ◌≢◌}
use Rattle.page_store.specs.declared.refusal.Refusal.{Refusal}
use Rattle.page_store.specs.Stores.{Page, Store, size_of, slot_of}
use Rattle.page_store.specs.Calls.{Fetched, Put, Emptied}

-- What the calls of every store come to, in plain words. s is the store before a call and t the store after it.

abbrev pub Done : Type 0
Done = Result (Unit {0}) Refusal

-- an accepted put leaves just that page in the slot
abbrev pub PutHoldsThePage : Type 0
PutHoldsThePage = (s t : Store) (i : ℕ) (page : Page) (r : Done) → Put s t i page r → r ≡ Ok tt → slot_of t i ≡ Some page

-- a fetch into a buffer of one page, after an accepted put, is accepted and gives that page
abbrev pub FetchAfterPutGivesThePage : Type 0
FetchAfterPutGivesThePage =
    (s t : Store) (i : ℕ) (page old new : List ℕ) (q r : Done) → Put s t i page q → q ≡ Ok tt → Fetched t i old new r → length old ≡ t.page → (r ≡ Ok tt) × (new ≡ page)

-- an accepted emptying leaves nothing in the slot
abbrev pub EmptiedHoldsNothing : Type 0
EmptiedHoldsNothing = (s t : Store) (i : ℕ) (r : Done) → Emptied s t i r → r ≡ Ok tt → slot_of t i ≡ None

-- no other slot is touched
pub record OtherSlotsStay : Type 0 where
  pub by_a_put : (s t : Store) (i k : ℕ) (page : Page) (r : Done) → Put s t i page r → (k ≢ i) → slot_of t k ≡ slot_of s k
  pub by_an_emptying : (s t : Store) (i k : ℕ) (r : Done) → Emptied s t i r → (k ≢ i) → slot_of t k ≡ slot_of s k

-- neither the page size nor the number of slots changes
pub record SizesStay : Type 0 where
  pub by_a_put : (s t : Store) (i : ℕ) (page : Page) (r : Done) → Put s t i page r → (t.page ≡ s.page) × (size_of t ≡ size_of s)
  pub by_an_emptying : (s t : Store) (i : ℕ) (r : Done) → Emptied s t i r → (t.page ≡ s.page) × (size_of t ≡ size_of s)

-- a refused call changes nothing
pub record RefusalsChangeNothing : Type 0 where
  pub of_a_put : (s t : Store) (i : ℕ) (page : Page) (e : Refusal) → Put s t i page (Err e) → t ≡ s
  pub of_an_emptying : (s t : Store) (i : ℕ) (e : Refusal) → Emptied s t i (Err e) → t ≡ s
  pub of_a_fetch : (s : Store) (i : ℕ) (old new : List ℕ) (e : Refusal) → Fetched s i old new (Err e) → new ≡ old
