use Rattle.std.specs.Prelude.{◌≡◌, ℕ, Bool, cond, List, length, Some, None, Ok, Err, ◌&&◌, Option, Result, ◌==◌, nat_le, nat_lt}
use Rattle.std.specs.Option.{unwrap_or}
use Rattle.page_store.specs.declared.refusal.Refusal.{Refusal}
use Rattle.page_store.specs.declared.refusal.Refusal.TheVariants.{PageSize, StoreSize, WrongLength, NoSuchSlot, EmptySlot}
use Rattle.page_store.specs.Stores.{Page, Store, is_page_size, size_of, slot_of, is_full, with_slot}

-- Why no store of n slots of p bytes can be made, the first that fits in the order of the numbers.
abbrev pub sizes_refusal : ℕ → ℕ → Option Refusal
sizes_refusal p n = cond (is_page_size p) (cond (nat_le 1 n && nat_le n 2048) None (Some StoreSize)) (Some PageSize)

-- Which refusal a call on slot i gives, the first that fits in the order of their numbers; None where it is accepted. n is the length of the buffer.
abbrev pub ask_refusal : Store → ℕ → Option Refusal
ask_refusal s i = cond (nat_lt i (size_of s)) None (Some NoSuchSlot)

abbrev pub length_refusal : Store → ℕ → Option Refusal
length_refusal s n = cond (n == s.page) None (Some WrongLength)

abbrev pub empty_refusal : Store → ℕ → Option Refusal
empty_refusal s i = cond (nat_lt i (size_of s)) (cond (is_full s i) None (Some EmptySlot)) (Some NoSuchSlot)

abbrev pub fetch_refusal : Store → ℕ → ℕ → Option Refusal
fetch_refusal s i n = cond (n == s.page) (empty_refusal s i) (Some WrongLength)

abbrev pub put_refusal : Store → ℕ → ℕ → Option Refusal
put_refusal s i n = cond (n == s.page) (ask_refusal s i) (Some WrongLength)

-- the answer of a call: the refusal, or else x
abbrev pub answer : {X : Type 0} → Option Refusal → X → Result X Refusal
answer None x = Ok x
answer (Some e) x = Err e

-- what a call leaves: the new where it is accepted, and where it is refused the old
abbrev pub after : {X : Type 0} → Option Refusal → X → X → X
after None new old = new
after (Some e) new old = old

-- What each call does to slot i: s is the store before it, t the store after it, r the answer.
pub record Asked (s : Store) (i : ℕ) (r : Result Bool Refusal) : Type 0 where
  pub answers : r ≡ answer (ask_refusal s i) (is_full s i)

pub record Fetched (s : Store) (i : ℕ) (old new : List ℕ) (r : Result (Unit {0}) Refusal) : Type 0 where
  pub answers : r ≡ answer (fetch_refusal s i (length old)) tt
  pub fills_the_buffer : new ≡ after (fetch_refusal s i (length old)) (unwrap_or (slot_of s i) old) old

pub record Put (s t : Store) (i : ℕ) (page : Page) (r : Result (Unit {0}) Refusal) : Type 0 where
  pub answers : r ≡ answer (put_refusal s i (length page)) tt
  pub changes_this_slot_only : t ≡ after (put_refusal s i (length page)) (with_slot s i (Some page)) s

pub record Emptied (s t : Store) (i : ℕ) (r : Result (Unit {0}) Refusal) : Type 0 where
  pub answers : r ≡ answer (empty_refusal s i) tt
  pub changes_this_slot_only : t ≡ after (empty_refusal s i) (with_slot s i None) s
