use Rattle.std.specs.Prelude.{◌≡◌, ℕ, cond, ◌&&◌, List, length, Some, None, Option, Result, ◌==◌, nat_lt}
use Rattle.std.specs.Option.{unwrap_or}
use Rattle.page_store.specs.declared.refusal.Refusal.{Refusal}
use Rattle.page_store.specs.declared.refusal.Refusal.TheVariants.{WrongLength, NoSuchSlot, EmptySlot}
use Rattle.page_store.specs.Stores.{Store, size_of, slot_of, is_full, with_slot}
use Rattle.page_store.specs.Calls.{answer, after}

-- Why a page does not move from slot i of the source s to slot j of the target t through a buffer of n bytes, the first that fits in the order of the numbers.
abbrev pub move_refusal : Store → ℕ → Store → ℕ → ℕ → Option Refusal
move_refusal s i t j n =
    cond (n == s.page && n == t.page)
    (cond (nat_lt i (size_of s) && nat_lt j (size_of t)) (cond (is_full s i) None (Some EmptySlot)) (Some NoSuchSlot))
    (Some WrongLength)

-- What a move does: s and t are source and target before it, s' and t' after it, old and new the buffer.
pub record Moved (s s' : Store) (i : ℕ) (t t' : Store) (j : ℕ) (old new : List ℕ) (r : Result (Unit {0}) Refusal) : Type 0 where
  pub answers : r ≡ answer (move_refusal s i t j (length old)) tt
  pub empties_the_source_slot_only : s' ≡ after (move_refusal s i t j (length old)) (with_slot s i None) s
  pub fills_the_target_slot_only : t' ≡ after (move_refusal s i t j (length old)) (with_slot t j (slot_of s i)) t
  pub leaves_the_page_in_the_buffer : new ≡ after (move_refusal s i t j (length old)) (unwrap_or (slot_of s i) old) old
