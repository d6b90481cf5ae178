use Rattle.std.proofs.Common.{◌≡◌, ℕ, ◌+◌, ◌*◌, ◌<◌, ◌≤◌, Bool, true, false, cond, not, eqb, List, length, get_or, replicate, is_some, Some, None, Ok, sym, refl, ap, ◌∙◌, arith}
use Rattle.std.proofs.lemmas.List.FromFn.{length-map-range_with_len, get_or-map-range_with_len}
use Rattle.std.proofs.lemmas.List.{get_or-set_same, get_or-set_other, length-set, length-replicate, get_or-replicate}
use Rattle.std.proofs.lemmas.Bool.Decides.{nat_tests}
use Rattle.page_store.specs.Stores.{empty_store, size_of, slot_of, is_full, with_slot}
use Rattle.page_store.specs.Memory.{page_at}
use Rattle.page_store.proofs.Counts.{counted_set, counted_same}
use Rattle.page_store.proofs.Pages.{place_ends, page_here, page_other}
use Rattle.page_store.specs.Laws.{Done}
use Rattle.page_store.specs.Calls.{answer, ask_refusal}
use Rattle.page_store.proofs.Slots.{slot_is_below_size}
use Rattle.frame_pool.specs.declared.pool.FramePool.{FramePool}
use Rattle.frame_pool.specs.Meaning.{memory_of, model_of}
use Rattle.frame_pool.specs.Layout.{Memory, slot_at, slots_in, pool_of, saved, cleared, unmarked, pool_refusal}

-- What the store over a memory holds.

pub pool_size : (p : ℕ) (m : Memory) → size_of (pool_of p m) ≡ length m.marks
unfolding slots_in
pool_size p m = length-map-range_with_len (slot_at p m) 0 (length m.marks)

pub pool_slot : (p : ℕ) (m : Memory) (i : ℕ) → i < length m.marks → slot_of (pool_of p m) i ≡ slot_at p m i
unfolding slots_in
pool_slot p m i h = get_or-map-range_with_len (slot_at p m) 0 (length m.marks) i i None h (omega arith)

pub full_is_marked : (p : ℕ) (m : Memory) (i : ℕ) → i < length m.marks → is_full (pool_of p m) i ≡ not (eqb (get_or m.marks i 0) 0)
full_is_marked p m i h = rw (pool_slot p m i h) (by_mark (eqb (get_or m.marks i 0) 0))
  where
    by_mark : (b : Bool) → is_some (cond b None (Some (page_at p m.bytes i))) ≡ not b
    by_mark true = refl
    by_mark false = refl

pub full_slot : (p : ℕ) (m : Memory) (i : ℕ) → i < length m.marks → is_full (pool_of p m) i ≡ true → slot_of (pool_of p m) i ≡ Some (page_at p m.bytes i)
full_slot p m i h t = pool_slot p m i h ∙ by_mark (eqb (get_or m.marks i 0) 0) (sym (full_is_marked p m i h) ∙ t)
  where
    by_mark : (b : Bool) → not b ≡ true → cond b None (Some (page_at p m.bytes i)) ≡ Some (page_at p m.bytes i)
    by_mark true e = let z : ◌≡◌ {A = ℕ} 0 1 = cc in absurd (omega arith)
    by_mark false e = refl

-- What each change of the memory makes of the store.

pub pool_cleared : (p : ℕ) (m : Memory) (i : ℕ) → i < length m.marks → pool_of p (cleared m i) ≡ with_slot (pool_of p m) i None
unfolding slots_in
pool_cleared p m i h =
    ap (λ sl. record { page = p; slots = sl })
    (rw (length-set m.marks i 0)
    (counted_set (slot_at p m) (slot_at p (cleared m i)) (length m.marks) i None h
    (rw (get_or-set_same m.marks i 0 0 h))
    (λ k kn ne. rw (get_or-set_other m.marks i k 0 0 ne))))

pub pool_saved : (p : ℕ) (m : Memory) (i : ℕ) (ys : List ℕ) → i < length m.marks → length m.bytes ≡ length m.marks * p → length ys ≡ p → pool_of p (saved p m i ys) ≡ with_slot (pool_of p m) i (Some ys)
unfolding slots_in
pool_saved p m i ys h whole one =
    let e = place_ends i (length m.marks) p h in
    let fits : i * p + p ≤ length m.bytes = omega arith in
    ap (λ sl. record { page = p; slots = sl })
    (rw (length-set m.marks i 1)
    (counted_set (slot_at p m) (slot_at p (saved p m i ys)) (length m.marks) i (Some ys) h
    (rw (get_or-set_same m.marks i 1 0 h) (ap Some (page_here p i m.bytes ys fits one)))
    (λ j jn ne. rw (get_or-set_other m.marks i j 1 0 ne, page_other p i j m.bytes ys fits one ne))))

pub pool_starts : (p n : ℕ) (bytes : List ℕ) → pool_of p (unmarked bytes n) ≡ empty_store p n
unfolding slots_in
pool_starts p n bytes =
    let l = length-replicate {A = ℕ} n 0 in
    ap (λ sl. record { page = p; slots = sl })
    (counted_same (slot_at p (unmarked bytes n)) (length (replicate n 0)) None (λ k h. rw (get_or-replicate {A = ℕ} n k 0 0 (omega arith)))
    ∙ ap (λ k. replicate k None) l)

pub accepted_marks : (p n b m : ℕ) → pool_refusal p n b m ≡ None → m ≡ n
accepted_marks p n b m h = grind (arith, nat_tests)

-- A slot of the store is one of the pool's marks.

pub marked : (s : FramePool) (i : ℕ) → i < size_of (model_of s) → i < length s.marks.now
marked s i h = let e = pool_size s.page (memory_of s) in omega arith

pub checked : (s : FramePool) (i : ℕ) → ◌≡◌ {A = Done} (Ok tt) (answer (ask_refusal (model_of s) i) tt) → i < length s.marks.now
checked s i h = marked s i (slot_is_below_size (model_of s) i h)
