use Rattle.std.proofs.Common.{◌≡◌, ℕ, ◌<◌, ◌≤◌, cond, length, set, Some, None, Option, is_some, sym, refl, ap, ◌∙◌, ⊎_elim, arith}
use Rattle.std.proofs.lemmas.Bool.{cases_lt, lt-ltb, eq-eqb, ne_eqb}
use Rattle.page_store.specs.Stores.{Page, size_of, slot_of, is_full, with_slot}
use Rattle.page_store.specs.Calls.{after, empty_refusal}
use Rattle.page_store.specs.Memory.{page_at}
use Rattle.page_store.proofs.Slots.{after_same}
use Rattle.swap_log.specs.Layout.{Found, OneLivePosition, bearing, live, killed, positions_in, with_room, log_of}
use Rattle.swap_log.specs.Meaning.{positions_of, position_count, model_of}
use Rattle.swap_log.specs.declared.log.SwapLog.{SwapLog}
use Rattle.swap_log.proofs.Arrays.{positions_length, found_none, found_slot, found_killed}
use Rattle.swap_log.proofs.Positions.{slot_none, none_bears, killed_same, fewer_live, log_killed, log_size, log_slot}

-- What a search tells of a log, and the room that it has.

pub one_live_log : (s : SwapLog) → OneLivePosition s.count (positions_of s)
one_live_log s = record { once = s.once; within = s.within; lean = s.lean }

-- a slot of the store is one of the log's
pub slot_below : (s : SwapLog) (q : ℕ) → q < size_of (model_of s) → q < s.count
slot_below s q h = let l = log_size s.page s.count (positions_of s) in omega arith

-- a slot's number is borne once at most
pub once_here : (s : SwapLog) (q : ℕ) → q < size_of (model_of s) → bearing q (positions_of s) ≤ 1
once_here s q h = s.once q (λ e. let few = s.few in let l = slot_below s q h in omega arith)

-- an empty slot's number is borne nowhere
pub none_here : (s : SwapLog) (q : ℕ) → q < size_of (model_of s) → slot_of (model_of s) q ≡ None → bearing q (positions_of s) ≡ 0
none_here s q h e = none_bears q (positions_of s) (sym (log_slot s.page s.count q (positions_of s) (slot_below s q h)) ∙ e)

pub slot_is : (s : SwapLog) (q k : ℕ) → q < size_of (model_of s) → Found s.numbers.now s.end q (Some k) → slot_of (model_of s) q ≡ Some (page_at s.page s.bytes.now k)
slot_is s q k h f =
    log_slot s.page s.count q (positions_of s) (slot_below s q h)
    ∙ found_slot s.page s.numbers.now s.bytes.now s.end q k f (once_here s q h)

pub slot_is_empty : (s : SwapLog) (q : ℕ) → q < size_of (model_of s) → Found s.numbers.now s.end q None → slot_of (model_of s) q ≡ None
slot_is_empty s q h f =
    log_slot s.page s.count q (positions_of s) (slot_below s q h)
    ∙ slot_none q (positions_of s) (found_none s.page s.numbers.now s.bytes.now s.end q f)

pub found_is_full : (s : SwapLog) (q : ℕ) (o : Option ℕ) → q < size_of (model_of s) → Found s.numbers.now s.end q o → is_full (model_of s) q ≡ is_some o
found_is_full s q None h f = rw (slot_is_empty s q h f)
found_is_full s q (Some k) h f = rw (slot_is s q k h f)

-- the positions after the number at the one that was found was made dead, and where none was found
pub killed_there : (s : SwapLog) (q k : ℕ) → q < size_of (model_of s) → Found s.numbers.now s.end q (Some k) → positions_in s.page (set s.numbers.now k 65535) s.bytes.now s.end ≡ killed q (positions_of s)
killed_there s q k h f = found_killed s.page s.numbers.now s.bytes.now s.end q k s.used f (once_here s q h)

pub killed_nowhere : (s : SwapLog) (q : ℕ) → Found s.numbers.now s.end q None → positions_of s ≡ killed q (positions_of s)
killed_nowhere s q f = sym (killed_same q (positions_of s) (found_none s.page s.numbers.now s.bytes.now s.end q f))

-- an emptying leaves every position of the slot dead, also where it is refused
pub killed_anyway : (s : SwapLog) (q : ℕ) → q < size_of (model_of s) → killed q (positions_of s) ≡ after (empty_refusal (model_of s) q) (killed q (positions_of s)) (positions_of s)
killed_anyway s q h = by_slot (slot_of (model_of s) q) refl
  where
    by_slot : (o : Option Page) → slot_of (model_of s) q ≡ o → killed q (positions_of s) ≡ after (empty_refusal (model_of s) q) (killed q (positions_of s)) (positions_of s)
    by_slot None e =
        let same = killed_same q (positions_of s) (none_here s q h e) in
        same ∙ sym (ap (λ xs. after (empty_refusal (model_of s) q) xs (positions_of s)) same ∙ after_same (empty_refusal (model_of s) q) (positions_of s))
    by_slot (Some page) e = rw (lt-ltb q _ h, e)

-- the store without the page of slot q
pub model_killed : (s : SwapLog) (q : ℕ) → q < size_of (model_of s) → log_of s.page s.count (killed q (positions_of s)) ≡ with_slot (model_of s) q None
model_killed s q h = log_killed s.page s.count q (positions_of s) s.few (slot_below s q h)

-- the room that there is, that compaction makes, and that there is in any case
pub room_there : (s : SwapLog) → s.end < position_count s → positions_of s ≡ with_room (position_count s) (positions_of s)
room_there s h =
    let l = positions_length s.page s.numbers.now s.bytes.now s.end in
    sym (ap (λ b. cond b (live (positions_of s)) (positions_of s)) (ne_eqb (length (positions_of s)) (position_count s) (λ e. omega arith)))

pub room_made : (s : SwapLog) → position_count s ≤ s.end → live (positions_of s) ≡ with_room (position_count s) (positions_of s)
room_made s h =
    let l = positions_length s.page s.numbers.now s.bytes.now s.end in
    let used = s.used in
    sym (ap (λ b. cond b (live (positions_of s)) (positions_of s)) (eq-eqb (length (positions_of s)) (position_count s) (omega arith)))

pub room_left : (s t : SwapLog) (q : ℕ) → q < size_of (model_of s) → slot_of (model_of s) q ≡ None → positions_of t ≡ with_room (position_count s) (positions_of s) → position_count t ≡ position_count s → t.end < position_count t
room_left s t q h e is same =
    let l = positions_length s.page s.numbers.now s.bytes.now s.end in
    let m = positions_length t.page t.numbers.now t.bytes.now t.end in
    let n = ap length is in
    let few = fewer_live s.count q (positions_of s) s.few (slot_below s q h) (none_here s q h e) s.within s.once in
    let room = s.room in
    let used = s.used in
    ⊎_elim
    (λ (u : s.end < position_count s). let z = ap length (room_there s u) in omega arith)
    (λ (u : position_count s ≤ s.end). let z = ap length (room_made s u) in omega arith)
    (cases_lt s.end (position_count s))
