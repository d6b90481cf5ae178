use Rattle.std.proofs.Common.{◌≡◌, ℕ, ◌+◌, ◌-◌, ◌*◌, ◌<◌, List, [], ◌∷◌, ◌++◌, length, set, Some, None, sym, ap, ◌∙◌, subst, arith}
use borrow.Rule.Slice.PartMut.{put_mid}
use Rattle.std.proofs.lemmas.List.{length-set}
use Rattle.page_store.specs.Stores.{Bytes, size_of, slot_of, with_slot}
use Rattle.page_store.proofs.Pages.{place_ends}
use Rattle.swap_log.specs.Layout.{OneLivePosition, positions_in, log_of}
use Rattle.swap_log.specs.Meaning.{positions_of, position_count, model_of}
use Rattle.swap_log.specs.declared.log.SwapLog.{SwapLog}
use Rattle.swap_log.proofs.Arrays.{appended}
use Rattle.swap_log.proofs.Founds.{one_live_log, slot_below, none_here, room_left}
use Rattle.swap_log.proofs.Positions.{at, one_live_appended, log_appended}
use Rattle.swap_log.proofs.log.SwapLog.append.Goals as goal

-- the bytes after a copy to the page at the end
abbrev bytes_after : SwapLog → List ℕ → List ℕ
bytes_after t zs = put_mid (t.end * t.page) (t.end * t.page + t.page - t.end * t.page) t.bytes.now zs

-- what stands after the number q and a copy zs of the page ys were written at the end of t
record Written (t : SwapLog) (q : ℕ) (zs ys : List ℕ) : Type 0 where
  positions : positions_in t.page (set t.numbers.now t.end q) (bytes_after t zs) (t.end + 1) ≡ positions_of t ++ at q ys ∷ []
  whole : length (bytes_after t zs) ≡ length (set t.numbers.now t.end q) * t.page
  bounded : Bytes (bytes_after t zs)
  one_live : OneLivePosition t.count (positions_in t.page (set t.numbers.now t.end q) (bytes_after t zs) (t.end + 1))
  model : log_of t.page t.count (positions_in t.page (set t.numbers.now t.end q) (bytes_after t zs) (t.end + 1)) ≡ with_slot (model_of t) q (Some ys)

-- t is the log s after room was made
written : (s t : SwapLog) (q : ℕ) (zs ys : List ℕ) → q < size_of (model_of s) → slot_of (model_of s) q ≡ None → length ys ≡ s.page → model_of t ≡ model_of s → t.end < position_count t → zs ≡ ys → Bytes ys → Written t q zs ys
written s t q zs ys slot gone one model room copied small =
    let below = slot_below t q (subst (λ m. q < size_of m) (sym model) slot) in
    let none = none_here t q (subst (λ m. q < size_of m) (sym model) slot) (ap (λ m. slot_of m q) model ∙ gone) in
    let a = appended t.page t.numbers.now t.bytes.now zs ys t.end q (t.end * t.page + t.page - t.end * t.page) room t.whole copied (one ∙ sym (ap (λ m. m.page) model)) (omega arith) t.bounded small in
    record {
      positions = a.positions;
      whole = a.whole;
      bounded = a.bounded;
      one_live = subst (OneLivePosition t.count) (sym a.positions) (one_live_appended t.count q ys (positions_of t) below none (one_live_log t));
      model = ap (log_of t.page t.count) a.positions ∙ log_appended t.page t.count q ys (positions_of t) below none;
    }

pub slice_bounds-copy_from_slice-end : goal.slice_bounds-copy_from_slice-end
slice_bounds-copy_from_slice-end c =
    let t = c.make_room.new.self in
    let room = room_left c.args.self.now t c.args.slot c.requires.slot c.requires.gone c.make_room.ensures.positions c.make_room.ensures.count in
    let ends = place_ends t.end (position_count t) t.page room in
    omega (arith, t.whole)

pub overflow_cast-numbers : goal.overflow_cast-numbers
overflow_cast-numbers c =
    let s = c.args.self.now in
    let slot = slot_below s c.args.slot c.requires.slot in
    record { fits = omega (arith, s.few) }

pub invariant_of-self : goal.invariant_of-self
invariant_of-self c =
    let s = c.args.self.now in
    let t = c.make_room.new.self in
    let l = length-set t.numbers.now t.end c.args.slot in
    let room = room_left s t c.args.slot c.requires.slot c.requires.gone c.make_room.ensures.positions c.make_room.ensures.count in
    let w = written s t c.args.slot _ c.args.page.now c.requires.slot c.requires.gone c.requires.size c.make_room.ensures.model room c.copy_from_slice.ensures.after (λ k h. (c.type_inv.page k).fits) in
    record {
      sized = t.sized;
      some = t.some;
      few = t.few;
      room = omega (arith, l, t.room);
      most = omega (arith, l, t.most);
      whole = w.whole;
      used = omega (arith, l, room);
      bounded = w.bounded;
      within = w.one_live.within;
      once = w.one_live.once;
      lean = w.one_live.lean;
    }

pub returns : goal.returns
returns c =
    let s = c.args.self.now in
    let t = c.make_room.new.self in
    let q = c.args.slot in
    let ys = c.args.page.now in
    let room = room_left s t q c.requires.slot c.requires.gone c.make_room.ensures.positions c.make_room.ensures.count in
    let w = written s t q _ ys c.requires.slot c.requires.gone c.requires.size c.make_room.ensures.model room c.copy_from_slice.ensures.after (λ k h. (c.type_inv.page k).fits) in
    record {
      positions = w.positions ∙ ap (λ xs. xs ++ at q ys ∷ []) c.make_room.ensures.positions;
      model = w.model ∙ ap (λ m. with_slot m q (Some ys)) c.make_room.ensures.model;
    }
