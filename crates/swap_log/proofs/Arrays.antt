use Rattle.std.proofs.Common.{◌≡◌, ℕ, ◌+◌, ◌*◌, ◌<◌, ◌≤◌, cond, List, [], ◌∷◌, ◌++◌, length, get_or, set, Some, None, sym, refl, ap, ◌∙◌, subst, arith}
use borrow.Rule.Slice.PartMut.{put_mid}
use Rattle.std.proofs.lemmas.List.FromFn.{length-map-range_with_len, get_or-map-range_with_len, map-range_with_len_more, filter_of_map_range_with_len_more}
use Rattle.std.proofs.lemmas.List.{get_or-set_same, get_or-set_other, length-set, append-nil}
use Rattle.std.proofs.lemmas.Bool.{eq-eqb, ne_eqb}
use Rattle.page_store.specs.Stores.{Bytes}
use Rattle.page_store.specs.Memory.{page_at, with_page_at}
use Rattle.page_store.proofs.Counts.{counted_set, counted_ext}
use Rattle.page_store.proofs.Pages.{place_ends, page_length, page_here, page_other, with_page_length, written_is, bytes_page, bytes_with_page}
use Rattle.swap_log.specs.Layout.{Position, position_at, positions_in, is_live, live, bearing, slot_in, killed, Found}
use Rattle.swap_log.proofs.Positions.{bearing_none, slot_found, killed_at}

-- The positions that two arrays are.

pub positions_length : (p : ℕ) (ns bs : List ℕ) (e : ℕ) → length (positions_in p ns bs e) ≡ e
unfolding positions_in
positions_length p ns bs e = length-map-range_with_len (position_at p ns bs) 0 e

pub positions_at : (p : ℕ) (ns bs : List ℕ) (e k : ℕ) (d : Position) → k < e → get_or (positions_in p ns bs e) k d ≡ position_at p ns bs k
unfolding positions_in
positions_at p ns bs e k d h = get_or-map-range_with_len (position_at p ns bs) 0 e k k d h (omega arith)

pub positions_none : (p : ℕ) (ns bs : List ℕ) → positions_in p ns bs 0 ≡ []
unfolding positions_in
positions_none p ns bs = refl

pub positions_more : (p : ℕ) (ns bs : List ℕ) (e : ℕ) → positions_in p ns bs (e + 1) ≡ positions_in p ns bs e ++ position_at p ns bs e ∷ []
unfolding positions_in
positions_more p ns bs e = map-range_with_len_more (position_at p ns bs) 0 e e (omega arith)

-- equal positions
pub positions_same : (p : ℕ) (ns ms bs cs : List ℕ) (e : ℕ) → ((k : ℕ) → k < e → position_at p ms cs k ≡ position_at p ns bs k) → positions_in p ms cs e ≡ positions_in p ns bs e
unfolding positions_in
positions_same p ns ms bs cs e h = counted_ext (position_at p ns bs) (position_at p ms cs) e h

-- another number at one position
pub positions_set : (p : ℕ) (ns bs : List ℕ) (e k v : ℕ) → k < e → e ≤ length ns → positions_in p (set ns k v) bs e ≡ set (positions_in p ns bs e) k (record { number = v; page = page_at p bs k })
unfolding positions_in
positions_set p ns bs e k v h used =
    counted_set (position_at p ns bs) (position_at p (set ns k v) bs) e k (record { number = v; page = page_at p bs k }) h
    (ap (λ n. record { number = n; page = page_at p bs k }) (get_or-set_same ns k v 0 (omega arith)))
    (λ j jn ne. ap (λ n. record { number = n; page = page_at p bs j }) (get_or-set_other ns k j v 0 ne))

-- position j, and any other, after a number and a page were written at j
pub written_here : (p : ℕ) (ns bs ys : List ℕ) (j v : ℕ) → j < length ns → j * p + p ≤ length bs → length ys ≡ p → position_at p (set ns j v) (with_page_at p bs j ys) j ≡ record { number = v; page = ys }
written_here p ns bs ys j v h fits one = rw (get_or-set_same ns j v 0 h, page_here p j bs ys fits one)

pub written_other : (p : ℕ) (ns bs ys : List ℕ) (j k v : ℕ) → j * p + p ≤ length bs → length ys ≡ p → (k ≡ j → ⊥) → position_at p (set ns j v) (with_page_at p bs j ys) k ≡ position_at p ns bs k
written_other p ns bs ys j k v fits one ne = rw (get_or-set_other ns j k v 0 ne, page_other p j k bs ys fits one ne)

-- the positions after a number and a page were written at the end
pub positions_written : (p : ℕ) (ns bs ys : List ℕ) (e v : ℕ) → e < length ns → length bs ≡ length ns * p → length ys ≡ p → positions_in p (set ns e v) (with_page_at p bs e ys) (e + 1) ≡ positions_in p ns bs e ++ record { number = v; page = ys } ∷ []
positions_written p ns bs ys e v h whole one =
    let ends = place_ends e (length ns) p h in
    let fits : e * p + p ≤ length bs = omega arith in
    positions_more p (set ns e v) (with_page_at p bs e ys) e
    ∙ ap (λ xs. xs ++ position_at p (set ns e v) (with_page_at p bs e ys) e ∷ [])
    (positions_same p ns (set ns e v) bs (with_page_at p bs e ys) e (λ k l. written_other p ns bs ys e k v fits one (λ z. omega arith)))
    ∙ ap (λ x. positions_in p ns bs e ++ x ∷ []) (written_here p ns bs ys e v h fits one)

-- the same after a copy of ys to the bytes at the end, of which there are k, and that the bytes are still as many and are bytes
pub record Appended (p : ℕ) (ns bs zs ys : List ℕ) (e v k : ℕ) : Type 0 where
  pub positions : positions_in p (set ns e v) (put_mid (e * p) k bs zs) (e + 1) ≡ positions_in p ns bs e ++ record { number = v; page = ys } ∷ []
  pub whole : length (put_mid (e * p) k bs zs) ≡ length (set ns e v) * p
  pub bounded : Bytes (put_mid (e * p) k bs zs)

pub appended : (p : ℕ) (ns bs zs ys : List ℕ) (e v k : ℕ) → e < length ns → length bs ≡ length ns * p → zs ≡ ys → length ys ≡ p → k ≡ p → Bytes bs → Bytes ys → Appended p ns bs zs ys e v k
appended p ns bs zs ys e v k h whole copied one kp bounded small =
    let written = ap (put_mid (e * p) k bs) copied ∙ written_is p e k bs ys kp in
    let ends = place_ends e (length ns) p h in
    record {
      positions = ap (λ cs. positions_in p (set ns e v) cs (e + 1)) written ∙ positions_written p ns bs ys e v h whole one;
      whole = ap length written ∙ with_page_length p e bs ys (omega arith) one ∙ whole ∙ ap (λ n. n * p) (sym (length-set ns e v));
      bounded = subst Bytes (sym written) (bytes_with_page p e bs ys bounded small);
    }

-- Compaction, by its turns: the first i positions of the old arrays (ns, bs) are compacted to the first j of the new ones (ms, cs), and from i on nothing is moved yet.
pub record Squeezed (p : ℕ) (ns bs ms cs : List ℕ) (i j : ℕ) : Type 0 where
  pub shorter : j ≤ i
  pub numbers_length : length ms ≡ length ns
  pub bytes_length : length cs ≡ length bs
  pub front : positions_in p ms cs j ≡ live (positions_in p ns bs i)
  pub bounded : Bytes cs
  pub rest : (k : ℕ) → i ≤ k → position_at p ms cs k ≡ position_at p ns bs k

pub squeeze_none : (p : ℕ) (ns bs : List ℕ) → Bytes bs → Squeezed p ns bs ns bs 0 0
unfolding positions_in live
squeeze_none p ns bs b = record { shorter = omega arith; numbers_length = refl; bytes_length = refl; front = refl; bounded = b; rest = λ k h. refl }

live_more : (p : ℕ) (ns bs : List ℕ) (i : ℕ) → live (positions_in p ns bs (i + 1)) ≡ live (positions_in p ns bs i) ++ cond (is_live (position_at p ns bs i)) (position_at p ns bs i ∷ []) []
unfolding positions_in live
live_more p ns bs i = filter_of_map_range_with_len_more is_live (position_at p ns bs) 0 i i (omega arith)

pub squeeze_dead : (p : ℕ) (ns bs ms cs : List ℕ) (i j : ℕ) → Squeezed p ns bs ms cs i j → get_or ms i 0 ≡ 65535 → Squeezed p ns bs ms cs (i + 1) j
squeeze_dead p ns bs ms cs i j s d =
    let n : get_or ns i 0 ≡ 65535 = sym (ap (λ x. x.number) (s.rest i (omega arith))) ∙ d in
    let none : cond (is_live (position_at p ns bs i)) (position_at p ns bs i ∷ []) [] ≡ [] = rw (eq-eqb (get_or ns i 0) 65535 n) in
    let l = s.shorter in
    record {
      shorter = omega arith;
      numbers_length = s.numbers_length;
      bytes_length = s.bytes_length;
      front = s.front ∙ sym (live_more p ns bs i ∙ ap (λ ys. live (positions_in p ns bs i) ++ ys) none ∙ append-nil (live (positions_in p ns bs i)));
      bounded = s.bounded;
      rest = λ k h. s.rest k (omega arith);
    }

pub squeeze_live : (p : ℕ) (ns bs ms cs : List ℕ) (i j : ℕ) → Squeezed p ns bs ms cs i j → i < length ns → length bs ≡ length ns * p → (get_or ms i 0 ≡ 65535 → ⊥) → Squeezed p ns bs (set ms j (get_or ms i 0)) (with_page_at p cs j (page_at p cs i)) (i + 1) (j + 1)
squeeze_live p ns bs ms cs i j s h whole d =
    let l = s.shorter in
    let nl = s.numbers_length in
    let bl = s.bytes_length in
    let ends = place_ends j (length ns) p (omega arith) in
    let fits : j * p + p ≤ length cs = omega arith in
    let one = page_length i (length ns) p cs h (bl ∙ whole) in
    let old : position_at p ms cs i ≡ position_at p ns bs i = s.rest i (omega arith) in
    let n : get_or ns i 0 ≡ 65535 → ⊥ = λ e. d (ap (λ x. x.number) old ∙ e) in
    let kept : cond (is_live (position_at p ns bs i)) (position_at p ns bs i ∷ []) [] ≡ position_at p ns bs i ∷ [] = rw (ne_eqb (get_or ns i 0) 65535 n) in
    record {
      shorter = omega arith;
      numbers_length = length-set ms j (get_or ms i 0) ∙ nl;
      bytes_length = with_page_length p j cs (page_at p cs i) fits one ∙ bl;
      front =
          positions_written p ms cs (page_at p cs i) j (get_or ms i 0) (omega arith) (bl ∙ whole ∙ ap (λ z. z * p) (sym nl)) one
          ∙ ap (λ x. positions_in p ms cs j ++ x ∷ []) old
          ∙ ap (λ xs. xs ++ position_at p ns bs i ∷ []) s.front
          ∙ sym (live_more p ns bs i ∙ ap (λ ys. live (positions_in p ns bs i) ++ ys) kept);
      bounded = bytes_with_page p j cs (page_at p cs i) s.bounded (bytes_page p i cs s.bounded);
      rest = λ k g. written_other p ms cs (page_at p cs i) j k (get_or ms i 0) fits one (λ z. omega arith) ∙ s.rest k (omega arith);
    }

-- What the position that was found tells.

nowhere : Position
nowhere = record { number = 0; page = [] }

pub found_none : (p : ℕ) (ns bs : List ℕ) (e q : ℕ) → Found ns e q None → bearing q (positions_in p ns bs e) ≡ 0
found_none p ns bs e q none =
    let l = positions_length p ns bs e in
    bearing_none q (positions_in p ns bs e) nowhere
    (λ k h t. let lt : k < e = omega arith in none k lt (sym (ap (λ x. x.number) (positions_at p ns bs e k nowhere lt)) ∙ t))

pub found_slot : (p : ℕ) (ns bs : List ℕ) (e q k : ℕ) → Found ns e q (Some k) → bearing q (positions_in p ns bs e) ≤ 1 → slot_in (positions_in p ns bs e) q ≡ Some (page_at p bs k)
found_slot p ns bs e q k f once =
    let l = positions_length p ns bs e in
    let is = positions_at p ns bs e k nowhere f.0 in
    slot_found q k (positions_in p ns bs e) nowhere (let lt = f.0 in omega arith) (ap (λ x. x.number) is ∙ f.1) once ∙ ap (λ x. Some x.page) is

pub found_killed : (p : ℕ) (ns bs : List ℕ) (e q k : ℕ) → e ≤ length ns → Found ns e q (Some k) → bearing q (positions_in p ns bs e) ≤ 1 → positions_in p (set ns k 65535) bs e ≡ killed q (positions_in p ns bs e)
found_killed p ns bs e q k used f once =
    let l = positions_length p ns bs e in
    let is = positions_at p ns bs e k nowhere f.0 in
    positions_set p ns bs e k 65535 f.0 used
    ∙ ap (λ x. set (positions_in p ns bs e) k (record { number = 65535; page = x.page })) (sym is)
    ∙ killed_at q k (positions_in p ns bs e) nowhere (let lt = f.0 in omega arith) (ap (λ x. x.number) is ∙ f.1) once
