use Rattle.std.proofs.Common.{◌≡◌, ℕ, zero, suc, ◌+◌, ◌<◌, ◌≤◌, Bool, true, false, cond, eqb, List, [], ◌∷◌, ◌++◌, map, length, get_or, set, Some, None, sym, refl, ap, ◌∙◌, ⊎_elim, arith}
use Rattle.std.proofs.lemmas.List.FromFn.{length-map-range_with_len, get_or-map-range_with_len}
use Rattle.std.proofs.lemmas.List.Elements.{filter-append}
use Rattle.std.proofs.lemmas.List.{length-map, map-append}
use Rattle.std.proofs.lemmas.Bool.{cases_eq, eq-eqb, ne_eqb}
use Rattle.page_store.specs.Stores.{Page, size_of, slot_of, with_slot}
use Rattle.page_store.specs.Tallies.{tally}
use Rattle.page_store.proofs.Counts.{counted_set, counted_ext}
use Rattle.page_store.proofs.Pigeons.{tally-append, pigeonhole, pigeonhole_less}
use Rattle.swap_log.specs.Layout.{Position, is_live, live, bearing, Within, Once, OneLivePosition, slot_in, slots_in, log_of, killed, with_room}

-- Lists of positions: how many bear a number, and what the slots hold.

abbrev pub at : ℕ → Page → Position
at q page = record { number = q; page = page }

-- How many bear a number.

pub bearing_here : (q : ℕ) (x : Position) (xs : List Position) → x.number ≡ q → bearing q (x ∷ xs) ≡ 1 + bearing q xs
unfolding bearing
bearing_here q x xs e = rw (eq-eqb x.number q e)

pub bearing_there : (q : ℕ) (x : Position) (xs : List Position) → (x.number ≡ q → ⊥) → bearing q (x ∷ xs) ≡ bearing q xs
unfolding bearing
bearing_there q x xs ne = rw (ne_eqb x.number q ne) (omega arith)

pub bearing_nil : (q : ℕ) → bearing q [] ≡ 0
unfolding bearing
bearing_nil q = refl

pub bearing-append : (q : ℕ) (xs ys : List Position) → bearing q (xs ++ ys) ≡ bearing q xs + bearing q ys
unfolding bearing
bearing-append q xs ys = ap (tally q) (map-append (λ x. x.number) xs ys) ∙ tally-append q (map (λ x. x.number) xs) (map (λ x. x.number) ys)

pub bearing_hit : (q k : ℕ) (xs : List Position) (d : Position) → k < length xs → (get_or xs k d).number ≡ q → 1 ≤ bearing q xs
bearing_hit q k [] d h e = absurd (omega arith)
bearing_hit q zero (x ∷ xs) d h e = let z = bearing_here q x xs e in omega arith
bearing_hit q (suc k) (x ∷ xs) d h e =
    let r = bearing_hit q k xs d (omega arith) e in
    ⊎_elim (λ (t : x.number ≡ q). let z = bearing_here q x xs t in omega arith) (λ (t : x.number ≡ q → ⊥). let z = bearing_there q x xs t in omega arith) (cases_eq x.number q)

pub bearing_none : (q : ℕ) (xs : List Position) (d : Position) → ((k : ℕ) → k < length xs → (get_or xs k d).number ≡ q → ⊥) → bearing q xs ≡ 0
unfolding bearing
bearing_none q [] d h = refl
bearing_none q (x ∷ xs) d h =
    bearing_there q x xs (h 0 (omega arith)) ∙ bearing_none q xs d (λ k l e. h (suc k) (omega arith) e)

-- What a slot holds.

pub slot_none : (q : ℕ) (xs : List Position) → bearing q xs ≡ 0 → slot_in xs q ≡ None
slot_none q [] h = refl
slot_none q (x ∷ xs) h =
    ⊎_elim
    (λ (t : x.number ≡ q). let z = bearing_here q x xs t in absurd (omega arith))
    (λ (t : x.number ≡ q → ⊥). rw (ne_eqb x.number q t) (slot_none q xs (sym (bearing_there q x xs t) ∙ h)))
    (cases_eq x.number q)

pub none_bears : (q : ℕ) (xs : List Position) → slot_in xs q ≡ None → bearing q xs ≡ 0
unfolding bearing
none_bears q [] h = refl
none_bears q (x ∷ xs) h =
    ⊎_elim
    (λ (t : x.number ≡ q).
    let e : slot_in (x ∷ xs) q ≡ Some x.page = rw (eq-eqb x.number q t) in
    let z : ◌≡◌ {A = ℕ} 0 1 = cc in
    absurd (omega arith))
    (λ (t : x.number ≡ q → ⊥).
    let e : slot_in (x ∷ xs) q ≡ slot_in xs q = rw (ne_eqb x.number q t) in
    bearing_there q x xs t ∙ none_bears q xs (sym e ∙ h))
    (cases_eq x.number q)

-- the page at the one position that bears the number
pub slot_found : (q k : ℕ) (xs : List Position) (d : Position) → k < length xs → (get_or xs k d).number ≡ q → bearing q xs ≤ 1 → slot_in xs q ≡ Some (get_or xs k d).page
slot_found q k [] d h e o = absurd (omega arith)
slot_found q zero (x ∷ xs) d h e o = rw (eq-eqb x.number q e)
slot_found q (suc k) (x ∷ xs) d h e o =
    let r = bearing_hit q k xs d (omega arith) e in
    let ne : x.number ≡ q → ⊥ = λ t. let z = bearing_here q x xs t in omega arith in
    let z = bearing_there q x xs ne in
    rw (ne_eqb x.number q ne) (slot_found q k xs d (omega arith) e (omega arith))

-- Dead positions.

pub killed_bears_none : (q : ℕ) (xs : List Position) → (q ≡ 65535 → ⊥) → bearing q (killed q xs) ≡ 0
unfolding bearing killed
killed_bears_none q [] ne = refl
killed_bears_none q (x ∷ xs) ne =
    let r = killed_bears_none q xs ne in
    ⊎_elim
    (λ (t : x.number ≡ q). rw (eq-eqb x.number q t, ne_eqb 65535 q (λ e. ne (sym e))) (omega arith))
    (λ (t : x.number ≡ q → ⊥). rw (ne_eqb x.number q t) (rw (ne_eqb x.number q t) (omega arith)))
    (cases_eq x.number q)

pub killed_bears_others : (q r : ℕ) (xs : List Position) → (r ≡ q → ⊥) → (r ≡ 65535 → ⊥) → bearing r (killed q xs) ≡ bearing r xs
unfolding bearing killed
killed_bears_others q r [] ne l = refl
killed_bears_others q r (x ∷ xs) ne l =
    let i = killed_bears_others q r xs ne l in
    ⊎_elim
    (λ (t : x.number ≡ q). let f : x.number ≡ r → ⊥ = λ z. ne (sym z ∙ t) in rw (eq-eqb x.number q t, ne_eqb 65535 r (λ e. l (sym e)), ne_eqb x.number r f) (omega arith))
    (λ (t : x.number ≡ q → ⊥). rw (ne_eqb x.number q t) (omega arith))
    (cases_eq x.number q)

pub killed_slot_others : (q r : ℕ) (xs : List Position) → (r ≡ q → ⊥) → (r ≡ 65535 → ⊥) → slot_in (killed q xs) r ≡ slot_in xs r
unfolding killed
killed_slot_others q r [] ne l = refl
killed_slot_others q r (x ∷ xs) ne l =
    let i = killed_slot_others q r xs ne l in
    ⊎_elim
    (λ (t : x.number ≡ q). let f : x.number ≡ r → ⊥ = λ z. ne (sym z ∙ t) in rw (eq-eqb x.number q t, ne_eqb 65535 r (λ e. l (sym e)), ne_eqb x.number r f) i)
    (λ (t : x.number ≡ q → ⊥). rw (ne_eqb x.number q t, i))
    (cases_eq x.number q)

pub killed_same : (q : ℕ) (xs : List Position) → bearing q xs ≡ 0 → killed q xs ≡ xs
unfolding killed
killed_same q [] h = refl
killed_same q (x ∷ xs) h =
    ⊎_elim
    (λ (t : x.number ≡ q). let z = bearing_here q x xs t in absurd (omega arith))
    (λ (t : x.number ≡ q → ⊥). rw (ne_eqb x.number q t) (ap (λ ys. x ∷ ys) (killed_same q xs (sym (bearing_there q x xs t) ∙ h))))
    (cases_eq x.number q)

-- the one position that bears the number, made dead
pub killed_at : (q k : ℕ) (xs : List Position) (d : Position) → k < length xs → (get_or xs k d).number ≡ q → bearing q xs ≤ 1 → set xs k (at 65535 (get_or xs k d).page) ≡ killed q xs
unfolding killed
killed_at q k [] d h e o = absurd (omega arith)
killed_at q zero (x ∷ xs) d h e o =
    let z = bearing_here q x xs e in
    rw (eq-eqb x.number q e) (ap (λ ys. record { number = 65535; page = x.page } ∷ ys) (sym (killed_same q xs (omega arith))))
killed_at q (suc k) (x ∷ xs) d h e o =
    let r = bearing_hit q k xs d (omega arith) e in
    let ne : x.number ≡ q → ⊥ = λ t. let z = bearing_here q x xs t in omega arith in
    let z = bearing_there q x xs ne in
    rw (ne_eqb x.number q ne) (ap (λ ys. x ∷ ys) (killed_at q k xs d (omega arith) e (omega arith)))

-- Compaction.

pub live_bears : (q : ℕ) (xs : List Position) → (q ≡ 65535 → ⊥) → bearing q (live xs) ≡ bearing q xs
unfolding bearing live
live_bears q [] l = refl
live_bears q (x ∷ xs) l =
    let i = live_bears q xs l in
    ⊎_elim
    (λ (t : x.number ≡ 65535). let f : x.number ≡ q → ⊥ = λ z. l (sym z ∙ t) in rw (eq-eqb x.number 65535 t, ne_eqb x.number q f) (omega arith))
    (λ (t : x.number ≡ 65535 → ⊥). rw (ne_eqb x.number 65535 t) (omega arith))
    (cases_eq x.number 65535)

pub live_bears_no_dead : (xs : List Position) → bearing 65535 (live xs) ≡ 0
unfolding bearing live
live_bears_no_dead [] = refl
live_bears_no_dead (x ∷ xs) =
    let i = live_bears_no_dead xs in
    ⊎_elim
    (λ (t : x.number ≡ 65535). rw (eq-eqb x.number 65535 t) i)
    (λ (t : x.number ≡ 65535 → ⊥). rw (ne_eqb x.number 65535 t) (rw (ne_eqb x.number 65535 t) (omega arith)))
    (cases_eq x.number 65535)

pub live_slot : (q : ℕ) (xs : List Position) → (q ≡ 65535 → ⊥) → slot_in (live xs) q ≡ slot_in xs q
unfolding live
live_slot q [] l = refl
live_slot q (x ∷ xs) l =
    let i = live_slot q xs l in
    ⊎_elim
    (λ (t : x.number ≡ 65535). let f : x.number ≡ q → ⊥ = λ z. l (sym z ∙ t) in rw (eq-eqb x.number 65535 t, ne_eqb x.number q f) i)
    (λ (t : x.number ≡ 65535 → ⊥). rw (ne_eqb x.number 65535 t) (ap (λ o. cond (eqb x.number q) (Some x.page) o) i))
    (cases_eq x.number 65535)

live-one : (q : ℕ) (page : Page) → (q ≡ 65535 → ⊥) → live (at q page ∷ []) ≡ at q page ∷ []
unfolding live
live-one q page d = rw (ne_eqb q 65535 d)

pub live-append : (xs ys : List Position) → live (xs ++ ys) ≡ live xs ++ live ys
unfolding live
live-append xs ys = filter-append is_live xs ys

pub live_twice : (xs : List Position) → live (live xs) ≡ live xs
unfolding live
live_twice [] = refl
live_twice (x ∷ xs) =
    let i = live_twice xs in
    ⊎_elim
    (λ (t : x.number ≡ 65535). rw (eq-eqb x.number 65535 t) i)
    (λ (t : x.number ≡ 65535 → ⊥). rw (ne_eqb x.number 65535 t) (rw (ne_eqb x.number 65535 t) (ap (λ ys. x ∷ ys) i)))
    (cases_eq x.number 65535)

-- the live positions, in their order, after a pair was written behind those that are left
pub live_order : (l q : ℕ) (page : Page) (xs : List Position) → (q ≡ 65535 → ⊥) → live (with_room l xs ++ at q page ∷ []) ≡ live xs ++ at q page ∷ []
live_order l q page xs d =
    live-append (with_room l xs) (at q page ∷ []) ∙ ap (λ ys. ys ++ live (at q page ∷ [])) (room (eqb (length xs) l)) ∙ ap (λ ys. live xs ++ ys) last
  where
    room : (b : Bool) → live (cond b (live xs) xs) ≡ live xs
    room true = live_twice xs
    room false = refl

    last : live (at q page ∷ []) ≡ at q page ∷ []
    last = live-one q page d

-- A new pair at the end.

pub end_slot : (q : ℕ) (page : Page) (xs : List Position) → bearing q xs ≡ 0 → slot_in (xs ++ at q page ∷ []) q ≡ Some page
end_slot q page [] h = rw (eq-eqb q q refl)
end_slot q page (x ∷ xs) h =
    ⊎_elim
    (λ (t : x.number ≡ q). let z = bearing_here q x xs t in absurd (omega arith))
    (λ (t : x.number ≡ q → ⊥). rw (ne_eqb x.number q t) (end_slot q page xs (sym (bearing_there q x xs t) ∙ h)))
    (cases_eq x.number q)

pub end_slot_others : (q r : ℕ) (page : Page) (xs : List Position) → (r ≡ q → ⊥) → slot_in (xs ++ at q page ∷ []) r ≡ slot_in xs r
end_slot_others q r page [] ne = rw (ne_eqb q r (λ e. ne (sym e)))
end_slot_others q r page (x ∷ xs) ne = ap (λ o. cond (eqb x.number r) (Some x.page) o) (end_slot_others q r page xs ne)

-- The stores that they are.

pub log_killed : (p n q : ℕ) (xs : List Position) → n ≤ 2048 → q < n → log_of p n (killed q xs) ≡ with_slot (log_of p n xs) q None
unfolding slots_in
log_killed p n q xs few h =
    ap (λ sl. record { page = p; slots = sl })
    (counted_set (slot_in xs) (slot_in (killed q xs)) n q None h
    (slot_none q (killed q xs) (killed_bears_none q xs (λ e. omega arith)))
    (λ k kn ne. killed_slot_others q k xs ne (λ e. omega arith)))

pub log_live : (p n : ℕ) (xs : List Position) → n ≤ 2048 → log_of p n (live xs) ≡ log_of p n xs
unfolding slots_in
log_live p n xs few = ap (λ sl. record { page = p; slots = sl }) (counted_ext (slot_in xs) (slot_in (live xs)) n (λ k kn. live_slot k xs (λ e. omega arith)))

pub log_appended : (p n q : ℕ) (page : Page) (xs : List Position) → q < n → bearing q xs ≡ 0 → log_of p n (xs ++ at q page ∷ []) ≡ with_slot (log_of p n xs) q (Some page)
unfolding slots_in
log_appended p n q page xs h none =
    ap (λ sl. record { page = p; slots = sl })
    (counted_set (slot_in xs) (slot_in (xs ++ at q page ∷ [])) n q (Some page) h (end_slot q page xs none) (λ k kn ne. end_slot_others q k page xs ne))

-- How many are live.

-- the numbers of the live positions are below n, and none stands twice
below : (n : ℕ) (xs : List Position) → Within n xs → (q : ℕ) → n ≤ q → bearing q (live xs) ≡ 0
below n xs within q h =
    ⊎_elim (λ (e : q ≡ 65535). ap (λ k. bearing k (live xs)) e ∙ live_bears_no_dead xs) (λ (e : q ≡ 65535 → ⊥). live_bears q xs e ∙ within q h e) (cases_eq q 65535)

apart : (xs : List Position) → Once xs → (q : ℕ) → bearing q (live xs) ≤ 1
apart xs once q =
    ⊎_elim
    (λ (e : q ≡ 65535). let z = ap (λ k. bearing k (live xs)) e ∙ live_bears_no_dead xs in omega arith)
    (λ (e : q ≡ 65535 → ⊥). let z = live_bears q xs e in let o = once q e in omega arith)
    (cases_eq q 65535)

pub few_live : (n : ℕ) (xs : List Position) → Within n xs → Once xs → length (live xs) ≤ n
unfolding bearing
few_live n xs within once =
    let r : length (map (λ (x : Position). x.number) (live xs)) ≤ n = pigeonhole n (map (λ x. x.number) (live xs)) (below n xs within) (apart xs once) in
    let l = length-map (live xs) (λ x. x.number) in
    omega arith

pub fewer_live : (n q : ℕ) (xs : List Position) → n ≤ 2048 → q < n → bearing q xs ≡ 0 → Within n xs → Once xs → length (live xs) < n
unfolding bearing
fewer_live n q xs few h none within once =
    let r : length (map (λ (x : Position). x.number) (live xs)) < n =
    pigeonhole_less n q (map (λ x. x.number) (live xs)) h (live_bears q xs (λ e. omega arith) ∙ none) (below n xs within) (apart xs once) in
    let l = length-map (live xs) (λ x. x.number) in
    omega arith

-- At most one live position a slot: what keeps it so.

pub one_live : (n : ℕ) (xs : List Position) → Within n xs → Once xs → OneLivePosition n xs
one_live n xs within once = record { once = once; within = within; lean = few_live n xs within once }

pub one_live_none : (n : ℕ) → OneLivePosition n []
one_live_none n = one_live n [] (λ k l d. bearing_nil k) (λ k d. let z = bearing_nil k in omega arith)

pub one_live_killed : (n q : ℕ) (xs : List Position) → q < n → OneLivePosition n xs → OneLivePosition n (killed q xs)
one_live_killed n q xs h v =
    one_live n (killed q xs)
    (λ k l d. killed_bears_others q k xs (λ e. omega arith) d ∙ v.within k l d)
    (λ k d.
    ⊎_elim
    (λ (e : k ≡ q). let z = ap (λ j. bearing j (killed q xs)) e ∙ killed_bears_none q xs (λ f. d (e ∙ f)) in omega arith)
    (λ (e : k ≡ q → ⊥). let z = killed_bears_others q k xs e d in let o = v.once k d in omega arith)
    (cases_eq k q))

pub one_live_compacted : (n : ℕ) (xs : List Position) → OneLivePosition n xs → OneLivePosition n (live xs)
one_live_compacted n xs v =
    one_live n (live xs)
    (λ k l d. live_bears k xs d ∙ v.within k l d)
    (λ k d. let z = live_bears k xs d in let o = v.once k d in omega arith)

end_bears : (k q : ℕ) (page : Page) (xs : List Position) → (k ≡ q → ⊥) → bearing k (xs ++ at q page ∷ []) ≡ bearing k xs
end_bears k q page xs ne =
    let a = bearing-append k xs (at q page ∷ []) in
    let b = bearing_there k (at q page) [] (λ e. ne (sym e)) in
    let z = bearing_nil k in
    omega arith

pub one_live_appended : (n q : ℕ) (page : Page) (xs : List Position) → q < n → bearing q xs ≡ 0 → OneLivePosition n xs → OneLivePosition n (xs ++ at q page ∷ [])
one_live_appended n q page xs h none v =
    one_live n (xs ++ at q page ∷ [])
    (λ k l d. end_bears k q page xs (λ e. omega arith) ∙ v.within k l d)
    (λ k d.
    ⊎_elim
    (λ (e : k ≡ q).
    let m : bearing k xs ≡ 0 = ap (λ j. bearing j xs) e ∙ none in
    let a = bearing-append k xs (at q page ∷ []) in
    let b = bearing_here k (at q page) [] (sym e) in
    let z = bearing_nil k in
    omega arith)
    (λ (e : k ≡ q → ⊥). let z = end_bears k q page xs e in let o = v.once k d in omega arith)
    (cases_eq k q))

-- what the store says of a slot
pub log_slot : (p n q : ℕ) (xs : List Position) → q < n → slot_of (log_of p n xs) q ≡ slot_in xs q
unfolding slots_in
log_slot p n q xs h = get_or-map-range_with_len (slot_in xs) 0 n q q None h (omega arith)

pub log_size : (p n : ℕ) (xs : List Position) → size_of (log_of p n xs) ≡ n
unfolding slots_in
log_size p n xs = length-map-range_with_len (slot_in xs) 0 n
