use Rattle.std.proofs.Common.{◌≡◌, ℕ, ◌<◌, map, length, get_or, set, replicate, sym, ap, ◌∙◌, ⊎_elim, arith, length-set}
use Rattle.std.specs.List.{range_with_len}
use Rattle.std.proofs.lemmas.List.FromFn.{length-map-range_with_len, get_or-map-range_with_len}
use Rattle.std.proofs.lemmas.List.{same_lists, get_or-set_same, get_or-set_other, length-replicate, get_or-replicate}
use Rattle.std.proofs.lemmas.Bool.{cases_eq}

-- Lists made from a function of the index, map f (counting 0 n).

-- such a list, where the function changes at one index
pub counted_set : {X : Type 0} (f g : ℕ → X) (n i : ℕ) (x : X) → i < n → g i ≡ x → ((k : ℕ) → k < n → (k ≡ i → ⊥) → g k ≡ f k) → map g (range_with_len 0 n) ≡ set (map f (range_with_len 0 n)) i x
counted_set f g n i x h here other =
    let lf = length-map-range_with_len f 0 n in
    let lg = length-map-range_with_len g 0 n in
    same_lists _ _ (lg ∙ sym (simp length-set lf))
    (λ k d b.
    let kn : k < n = omega arith in
    let il : i < length (map f (range_with_len 0 n)) = omega arith in
    get_or-map-range_with_len g 0 n k k d kn (omega arith) ∙
    ⊎_elim
    (λ e. ap g e ∙ here ∙ sym (ap (λ j. get_or (set (map f (range_with_len 0 n)) i x) j d) e ∙ get_or-set_same _ i x d il))
    (λ ne. other k kn ne ∙ sym (get_or-set_other _ i k x d ne ∙ get_or-map-range_with_len f 0 n k k d kn (omega arith)))
    (cases_eq k i))

-- such a list of one value throughout
pub counted_same : {X : Type 0} (f : ℕ → X) (n : ℕ) (x : X) → ((k : ℕ) → k < n → f k ≡ x) → map f (range_with_len 0 n) ≡ replicate n x
counted_same f n x h =
    let lf = length-map-range_with_len f 0 n in
    let lr = length-replicate n x in
    same_lists _ _ (lf ∙ sym lr)
    (λ k d b.
    let kn : k < n = omega arith in
    get_or-map-range_with_len f 0 n k k d kn (omega arith) ∙ h k kn ∙ sym (get_or-replicate n k x d kn))

-- two such lists with the same elements
pub counted_ext : {X : Type 0} (f g : ℕ → X) (n : ℕ) → ((k : ℕ) → k < n → g k ≡ f k) → map g (range_with_len 0 n) ≡ map f (range_with_len 0 n)
counted_ext f g n h =
    let lf = length-map-range_with_len f 0 n in
    let lg = length-map-range_with_len g 0 n in
    same_lists _ _ (lg ∙ sym lf)
    (λ k d b.
    let kn : k < n = omega arith in
    get_or-map-range_with_len g 0 n k k d kn (omega arith) ∙ h k kn ∙ sym (get_or-map-range_with_len f 0 n k k d kn (omega arith)))
