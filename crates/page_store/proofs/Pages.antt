use Rattle.std.proofs.Common.{◌≡◌, ℕ, suc, ◌+◌, ◌*◌, ◌<◌, ◌≤◌, ◌⊎◌, List, ◌++◌, length, get_or, take, drop, sym, ap, ◌∙◌, inl, inr, ⊎_elim, suc-mul, arith}
use borrow.Rule.Slice.PartMut.{put_mid}
use Rattle.std.specs.List.{AllByRecursion}
use Rattle.std.proofs.lemmas.Nat.{mul-le}
use Rattle.std.proofs.ByRecursion.{All-get_or, All-from_get_or, All-append, All-take, All-drop}
use Rattle.std.proofs.lemmas.List.{drop-drop, drop-take, drop_at, take_at, length-append, get_or-take, get_or-drop, length-drop, length-take-le}
use Rattle.std.proofs.lemmas.Slice.{take-put_mid_below, drop-put_mid}
use Rattle.std.proofs.lemmas.Bool.{cases_order}
use Rattle.page_store.specs.Stores.{Bytes}
use Rattle.page_store.specs.Memory.{page_at, with_page_at}

-- Pages one after another in memory.

-- the place of page i ends where n pages end, or before
pub place_ends : (i n p : ℕ) → i < n → i * p + p ≤ n * p
place_ends i n p h =
    let e : suc i * p ≤ n * p = mul-le (suc i) p n p (omega arith) (omega arith) in
    let e2 : suc i * p ≡ i * p + p = suc-mul i p in
    omega arith

-- a page that lies within the bytes is p bytes long
pub page_length_within : (i p : ℕ) (bs : List ℕ) → i * p + p ≤ length bs → length (page_at p bs i) ≡ p
unfolding page_at
page_length_within i p bs h = let d = length-drop (i * p) bs in length-take-le p (drop (i * p) bs) (omega arith)

pub page_length : (i n p : ℕ) (bs : List ℕ) → i < n → length bs ≡ n * p → length (page_at p bs i) ≡ p
page_length i n p bs h l = let e = place_ends i n p h in page_length_within i p bs (omega arith)

-- byte j of page i
pub page_byte : (p i j : ℕ) (bs : List ℕ) → j < p → get_or (page_at p bs i) j 0 ≡ get_or bs (i * p + j) 0
unfolding page_at
page_byte p i j bs h = get_or-take p (drop (i * p) bs) j 0 h ∙ get_or-drop (i * p) bs j 0

-- what a write to the bytes of place i leaves
pub written_is : (p i k : ℕ) (bs ys : List ℕ) → k ≡ p → put_mid (i * p) k bs ys ≡ with_page_at p bs i ys
unfolding with_page_at
written_is p i k bs ys kp =
    ap (λ rest. take (i * p) bs ++ (ys ++ rest)) (drop-drop k (i * p) bs ∙ ap (λ n. drop (i * p + n) bs) kp)

-- p bytes that end before what was written, or begin after it, are as they were
apart : (a b p k : ℕ) (bs ys : List ℕ) → length ys ≡ k → b + k ≤ length bs → (a + p ≤ b) ⊎ (b + k ≤ a) → take p (drop a (put_mid b k bs ys)) ≡ take p (drop a bs)
apart a b p k bs ys ly lb w =
    let bl : b ≤ length bs = omega arith in
    ⊎_elim
    (λ h. sym (drop-take a p (put_mid b k bs ys)) ∙ ap (drop a) (take-put_mid_below b k bs ys (a + p) h bl) ∙ drop-take a p bs)
    (λ h. ap (take p) (drop-put_mid b k bs ys a h bl ly))
    w

-- place i, after ys was written there
pub page_here : (p i : ℕ) (bs ys : List ℕ) → i * p + p ≤ length bs → length ys ≡ p → page_at p (with_page_at p bs i ys) i ≡ ys
unfolding page_at with_page_at
page_here p i bs ys h ly =
    ap (take p) (drop_at (take (i * p) bs) _ (i * p) (length-take-le (i * p) bs (omega arith))) ∙ take_at ys _ p ly

pub with_page_length : (p i : ℕ) (bs ys : List ℕ) → i * p + p ≤ length bs → length ys ≡ p → length (with_page_at p bs i ys) ≡ length bs
unfolding with_page_at
with_page_length p i bs ys h ly =
    let t = length-take-le (i * p) bs (omega arith) in
    let d = length-drop (i * p + p) bs in
    length-append (take (i * p) bs) _ ∙ ap (λ n. length (take (i * p) bs) + n) (length-append ys _) ∙ (omega arith)

-- any other place
pub page_other : (p i j : ℕ) (bs ys : List ℕ) → i * p + p ≤ length bs → length ys ≡ p → (j ≡ i → ⊥) → page_at p (with_page_at p bs i ys) j ≡ page_at p bs j
unfolding page_at
page_other p i j bs ys h ly ne =
    ap (λ zs. page_at p zs j) (sym (written_is p i p bs ys (omega arith))) ∙
    apart (j * p) (i * p) p p bs ys ly h
    (⊎_elim (λ q. absurd (ne q)) (⊎_elim (λ q. inl (place_ends j i p q)) (λ q. inr (let z = place_ends i j p q in omega arith))) (cases_order j i))

-- Lists of bytes.

byte_list : (bs : List ℕ) → Bytes bs → AllByRecursion (λ b. b < 256) bs
byte_list bs h = All-from_get_or (λ b. b < 256) bs 0 h

list_bytes : (bs : List ℕ) → AllByRecursion (λ b. b < 256) bs → Bytes bs
list_bytes bs h k l = All-get_or (λ b. b < 256) bs k 0 l h

pub bytes_take : (n : ℕ) (bs : List ℕ) → Bytes bs → Bytes (take n bs)
bytes_take n bs h = list_bytes (take n bs) (All-take (λ b. b < 256) n bs (byte_list bs h))

pub bytes_drop : (n : ℕ) (bs : List ℕ) → Bytes bs → Bytes (drop n bs)
bytes_drop n bs h = list_bytes (drop n bs) (All-drop (λ b. b < 256) n bs (byte_list bs h))

pub bytes_append : (bs cs : List ℕ) → Bytes bs → Bytes cs → Bytes (bs ++ cs)
bytes_append bs cs h g = list_bytes (bs ++ cs) (All-append (λ b. b < 256) bs cs (byte_list bs h) (byte_list cs g))

pub bytes_page : (p i : ℕ) (bs : List ℕ) → Bytes bs → Bytes (page_at p bs i)
unfolding page_at
bytes_page p i bs h = bytes_take p (drop (i * p) bs) (bytes_drop (i * p) bs h)

pub bytes_with_page : (p i : ℕ) (bs ys : List ℕ) → Bytes bs → Bytes ys → Bytes (with_page_at p bs i ys)
unfolding with_page_at
bytes_with_page p i bs ys h g =
    bytes_append (take (i * p) bs) _ (bytes_take (i * p) bs h) (bytes_append ys _ g (bytes_drop (i * p + p) bs h))
