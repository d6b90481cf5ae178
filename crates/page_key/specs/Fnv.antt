use Rattle.std.specs.Prelude.{◌≡◌, ℕ, ◌*◌, ◌%◌, ◌^◌, List, [], ◌∷◌, fold, replicate, codes, bit_xor}

-- 64-bit FNV-1a, by Fowler, Noll and Vo.

-- One byte: XOR the value with it, then multiply by the prime, modulo 2^64.
abbrev pub after_byte : ℕ → ℕ → ℕ
after_byte h b = (bit_xor h b * 1099511628211) % (2 ^ 64)

-- the value after all bytes, from the first to the last
abbrev pub after_bytes : ℕ → List ℕ → ℕ
after_bytes h bs = fold after_byte h bs

abbrev pub key_of : List ℕ → ℕ
key_of bs = after_bytes 14695981039346656037 bs

-- The published values for the empty text and for short texts, and those of a page of 64 bytes.
pub record PublishedKeys : Type 0 where
  pub of_nothing : key_of [] ≡ 0xcbf29ce484222325
  pub of_a : key_of (codes "a") ≡ 0xaf63dc4c8601ec8c
  pub of_foobar : key_of (codes "foobar") ≡ 0x85944171f73967e8
  pub of_64_zero_bytes : key_of (replicate 64 0) ≡ 0xb9b23f3a46fd0825
  pub of_4a_4b_and_62_zero_bytes : key_of (0x4a ∷ 0x4b ∷ replicate 62 0) ≡ 0xdbaa0012ac6abdd2
