use Rattle.std.specs.Prelude.{ℕ, Bool, true, ◌&&◌, [], ◌∷◌, replicate, ◌==◌}
use Rattle.page_store.specs.Stores.{Page}

-- the page of p zeros
abbrev pub zeros : ℕ → Page
zeros p = replicate p 0

-- whether every byte is 0
unfoldable pub is_zeros : Page → Bool
is_zeros [] = true
is_zeros (b ∷ bs) = b == 0 && is_zeros bs
