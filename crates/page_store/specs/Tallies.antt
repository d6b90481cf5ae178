use Rattle.std.specs.Prelude.{ℕ, ◌+◌, cond, List, [], ◌∷◌, ◌==◌}

-- how often q stands in a list
abbrev pub tally : ℕ → List ℕ → ℕ
tally q [] = 0
tally q (x ∷ xs) = cond (x == q) 1 0 + tally q xs
