-- A path's steps, the lowest first.
use Rattle.std.proofs.Common.{◌≡◌, ◌<◌, ℕ, true, false, List, [], ◌∷◌, ◌++◌, length, ap, ◌∙◌, refl, subst, arith}
use Rattle.std.specs.Prelude.{reverse}
use Rattle.std.proofs.lemmas.List.{reverse-append, length-reverse}
use Rattle.arrayvec.specs.ArrayVec.{ArrayVec, array_vec_len}
use Rattle.ordered_map.specs.declared.path.Step.{Step}
use Rattle.ordered_map.specs.Path.{upward}

pub upward_more : (short long : ArrayVec Step) {step : Step} → long.items ≡ short.items ++ step ∷ [] → upward long ≡ step ∷ upward short
upward_more short long {step} e = ap reverse e ∙ reverse-append short.items (step ∷ [])

none_left : (steps : List Step) → (0 < length steps → false ≡ true) → reverse steps ≡ []
none_left [] h = refl
none_left (step ∷ steps) h = let e = h (omega arith) in cc

pub upward_none : (path : ArrayVec Step) → (0 < array_vec_len path → false ≡ true) → upward path ≡ []
upward_none path = none_left path.items

pub upward_room : (path : ArrayVec Step) {n : ℕ} → length (upward path) < n → array_vec_len path < n
upward_room path {n} = subst (λ l. l < n) (length-reverse path.items)
