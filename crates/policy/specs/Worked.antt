use Rattle.std.specs.Prelude.{◌≡◌, ℕ, Bool, true, false, List, [], ◌∷◌, ◌++◌, map, replicate, Some, None, Option}
use Rattle.policy.specs.declared.row.Row.{Row}
use Rattle.policy.specs.Rows.{absent_row, EightRows}
use Rattle.policy.specs.Funding.{cost_of, funding_choice}
use Rattle.policy.specs.Lru.{lru_choice}

-- rows of guests that are not admitted
abbrev pub absent : ℕ → List Row
absent n = replicate n absent_row

-- an offered row of s shares, r resident and a active pages
abbrev pub funded : ℕ → ℕ → ℕ → Row
funded s r a = record { offered = true; resident = r; active = a; minimum = 0; shares = s; rank = Some 0 }

-- a row of one resident page and one share
abbrev pub placed : Bool → Option ℕ → Row
placed o k = record { offered = o; resident = 1; active = 0; minimum = 0; shares = 1; rank = k }

-- M of tax t charges these rows these costs, and chooses row c.
pub record ByM (t : ℕ) (rows : List Row) (costs : List ℕ) (c : ℕ) : Type 0 where
  pub are_rows : EightRows rows
  pub charged : map (cost_of t) rows ≡ costs
  pub chosen : funding_choice t rows ≡ Some c

-- L answers these rows so.
pub record ByL (rows : List Row) (b : Option ℕ) : Type 0 where
  pub are_rows : EightRows rows
  pub chosen : lru_choice rows ≡ b

pub record WorkedByM : Type 0 where
  pub idle_pages_cost_more : ByM 75 (funded 100 10 10 ∷ funded 100 10 0 ∷ absent 6) (250 ∷ 1000 ∷ replicate 6 0) 1
  pub no_tax : ByM 0 (funded 100 10 10 ∷ funded 100 10 0 ∷ absent 6) (1000 ∷ 1000 ∷ replicate 6 0) 0
  pub equal_ratios : ByM 75 (funded 200 8 4 ∷ funded 100 4 2 ∷ absent 6) (500 ∷ 250 ∷ replicate 6 0) 0
  pub gaps_between : ByM 50 (absent 2 ++ (funded 300 6 3 ∷ absent 2) ++ (funded 100 2 2 ∷ absent 2)) (0 ∷ 0 ∷ 450 ∷ 0 ∷ 0 ∷ 100 ∷ 0 ∷ 0 ∷ []) 2
  pub far_apart : ByM 99 (funded 1 1 1 ∷ funded 100000 256 0 ∷ absent 6) (1 ∷ 25600 ∷ replicate 6 0) 0
  pub tie_of_three : ByM 99 (funded 3 3 3 ∷ funded 1 1 1 ∷ funded 2 2 2 ∷ absent 5) (3 ∷ 1 ∷ 2 ∷ replicate 5 0) 0

pub record WorkedByL : Type 0 where
  pub lower_rank : ByL (placed true (Some 1) ∷ placed true (Some 0) ∷ absent 6) (Some 1)
  pub not_offered : ByL (placed true (Some 2) ∷ placed false (Some 0) ∷ absent 1 ++ (placed true (Some 1) ∷ absent 4)) (Some 3)
  pub equal_ranks : ByL (absent 2 ++ (placed true (Some 4) ∷ absent 3) ++ (placed true (Some 4) ∷ absent 1)) (Some 2)
  pub nobody : ByL (placed false (Some 0) ∷ placed false None ∷ absent 6) None
