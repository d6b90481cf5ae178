use Rattle.std.specs.Prelude.{ℕ, ◌+◌, ◌*◌, List, ◌++◌, take, drop}
use Rattle.page_store.specs.Stores.{Page}

-- Pages of p bytes one after another in memory: page i lies at byte i × p.
unfoldable pub page_at : ℕ → List ℕ → ℕ → Page
page_at p bytes i = take p (drop (i * p) bytes)

-- the memory with that page at place i: what lies before the place, the page, and what lies after the place
unfoldable pub with_page_at : ℕ → List ℕ → ℕ → Page → List ℕ
with_page_at p bytes i page = take (i * p) bytes ++ (page ++ drop (i * p + p) bytes)
