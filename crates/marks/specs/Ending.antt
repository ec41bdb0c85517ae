-- The end of a robust trace: the cut buffer, and the stores in the least choice.
use Rattle.std.specs.Prelude.{ℕ, zero, suc, ◌+◌, List, set}
use Rattle.area.specs.Cells.{total}
use Rattle.marks.specs.Marks.{count_in}

-- the count of the least choice for place n of the buffer
abbrev pub least_at : List ℕ → ℕ → ℕ
least_at cut n = count_in cut (8 + n)

-- the first n of them in the buffer
unfoldable pub copied : ℕ → List ℕ → List ℕ → List ℕ
copied zero cut out = out
copied (suc n) cut out = set (copied n cut out) n (least_at cut n)

-- all 56 of them, summed
abbrev pub stores_in : List ℕ → ℕ
stores_in cut = total 56 cut 8
