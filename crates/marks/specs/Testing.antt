-- The test for broken, and the searches for the evidence, by the rows of stores, l. A pair is a forbidden store in the
-- cut: missing is the smallest such store, observed the smallest observed store that is it or happens after it. While
-- there is none, a load makes one with a store that it forbids, or with one of the stretch whose cut its source raises:
-- the test looks there.
use Rattle.std.specs.Prelude.{ℕ, zero, suc, ◌+◌, ◌%◌, Bool, false, cond, ◌&&◌, ◌||◌, not, List, eqb, leb}
use Rattle.model.specs.Search.{some, first}
use Rattle.area.specs.Cells.{get_row, covers_w}
use Rattle.marks.specs.declared.cells.Marks.{Marks}
use Rattle.marks.specs.Marks.{thread_cell, count_in, flag_in}
use Rattle.marks.specs.Marking.{own_in, cell_of, loaded}

-- ---- the test for broken

-- store p is in the cut
abbrev pub in_cut : List ℕ → List ℕ → ℕ → Bool
in_cut l cut p = leb (own_in l p) (count_in cut (cell_of l p))

-- one of the stores that `walked` makes forbidden is in the cut
unfoldable pub walk_hits : ℕ → List ℕ → List ℕ → ℕ → ℕ → Bool
walk_hits zero l cut h s = false
walk_hits (suc n) l cut h s =
    cond (eqb h 0) false
    (cond (eqb h s) false (in_cut l cut h || walk_hits n l cut (get_row l h 14) s))

-- `low` is one more than a lowest forbidden place that is in the cut
abbrev pub hit : ℕ → ℕ → Bool
hit low cut = not (eqb low 0) && leb low cut

-- a forbidden store of stretch j is in the cut, of whichever thread
unfoldable pub hits : Marks → ℕ → Bool
hits m j = some 8 (λ t. hit (count_in m.low (thread_cell j 0 + t)) (count_in m.cut (thread_cell j 0 + t)))

-- with a counted load from s of the location whose chain begins with h there is a pair, if there was none
unfoldable pub load_hits : List ℕ → Marks → ℕ → ℕ → Bool
load_hits l m h s =
    walk_hits 2048 l m.cut h s || (not (eqb s 0) && hits (loaded l m h s) (get_row l s 10))

-- ---- the searches for the evidence

-- the flags 1 and 2, read
abbrev pub is_forbidden : ℕ → Bool
is_forbidden f = not (eqb (f % 2) 0)

abbrev pub is_observed : ℕ → Bool
is_observed f = leb 2 f

-- store p is forbidden and in the cut
abbrev pub missing_in : List ℕ → Marks → ℕ → Bool
missing_in l m p = is_forbidden (flag_in m.flags p) && in_cut l m.cut p

-- store q is observed, and is m or happens after it
abbrev pub observed_in : List ℕ → List ℕ → ℕ → ℕ → Bool
observed_in l flags m q = is_observed (flag_in flags q) && covers_w l m q

-- over the events below n, and n if there is none
unfoldable pub missing_by : List ℕ → Marks → ℕ → ℕ
missing_by l m n = first n (missing_in l m)

unfoldable pub observed_by : List ℕ → List ℕ → ℕ → ℕ → ℕ
observed_by l flags n m = first n (observed_in l flags m)
