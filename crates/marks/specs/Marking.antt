-- What a counted load does to the marks, by the rows of stores, l. Every store on its location's chain after its source
-- becomes forbidden: its flag 1, and the lowest forbidden place of its stretch and thread. Then the source becomes
-- observed: its flag 2, and the cut of its stretch is raised to its clock, so that the cut is the closure of what is
-- observed.
use Rattle.std.specs.Prelude.{ℕ, zero, suc, ◌+◌, ◌*◌, ◌/◌, cond, List, eqb, ltb, set}
use Rattle.area.specs.Cells.{get_row, joined}
use Rattle.marks.specs.declared.cells.Marks.{Marks}
use Rattle.marks.specs.Marks.{marks_of, thread_cell, flag_cell, count_in, flag_in}

-- ---- flags and the lowest places

-- flags with 1, forbidden
abbrev pub forbid : ℕ → ℕ
forbid f = f / 2 * 2 + 1

-- flags with 2, observed
abbrev pub observe : ℕ → ℕ
observe f = cond (ltb f 2) (f + 2) f

-- the lower of two numbers that are one more than a place, where 0 is none
abbrev pub lower : ℕ → ℕ → ℕ
lower old new = cond (eqb old 0) new (cond (ltb new old) new old)

-- ---- forbidding

-- one more than store p's place: its clock, of its own thread
abbrev pub own_in : List ℕ → ℕ → ℕ
own_in l p = get_row l p (get_row l p 8)

-- where the numbers of p's stretch and thread stand
abbrev pub cell_of : List ℕ → ℕ → ℕ
cell_of l p = thread_cell (get_row l p 10) (get_row l p 8)

-- store p becomes forbidden
unfoldable pub marked : List ℕ → Marks → ℕ → Marks
marked l m p =
    marks_of m.cut (set m.low (cell_of l p) (lower (count_in m.low (cell_of l p)) (own_in l p))) m.last m.source
    m.broken (set m.flags (flag_cell p) (forbid (flag_in m.flags p)))

-- the stores of the chain from h on become forbidden, up to store s, for at most n stores
unfoldable pub walked : ℕ → List ℕ → Marks → ℕ → ℕ → Marks
walked zero l m h s = m
walked (suc n) l m h s = cond (eqb h 0) m (cond (eqb h s) m (walked n l (marked l m h) (get_row l h 14) s))

-- ---- observing

-- store s, of stretch j, becomes observed: its flag, and the cut of its stretch
unfoldable pub seen_from : List ℕ → Marks → ℕ → ℕ → Marks
seen_from l m s j =
    marks_of (joined 8 l s (thread_cell j 0) m.cut) m.low m.last m.source m.broken
    (set m.flags (flag_cell s) (observe (flag_in m.flags s)))

-- ---- a counted load from s of the location whose chain begins with h

unfoldable pub loaded : List ℕ → Marks → ℕ → ℕ → Marks
loaded l m h s =
    let v = walked 2048 l m h s in
    cond (eqb s 0) v (seen_from l v s (get_row l s 10))
