-- Judging the loads that count as of an event: one load of location x from s, whose chain begins with h; or at a close
-- the held loads that the links of column 15 lead to. A load that repeats the one noted at its location, with no commit
-- there since and with its source, changes nothing, so it does not walk again. Where no load is noted there is 0: a
-- load of a location without commits, from 0, has nothing to mark. Behind the event that breaks the trace none is
-- judged.
use Rattle.std.specs.Prelude.{ℕ, zero, suc, Bool, cond, ◌&&◌, ◌||◌, not, List, eqb, ltb, set, Some, is_some}
use Rattle.model.specs.Search.{some}
use Rattle.area.specs.Cells.{get_row, committed_at}
use Rattle.marks.specs.declared.cells.Marks.{Marks}
use Rattle.marks.specs.Marks.{marks_of, location_cell, last_in, source_in}
use Rattle.marks.specs.Marking.{loaded}
use Rattle.marks.specs.Testing.{hits, load_hits}

-- ---- what is noted, and what is recorded

-- the load noted at location x has the last store h and the source s
abbrev pub repeated : Marks → ℕ → ℕ → ℕ → Bool
repeated m h x s = eqb (last_in m x) h && eqb (source_in m x) s

-- that load is noted
abbrev pub noted : Marks → ℕ → ℕ → ℕ → Marks
noted m h x s =
    marks_of m.cut m.low (set m.last (location_cell x) h) (set m.source (location_cell x) s) m.broken m.flags

-- event e is recorded if it breaks the trace
abbrev pub with_breaking : ℕ → Bool → Marks → Marks
with_breaking e breaks m = cond breaks (marks_of m.cut m.low m.last m.source (Some e) m.flags) m

-- ---- a load that counts as of its own event

-- its chain is walked from the head, and it is noted
abbrev pub walked_over : List ℕ → Marks → ℕ → ℕ → ℕ → Marks
walked_over l m h x s = noted (loaded l m h s) h x s

-- the marks after event e, which is that load
unfoldable pub judged : List ℕ → Marks → ℕ → ℕ → ℕ → ℕ → Marks
judged l m h x s e =
    cond (repeated m h x s) m
    (cond (is_some m.broken) m (with_breaking e (load_hits l m h s) (walked_over l m h x s)))

-- ---- the loads that a close counts

-- store s was committed before store d; 0 stands behind all
abbrev pub older_in : List ℕ → ℕ → ℕ → Bool
older_in l s d = not (eqb d 0) && (eqb s 0 || ltb (committed_at l s) (committed_at l d))

-- where a load's walk starts: at the head, unless the load noted there found the same chain; then at the noted source,
-- where walks ended so far, if its own source is older; else at its own source, so that nothing is walked
abbrev pub start_of : List ℕ → Marks → ℕ → ℕ → ℕ → ℕ
start_of l m h x s =
    let d = source_in m x in
    cond (eqb (last_in m x) h) (cond (older_in l s d) d s) h

-- the source to note: its own; or the noted one, if the load noted there found the same chain and it is not newer
abbrev pub deepest_of : List ℕ → Marks → ℕ → ℕ → ℕ → ℕ
deepest_of l m h x s =
    let d = source_in m x in
    cond (eqb (last_in m x) h) (cond (older_in l s d) s d) s

-- a held load is noted with the source `back`, and its chain is walked from `first` on
abbrev pub walked_from : List ℕ → Marks → ℕ → ℕ → ℕ → ℕ → ℕ → Marks
walked_from l m first h x s back = loaded l (noted m h x back) first s

-- the marks after a held load
abbrev pub held_from : List ℕ → Marks → ℕ → ℕ → ℕ → Marks
held_from l m h x s =
    cond (repeated m h x s) m (walked_from l m (start_of l m h x s) h x s (deepest_of l m h x s))

-- the row of held load k has the head of its chain, its location and its source
abbrev pub held_at : List ℕ → Marks → ℕ → Marks
held_at l m k = held_from l m (get_row l k 14) (get_row l k 9) (get_row l k 13)

-- the held loads from k on, at most n: the row of each has the load held before it
unfoldable pub all_held : ℕ → List ℕ → Marks → ℕ → Marks
all_held zero l m k = m
all_held (suc n) l m k = cond (eqb k 0) m (all_held n l (held_at l m k) (get_row l k 15))

-- there is a pair: a forbidden store is in the cut, of one of the stretches 1 to 7
unfoldable pub pair_in : Marks → Bool
pair_in m = some 7 (λ i. hits m (suc i))

-- the marks after event e, as of which the held loads from k on count
unfoldable pub judged_held : List ℕ → Marks → ℕ → ℕ → Marks
judged_held l m k e =
    cond (is_some m.broken) m (with_breaking e (pair_in (all_held 2048 l m k)) (all_held 2048 l m k))
