-- The marks: the least choice and the lowest forbidden places, 64 numbers each, eight for each stretch, where what would
-- be stretch 0 or 8 shares eight that nobody asks for; of 256 locations the last counted load, by two numbers; the load
-- that breaks the trace; and the flags of 2,048 events, 1 forbidden and 2 observed.
use Rattle.std.specs.Prelude.{ℕ, ◌+◌, ◌*◌, ◌%◌, List, get_or, replicate, Option, None}
use Rattle.marks.specs.declared.cells.Marks.{Marks}

abbrev pub marks_of : List ℕ → List ℕ → List ℕ → List ℕ → Option ℕ → List ℕ → Marks
marks_of cut low last source broken flags =
    record { cut = cut; low = low; last = last; source = source; broken = broken; flags = flags }

-- before the first event
abbrev pub no_marks : Marks
no_marks =
    marks_of (replicate 64 0) (replicate 64 0) (replicate 256 0) (replicate 256 0) None (replicate 2048 0)

-- ---- the places

-- of stretch j, 1 to 7, and thread t: in `cut` the least choice's count; in `low` one more than the lowest place of a
-- forbidden store, 0 if there is none
abbrev pub thread_cell : ℕ → ℕ → ℕ
thread_cell j t = (8 * j + t) % 64

-- of location x, below 256: in `last` the last store committed there before its last counted load; in `source` the
-- source of that load
abbrev pub location_cell : ℕ → ℕ
location_cell x = x % 256

-- the flags of event p, below 2,048; the last event is no store that a load forbids or observes
abbrev pub flag_cell : ℕ → ℕ
flag_cell p = p % 2048

-- ---- what is read there

abbrev pub count_in : List ℕ → ℕ → ℕ
count_in counts i = get_or counts i 0

abbrev pub flag_in : List ℕ → ℕ → ℕ
flag_in flags p = get_or flags (flag_cell p) 0

abbrev pub cut_in : Marks → ℕ → ℕ → ℕ
cut_in m j t = count_in m.cut (thread_cell j t)

abbrev pub low_in : Marks → ℕ → ℕ → ℕ
low_in m j t = count_in m.low (thread_cell j t)

abbrev pub last_in : Marks → ℕ → ℕ
last_in m x = count_in m.last (location_cell x)

abbrev pub source_in : Marks → ℕ → ℕ
source_in m x = count_in m.source (location_cell x)

-- the load that breaks the trace
abbrev pub broken_at : Marks → Option ℕ
broken_at m = m.broken
