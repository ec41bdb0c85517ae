-- Where each of the machine's tables stands in its array of 3,008 numbers.
use Rattle.std.specs.Prelude.{ℕ, ◌+◌, ◌*◌, ◌%◌, List, get_or}
use Rattle.area.specs.Cells.{total}

-- number k of thread t's row, numbers 0 to 127: 0 to 7 what the thread has seen, 8 its oldest waiting store, 9 its
-- newest store of the stretch, 10 its issues and 11 its commits there, 12 whether it is in a skip, 1, and whether it is
-- open, 2, added up, 13 the newest load that it holds
abbrev pub thread_cell : ℕ → ℕ → ℕ
thread_cell t k = 16 * t + k

-- the last store committed at location x: numbers 128 to 383
abbrev pub last_cell : ℕ → ℕ
last_cell x = 128 + x

-- the source of the last crossing load of location x that passed: numbers 384 to 639
abbrev pub source_cell : ℕ → ℕ
source_cell x = 384 + x

-- the commits of thread t in stretch j, 1 to 7, once a crash has finished it: numbers 648 to 703
abbrev pub commits_cell : ℕ → ℕ → ℕ
commits_cell j t = 640 + (8 * j + t) % 64

-- the newest store of thread t at location x: numbers 704 to 2,751
abbrev pub newest_cell : ℕ → ℕ → ℕ
newest_cell x t = 704 + (8 * x + t)

-- the stretch in which the last store of location x was committed: numbers 2,752 to 3,007
abbrev pub stretch_cell : ℕ → ℕ
stretch_cell x = 2752 + x

-- ---- what the judge asks

-- the last store committed at location x, below 256; 0 if there is none
abbrev pub last_in : List ℕ → ℕ → ℕ
last_in tables x = get_or tables (last_cell (x % 256)) 0

-- the newest load that thread t, below 8, holds; 0 if there is none
abbrev pub held_in : List ℕ → ℕ → ℕ
held_in tables t = get_or tables (thread_cell (t % 8) 13) 0

-- the stores committed in all finished stretches
abbrev pub committed_in : List ℕ → ℕ
committed_in tables = total 56 tables 648
