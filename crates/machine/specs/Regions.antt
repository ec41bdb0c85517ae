-- A thread's region under a checksum in its row of the tables, and what the methods of it compute.
use Rattle.std.specs.Prelude.{ℕ, ◌+◌, ◌%◌, Bool, true, false, List, eqb, leb}
use Rattle.record.specs.Tests.{◌gives◌else◌}
use Rattle.machine.specs.declared.regions.Region.{Region}
use Rattle.machine.specs.Threads.{of_thread, put_thread}

-- an open: nothing is held yet
unfoldable pub began_r : Region → Region
began_r r = record { opened = true; newest = 0 }

-- load e is held
unfoldable pub held_r : Region → ℕ → Region
held_r r e = record { opened = r.opened; newest = e }

-- a close
unfoldable pub ended_r : Region → Region
ended_r r = record { opened = false; newest = r.newest }

-- a region as a stretch starts: a crash "drops them", and "ends the open state"
abbrev pub closed : Region
closed = record { opened = false; newest = 0 }

abbrev pub crashed_r : Region → Region
crashed_r r = closed

-- thread t's region; of column 12 it has the open state
unfoldable pub region_of : List ℕ → ℕ → Region
region_of tables t =
    record { opened = leb 2 (of_thread tables t 12); newest = of_thread tables t 13 }

-- thread t is in no skip and not open
abbrev pub plain_in : List ℕ → ℕ → Bool
plain_in tables t = eqb (of_thread tables t 12) 0

-- column 12 with another open state
abbrev pub open_set : ℕ → Bool → ℕ
open_set c opened = opened gives c % 2 + 2 else c % 2

-- the tables with region r of thread t
unfoldable pub put_region : List ℕ → ℕ → Region → List ℕ
put_region tables t r =
    put_thread (put_thread tables t 12 (open_set (of_thread tables t 12) r.opened)) t 13 r.newest

-- with what a held load changes, or a crash, which has ended the open state already
unfoldable pub put_held : List ℕ → ℕ → Region → List ℕ
put_held tables t r = put_thread tables t 13 r.newest
