-- What ties the machine's state, its tables and the work area, before event n, to the definitions: the numbers, what
-- the first n events have passed, each thread's state and what it has seen, the tables of locations, and the rows of
-- stores and signals.
use Rattle.std.specs.Prelude.{ℕ, suc, ◌+◌, ◌-◌, ◌*◌, ◌≤◌, ◌<◌, ◌≡◌, Bool, true, false, List, [], ◌∷◌, ◌≢◌, eqb}
use Rattle.std.specs.Prelude.{length, get_or}
use Rattle.record.specs.declared.events.Event.{Event}
use Rattle.record.specs.Tests.{◌gives◌else◌}
use Rattle.model.specs.Trace.{thread, location, Issue, version, threads, locations, stretch, issues, commits, place}
use Rattle.model.specs.Machine.{skipping, opened, held, past}
use Rattle.model.specs.Rules.{Accepted}
use Rattle.model.specs.Choice.{finished}
use Rattle.model.specs.Clocks.{seen}
use Rattle.model.specs.Stores.{store_at, newest_at, landed}
use Rattle.area.specs.Cells.{get_row}
use Rattle.area.specs.Rows.{Linked, Falls, HeldLinked, Rows}
use Rattle.machine.specs.declared.threads.Thread.{Thread}
use Rattle.machine.specs.Tables.{last_cell, source_cell, commits_cell, newest_cell, stretch_cell}
use Rattle.machine.specs.Threads.{thread_of, of_thread}
use Rattle.machine.specs.declared.regions.Region.{Region}
use Rattle.machine.specs.Regions.{region_of}
use Rattle.machine.specs.Twin.{State, World}

-- there is one
abbrev pub some? : List ℕ → Bool
some? [] = false
some? (l ∷ ls) = true

module _ (ev : ℕ → Event) where
  -- the issues and the commits of thread t in the stretch of event n, before it
  abbrev pub issued : ℕ → ℕ → ℕ
  issued n t = issues ev n (stretch ev n) t

  abbrev pub done : ℕ → ℕ → ℕ
  done n t = commits ev n (stretch ev n) t

  -- event n's row begins behind those of events 1 to n - 1
  pub record Numbers (n : ℕ) (st : State) : Type 0 where
    pub row_is : st.row + 16 ≡ 16 * n
    pub stretch_is : st.stretch ≡ stretch ev n
    pub version_is : st.version ≡ version ev
    pub threads_is : st.threads ≡ threads ev
    pub locations_is : st.locations ≡ locations ev

  -- the first n events are an accepted trace that has begun, and so these limits hold
  pub record Limits (n : ℕ) : Type 0 where
    pub accepted : Accepted ev n
    pub begun : 0 < n
    pub few_threads : threads ev ≤ 8
    pub few_locations : locations ev ≤ 256
    pub few_events : n ≤ 2049
    pub few_crashes : stretch ev n ≤ 8

  -- ---- the tables

  -- the state of thread t; an empty queue's oldest store is 0, as is the newest store before the stretch's first
  pub record Queue (n t : ℕ) (s : Thread) : Type 0 where
    pub issued_is : s.issued ≡ issued n t
    pub committed_is : s.committed ≡ done n t
    pub skip_is : s.skip ≡ skipping ev n t
    pub oldest_is : s.oldest ≡ store_at ev n (stretch ev n) t (done n t)
    pub newest_is : s.newest ≡ store_at ev n (stretch ev n) t (issued n t - 1)

  abbrev pub Queues : ℕ → List ℕ → Type 0
  Queues n tables = (t : ℕ) → t < 8 → Queue n t (thread_of tables t)

  -- what the threads have seen
  abbrev pub Seen : ℕ → List ℕ → Type 0
  Seen n tables = (t u : ℕ) → t < 8 → u < 8 → of_thread tables t u ≡ seen ev n t u

  -- the newest store of each location and thread
  abbrev pub Newest : ℕ → List ℕ → Type 0
  Newest n tables = (x t : ℕ) → x < 256 → t < 8 → get_or tables (newest_cell x t) 0 ≡ newest_at ev n x t

  -- the commits of each finished stretch, and 0 of the others
  abbrev pub Commits : ℕ → List ℕ → Type 0
  Commits n tables = (j t : ℕ) → 1 ≤ j → j ≤ 7 → t < 8 → get_or tables (commits_cell j t) 0 ≡ finished ev n j t

  -- s was a store to location x, committed in an earlier stretch, at an event before n that was at x
  pub record PastAt (n x s : ℕ) : Type 0 where
    pub load : ℕ
    pub early : load < n
    pub at_x : location ev load ≡ x
    pub is_past : past ev load s ≡ true

  -- so is the source noted for each location, if there is one
  abbrev pub Sources : ℕ → List ℕ → Type 0
  Sources n tables =
      (x : ℕ) → x < 256 → get_or tables (source_cell x) 0 ≢ 0 → PastAt n x (get_or tables (source_cell x) 0)

  -- ---- the tables and the rows

  -- the chain of location x begins with the last store committed there, and the stretch of that commit stands beside
  -- it; its stores were committed one before the other, before event n
  pub record Chain (n x : ℕ) (tables l : List ℕ) : Type 0 where
    pub links : Linked l (get_or tables (last_cell x) 0) (landed ev n x)
    pub falls : Falls l (16 * (n - 1)) (landed ev n x)
    pub stretch_is :
        get_or tables (stretch_cell x) 0
        ≡ (eqb (get_or tables (last_cell x) 0) 0 gives 0 else stretch ev (get_or tables (last_cell x) 0))

  abbrev pub Chains : ℕ → List ℕ → List ℕ → Type 0
  Chains n tables l = (x : ℕ) → x < 256 → Chain n x tables l

  -- the links from each store to the next of its thread in its stretch
  abbrev pub Links : ℕ → List ℕ → Type 0
  Links n l =
      (p : ℕ) → p < n → Issue ev p → get_row l p 12 ≡ store_at ev n (stretch ev p) (thread ev p) (suc (place ev p))

  -- the region of thread t: if it is open, the links of the rows from the newest load on spell the loads that it holds
  pub record InRegion (n t : ℕ) (r : Region) (l : List ℕ) : Type 0 where
    pub opened_is : r.opened ≡ opened ev n t
    pub held_are : opened ev n t ≡ true → HeldLinked ev l r.newest (held ev n t)

  abbrev pub Regions : ℕ → List ℕ → List ℕ → Type 0
  Regions n tables l = (t : ℕ) → t < 8 → InRegion n t (region_of tables t) l

  -- THE STATE BEFORE EVENT n
  pub record Sim (n : ℕ) (w : World) : Type 0 where
    pub numbers : Numbers n w.state
    pub limits : Limits n
    pub size : length w.tables ≡ 3008
    pub queues : Queues n w.tables
    pub seen_are : Seen n w.tables
    pub newest_are : Newest n w.tables
    pub commits_are : Commits n w.tables
    pub sources : Sources n w.tables
    pub chains : Chains n w.tables w.work
    pub rows : Rows ev n w.work
    pub links : Links n w.work
    pub regions : Regions n w.tables w.work
