-- The machine's state, its tables and the work area together, and the searches of the load rule and of the rule of
-- waits in them, as total functions.
use Rattle.std.specs.Prelude.{ℕ, ◌+◌, ◌*◌, Bool, true, false, ◌&&◌, not, List, get_or, set, eqb, leb, ltb}
use Rattle.record.specs.Tests.{◌gives◌else◌}
use Rattle.area.specs.Cells.{get_row, up}
use Rattle.machine.specs.declared.threads.Thread.{Thread}
use Rattle.machine.specs.declared.state.Machine.{Machine}
use Rattle.machine.specs.Tables.{last_cell, source_cell, commits_cell, newest_cell, stretch_cell}
use Rattle.machine.specs.Threads.{thread_of}
use Rattle.machine.specs.declared.regions.Region.{Region}
use Rattle.machine.specs.Regions.{region_of}

-- the state before an event: where its row begins, its stretch, and what the begin said
pub record State : Type 0 where
  pub row : ℕ
  pub stretch : ℕ
  pub version : ℕ
  pub threads : ℕ
  pub locations : ℕ

pub record World : Type 0 where
  pub state : State
  pub tables : List ℕ
  pub work : List ℕ

abbrev pub state_of : Machine → State
state_of m =
    record {
      row = m.row;
      stretch = m.stretch;
      version = m.version;
      threads = m.threads;
      locations = m.locations;
    }

abbrev pub world : State → List ℕ → List ℕ → World
world st tables l = record { state = st; tables = tables; work = l }

-- ---- the state

abbrev pub thread_at : World → ℕ → Thread
thread_at w t = thread_of w.tables t

abbrev pub region_at : World → ℕ → Region
region_at w t = region_of w.tables t

-- after an accepted begin
abbrev pub begun : ℕ → ℕ → ℕ → Machine
begun version threads locations =
    record { row = 0; stretch = 1; version = version; threads = threads; locations = locations }

abbrev pub started : ℕ → ℕ → ℕ → State
started version threads locations = state_of (begun version threads locations)

-- before the next event
unfoldable pub ticked : State → State
ticked st =
    record {
      row = st.row + 16;
      stretch = st.stretch;
      version = st.version;
      threads = st.threads;
      locations = st.locations;
    }

-- in the stretch after this one
abbrev pub next_stretch : Machine → Machine
next_stretch m =
    record {
      row = m.row;
      stretch = up m.stretch;
      version = m.version;
      threads = m.threads;
      locations = m.locations;
    }

-- before the next event after a crash
unfoldable pub crashed : State → State
crashed st =
    record {
      row = st.row + 16;
      stretch = up st.stretch;
      version = st.version;
      threads = st.threads;
      locations = st.locations;
    }

-- ---- the load rule: j is the stretch, `row` where the load's row begins, l the work area

-- the newest store of thread t at location x, if the thread has a waiting store and the oldest came no later; else 0
unfoldable pub waiting_in : List ℕ → ℕ → ℕ → ℕ
waiting_in tables t x =
    let p = get_or tables (newest_cell x t) 0 in
    let o = (thread_of tables t).oldest in
    eqb o 0 gives 0 else (leb o p gives p else 0)

-- the last store committed at location x is of the stretch
abbrev pub here_in : ℕ → List ℕ → ℕ → Bool
here_in j tables x = eqb (get_or tables (stretch_cell x) 0) j

-- s is a store to location x, committed in an earlier stretch
unfoldable pub past_in : ℕ → List ℕ → List ℕ → ℕ → ℕ → Bool
past_in j tables l x s =
    let i = get_row l s 10 in
    let t = get_row l s 8 in
    eqb i 0 gives false else
    leb j i gives false else
    eqb (get_row l s 9) x gives leb (get_row l s t) (get_or tables (commits_cell i t) 0) else
    false

-- a crossing load at location x may have source s: none, or an earlier event that is such a store
unfoldable pub across_in : ℕ → ℕ → List ℕ → List ℕ → ℕ → ℕ → Bool
across_in j row tables l x s = eqb s 0 gives true else ltb row (16 * s) gives false else past_in j tables l x s

-- it may: s is the source that is noted, or fits
unfoldable pub admits : ℕ → ℕ → List ℕ → List ℕ → ℕ → ℕ → Bool
admits j row tables l x s = eqb s (get_or tables (source_cell x) 0) gives true else across_in j row tables l x s

-- and is noted then
unfoldable pub admitted : ℕ → ℕ → List ℕ → List ℕ → ℕ → ℕ → List ℕ
admitted j row tables l x s = admits j row tables l x s gives set tables (source_cell x) s else tables

-- ---- waits

-- the source of a wait whose row begins at `row` is an earlier signal of the stretch j
unfoldable pub signalled_in : ℕ → ℕ → List ℕ → ℕ → Bool
signalled_in j row l s = eqb s 0 gives false else ltb row (16 * s) gives false else eqb (get_row l s 11) j

-- ---- of a world

abbrev pub signalled_w : World → ℕ → Bool
signalled_w w s = signalled_in w.state.stretch w.state.row w.work s

abbrev pub waiting_w : World → ℕ → ℕ → ℕ
waiting_w w t x = waiting_in w.tables t x

abbrev pub last_w : World → ℕ → ℕ
last_w w x = get_or w.tables (last_cell x) 0

abbrev pub here_w : World → ℕ → Bool
here_w w x = here_in w.state.stretch w.tables x

-- a load by thread t at location x is crossing: no store waits there, and none of the stretch is committed
abbrev pub crossing_w : World → ℕ → ℕ → Bool
crossing_w w t x = eqb (waiting_w w t x) 0 && not (here_w w x)

abbrev pub admits_w : World → ℕ → ℕ → Bool
admits_w w x s = admits w.state.stretch w.state.row w.tables w.work x s

-- a load by thread t at location x may have source s
unfoldable pub fits_w : World → ℕ → ℕ → ℕ → Bool
fits_w w t x s =
    eqb (waiting_w w t x) 0 gives
    (here_w w x gives eqb s (last_w w x) else admits_w w x s) else
    eqb s (waiting_w w t x)
