-- What a run over a trace's records has reached: the first n records pass, the machine's state is what they make it,
-- and so are the marks; or the run is over.
use Rattle.std.specs.Prelude.{ℕ, suc, ◌<◌, ◌≡◌, ◌≢◌, List, replicate, length, ◌≤◌, Result, Ok, Err}
use Rattle.record.specs.Answers as records
use Rattle.record.specs.Parts.{start}
use Rattle.model.specs.declared.Verdict.{Verdict}
use Rattle.model.specs.declared.Refusal.{Refusal}
use Rattle.model.specs.Answers.{verdict_answer}
use Rattle.model.specs.Reading.{events, passing, record_at, accepted, turned_away, begun_reading}
use Rattle.model.specs.Reading.{AcceptedWith, TurnedAwayWith}
use Rattle.model.specs.Judge.{reading_answer}
use Rattle.machine.specs.declared.state.Machine.{Machine}
use Rattle.machine.specs.Forbidden as rules
use Rattle.machine.specs.Twin.{World, state_of, world}
use Rattle.machine.specs.Sim.{Sim}
use Rattle.marks.specs.declared.cells.Marks.{Marks}
use Rattle.marks.specs.Marks.{no_marks}
use Rattle.marks.specs.Matching.{MarksMatch}
use Rattle.judge.specs.declared.run.Begun.{Begun}
use Rattle.judge.specs.declared.run.Cursor.{Cursor}
use Rattle.judge.specs.declared.stop.Stop.{Stop}
use Rattle.judge.specs.declared.stop.Stop.TheVariants.{Unread, Forbidden}

-- the number of what ends a run, by the documents' tables of refusals
abbrev pub number_of : Stop → ℕ
number_of (Unread refusal) = records.number_of refusal
number_of (Forbidden rule) = rules.number_of rule

-- the cursor after an accepted begin, which ends at `past`
abbrev pub started_at : ℕ → Cursor
started_at past = record { stretch = 1; row = 0; at = past }

-- the tables before the first event
abbrev pub no_tables : List ℕ
no_tables = replicate 3008 0

module _ (bytes : List ℕ) where
  module _ (b : Begun) where
    -- the machine in stretch j, where the next event's row begins at `row`
    abbrev pub machine_in : ℕ → ℕ → Machine
    machine_in j row =
        record {
          row = row;
          stretch = j;
          version = b.version;
          threads = b.threads;
          locations = b.locations;
        }

    -- the machine's whole state: the stretch, where the next event's row begins, its tables and the work area
    abbrev pub world_of : ℕ → ℕ → List ℕ → List ℕ → World
    world_of j row tables work = world (state_of (machine_in j row)) tables work

    -- before record n, which starts at the cursor's position
    pub record Reached (n : ℕ) (t : Cursor) (tables : List ℕ) (m : Marks) (work : List ℕ) : Type 0 where
      pub position : t.at ≡ start bytes n
      pub all_pass : (e : ℕ) → e < n → record_at bytes e ≡ passing
      pub state : Sim (events bytes) n (world_of t.stretch t.row tables work)
      pub loads : MarksMatch (events bytes) n m

    -- behind all N records
    pub record AllRead (N : ℕ) (tables : List ℕ) (m : Marks) (work : List ℕ) : Type 0 where
      pub accepted : AcceptedWith bytes N
      pub stretch : ℕ
      pub row : ℕ
      pub state : Sim (events bytes) N (world_of stretch row tables work)
      pub loads : MarksMatch (events bytes) N m

    -- the run is over before record n: number 1 where no record is left, which no later record has otherwise, else that
    -- of what turns the record away
    pub record Stopped (n k : ℕ) (tables : List ℕ) (m : Marks) (work : List ℕ) : Type 0 where
      pub all_read : k ≡ 1 → AllRead n tables m work
      pub is_turned_away : k ≢ 1 → TurnedAwayWith bytes k n

    -- after record n, or where there is none
    abbrev pub After : ℕ → Result Cursor Stop → List ℕ → Marks → List ℕ → Type 0
    After n (Ok t) tables m work = Reached (suc n) t tables m work
    After n (Err stop) tables m work = Stopped n (number_of stop) tables m work

  -- after the begin, with any work area
  abbrev pub Began : Result Begun Stop → Type 0
  Began (Ok b) = (work : List ℕ) → 32768 ≤ length work → Reached b 1 (started_at b.at) no_tables no_marks work
  Began (Err stop) = begun_reading bytes ≡ turned_away (number_of stop) 0

  -- at the end: the verdict is the definitions', empty bytes being turned away, and of an accepted trace the work area
  -- has the rows of its stores
  pub record AnswersAsDefined (v : Result Verdict Refusal) (work : List ℕ) : Type 0 where
    pub answer : verdict_answer v ≡ reading_answer bytes (begun_reading bytes)
    pub rows : (N : ℕ) → begun_reading bytes ≡ accepted N → (w : World) × ((w.work ≡ work) × Sim (events bytes) N w)
