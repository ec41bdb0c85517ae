-- A trace is a numbering of events: `ev e` is event number e. How many there are, N, is said apart, so that the records
-- 0 to e are the trace with e + 1 records, and nothing about an event changes with what comes later.
-- Here: what an event says, the roles that it plays, stretches, and counting. Document 01, "The trace" and "Rules of
-- the machine"; document 02, job 2: "Wherever issues, commits or loads are named", kind 12 "is meant too"; job 4: "Kind
-- 13 (signal [..]) and kind 14 (wait [..]) join the rules."; job 7: "Version 2 of the begin record admits kind 15 (open
-- [..]) and kind 16 (close [..])".
use Rattle.std.specs.Prelude.{ℕ, zero, suc, ◌+◌, ◌/◌, ◌≡◌, Bool, true, not, ◌&&◌, ◌||◌, List, get_or, eqb, ltb}
use Rattle.record.specs.declared.events.Event.{Event}
use Rattle.record.specs.declared.events.Event.TheVariants.{Crash}
use Rattle.record.specs.Events.{kind_of}
use Rattle.record.specs.Fields.{fields_of, thread_in, location_in}
use Rattle.record.specs.Table.{row_of}
use Rattle.record.specs.Versions.{known_in}
use Rattle.model.specs.Search.{bit}

-- a list of events as a trace. What it gives past the list's end is in no trace of the list's length, and no ruling
-- depends on it: `exact_same` of proofs/Prefixes.antt
abbrev pub trace_of : List Event → ℕ → Event
trace_of es e = get_or es e Crash

module _ (ev : ℕ → Event) where
  -- ---- what event e says: its kind, and its fields, 0 where its kind has no such field

  abbrev pub kind : ℕ → ℕ
  kind e = kind_of (ev e)

  abbrev pub thread : ℕ → ℕ
  thread e = (fields_of (ev e)).thread

  abbrev pub location : ℕ → ℕ
  location e = (fields_of (ev e)).location

  abbrev pub source : ℕ → ℕ
  source e = (fields_of (ev e)).source

  -- of a close
  abbrev pub outcome : ℕ → ℕ
  outcome e = (fields_of (ev e)).outcome

  -- "location ÷ 8 without remainder is its 64-byte cache line": the line of event e's location
  abbrev pub line : ℕ → ℕ
  line e = location e / 8

  -- its kind has a thread, a location: the table of kinds
  abbrev pub has_thread? : ℕ → Bool
  has_thread? e = not (eqb (thread_in (row_of (kind e))) 0)

  abbrev pub has_location? : ℕ → Bool
  has_location? e = not (eqb (location_in (row_of (kind e))) 0)

  -- "version", "threads n, locations m" of the begin record, event 0
  abbrev pub version : ℕ
  version = (fields_of (ev 0)).version

  abbrev pub threads : ℕ
  threads = (fields_of (ev 0)).threads

  abbrev pub locations : ℕ
  locations = (fields_of (ev 0)).locations

  -- the trace's version does not know its kind: "Read alone, or as a trace's first record, the two kinds are known;
  -- later in a version 1 trace they get 3"
  abbrev pub new? : ℕ → Bool
  new? e = not (known_in version (kind e)) && ltb 0 e

  -- ---- the roles that an event plays, as tests and as facts. A locked operation, kind 12, "is a load, issue and
  -- commit with nothing between"

  abbrev pub is : ℕ → ℕ → Bool
  is k e = eqb (kind e) k

  -- "A store is named by its issue's event number", and a locked operation's "event number names its store"
  abbrev pub issue? : ℕ → Bool
  issue? e = is 2 e || is 12 e

  abbrev pub commit? : ℕ → Bool
  commit? e = is 3 e || is 12 e

  abbrev pub load? : ℕ → Bool
  load? e = is 4 e || is 12 e

  abbrev pub crash? : ℕ → Bool
  crash? e = is 9 e

  abbrev pub begin? : ℕ → Bool
  begin? e = is 1 e

  abbrev pub signal? : ℕ → Bool
  signal? e = is 13 e

  abbrev pub wait? : ℕ → Bool
  wait? e = is 14 e

  -- it needs an empty queue: an mfence, a locked operation; "Signals are written when visible, so the queue is empty by
  -- then."
  abbrev pub drained? : ℕ → Bool
  drained? e = is 8 e || is 12 e || signal? e

  abbrev pub skip_on? : ℕ → Bool
  skip_on? e = is 10 e

  abbrev pub skip_off? : ℕ → Bool
  skip_off? e = is 11 e

  abbrev pub open? : ℕ → Bool
  open? e = is 15 e

  abbrev pub close? : ℕ → Bool
  close? e = is 16 e

  pub record Issue (e : ℕ) : Type 0 where
    pub test : issue? e ≡ true

  pub record Commit (e : ℕ) : Type 0 where
    pub test : commit? e ≡ true

  pub record Load (e : ℕ) : Type 0 where
    pub test : load? e ≡ true

  pub record Signal (e : ℕ) : Type 0 where
    pub test : signal? e ≡ true

  pub record Wait (e : ℕ) : Type 0 where
    pub test : wait? e ≡ true

  -- ---- stretches and counts

  -- "A stretch is the part between crashes, numbered from 1": the stretch in which event e stands
  unfoldable pub stretch : ℕ → ℕ
  stretch zero = 1
  stretch (suc e) = stretch e + bit (crash? e)

  -- how many events of thread t in stretch j, among the first n, pass the test f. "The trace starts with empty queues"
  -- and "no commits"
  unfoldable pub count : (ℕ → Bool) → ℕ → ℕ → ℕ → ℕ
  count f zero j t = 0
  count f (suc n) j t = count f n j t + bit (f n && eqb (stretch n) j && eqb (thread n) t)

  -- "a crash [..] starts counts afresh": the stores issued, and committed, by thread t in stretch j
  abbrev pub issues : ℕ → ℕ → ℕ → ℕ
  issues n j t = count issue? n j t

  abbrev pub commits : ℕ → ℕ → ℕ → ℕ
  commits n j t = count commit? n j t

  -- the place of store p: how many stores of its thread in its stretch come before it
  abbrev pub place : ℕ → ℕ
  place p = issues p (stretch p) (thread p)
