-- Which events the machine's rules forbid, and in which order: document 01, "When a trace is turned away", refusals 1
-- and 5 to 13; document 02, job 2: "11 also if kind 12's thread has a waiting store, before 9"; job 4: "11 for a signal
-- with waiting stores; 18 for a wait whose source is no earlier signal of the same stretch, after 7"; job 7: "6 lets
-- versions 1 and 2 pass; 12 for open when open, or close when not; 19 for another outcome, before 12", and 3 for these
-- kinds in version 1. Otherwise refusals 2 to 4 are the record layer's; specs/Reading.antt puts them in front.
use Rattle.std.specs.Prelude.{ℕ, ◌<◌, ◌≡◌, Bool, cond, ◌&&◌, ◌||◌, not, eqb, ltb, leb}
use Rattle.record.specs.declared.events.Event.{Event}
use Rattle.record.specs.Fields.{fields_of}
use Rattle.model.specs.Trace.{thread, location, outcome, stretch, new?}
use Rattle.model.specs.Trace.{begin?, issue?, commit?, load?, drained?, crash?, skip_on?, skip_off?, wait?}
use Rattle.model.specs.Trace.{open?, close?}
use Rattle.model.specs.Trace.{has_thread?, has_location?, threads, locations}
use Rattle.model.specs.Machine.{queued, source_fits, signalled, skipping, opened}

-- tests in the order in which they are made, each with the number by which it refuses
pub data Rules : Type 0 where
  pass : Rules
  ◌refuses◌else◌ : Bool → ℕ → Rules → Rules

infixr 1 ◌refuses◌else◌
-- the number of the first test that applies, and 0 if none does
unfoldable pub answer : Rules → ℕ
answer pass = 0
answer (b refuses k else r) = cond b k (answer r)

abbrev pub within : ℕ → ℕ → ℕ → Bool
within a b x = leb a x && leb x b

module _ (ev : ℕ → Event) where
  -- "6 lets versions 1 and 2 pass", "Threads: 1 to 8", "Locations: 1 to 256"
  abbrev pub begin_fits : ℕ → Bool
  begin_fits n =
      let f = fields_of (ev n) in
      within 1 2 f.version && within 1 8 f.threads && within 1 256 f.locations

  -- what turns event n away: "3, wrong length, 1, 5, 13, 6, 7, 8, and the kind's own rule". "Each kind has its own
  -- rule."
  unfoldable pub rules : ℕ → Rules
  rules n =
      -- "later in a version 1 trace they get 3"
      new? ev n refuses 3 else
      -- "no record, or the first is no begin" (no record at all: specs/Reading.antt)
      (eqb n 0 && not (begin? ev n)) refuses 1 else
      -- "later begin"
      (ltb 0 n && begin? ev n) refuses 5 else
      -- "event 2,049, or eighth crash": events are numbered "1, 2 and so on, at most 2,048"; "At most 7 crashes."
      (ltb 2048 n || crash? ev n && eqb (stretch ev n) 8) refuses 13 else
      -- "begin field out of range"
      (begin? ev n && not (begin_fits n)) refuses 6 else
      -- "no such thread": threads are "numbered from 0"
      (has_thread? ev n && leb (threads ev) (thread ev n)) refuses 7 else
      -- "no such location": so are locations
      (has_location? ev n && leb (locations ev) (location ev n)) refuses 8 else
      -- "mfence, queue not empty": "mfence needs an empty queue."; "also if kind 12's thread has a waiting store", and
      -- "for a signal with waiting stores"
      (drained? ev n && queued ev n) refuses 11 else
      -- "source against the load rule"
      (load? ev n && not (source_fits ev n)) refuses 9 else
      -- "commit, empty queue": an event that issues has its own store to commit
      (commit? ev n && not (queued ev n || issue? ev n)) refuses 10 else
      -- "skip already on, or already off"
      (skip_on? ev n && skipping ev n (thread ev n)
      || skip_off? ev n && not (skipping ev n (thread ev n))) refuses 12 else
      -- "a wait whose source is no earlier signal of the same stretch": a wait has no location, so 8 never meets it
      (wait? ev n && not (signalled ev n)) refuses 18 else
      -- "19 for another outcome, before 12"
      (close? ev n && ltb 1 (outcome ev n)) refuses 19 else
      -- "12 for open when open, or close when not"
      (open? ev n && opened ev n (thread ev n) || close? ev n && not (opened ev n (thread ev n))) refuses 12 else
      -- "Flushes and sfence have only their fields checked."
      pass

  -- the number of the refusal that event n meets, and 0 if it passes
  abbrev pub refusal : ℕ → ℕ
  refusal n = answer (rules n)

  -- no rule turns away any of the first N events. N may be 0: document 02, job 6, "a trace with no events"
  pub record Accepted (N : ℕ) : Type 0 where
    pub passes : (n : ℕ) → n < N → refusal n ≡ 0
