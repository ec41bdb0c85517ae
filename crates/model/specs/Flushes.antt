-- A trace with flush records taken out. Demand 2: "in an accepted trace flush records never move a verdict, apart from
-- shifting event numbers". Here is what that says, and in proofs/FlushNeutral.antt that it holds: the answer to the
-- whole trace is the answer to the trace without them, `shifted`. What carries rulings, answers and events over by
-- their numbers serves specs/Locked.antt too.
-- In order: shifted event numbers; records taken out; flushes; sfences.
use Rattle.std.specs.Prelude.{ℕ, zero, suc, ◌+◌, ◌-◌, ◌≡◌, Bool, true, cond, ◌||◌, List, [], ◌∷◌, map, length, eqb}
use Rattle.record.specs.declared.events.Event.{Event}
use Rattle.record.specs.declared.events.Fields.{Fields}
use Rattle.record.specs.Events.{kind_of}
use Rattle.record.specs.Fields.{event_of, fields_of}
use Rattle.model.specs.Trace.{trace_of}
use Rattle.model.specs.Choice.{Ruling, robust, broken}
use Rattle.model.specs.Windows.{Places, none, between}
use Rattle.model.specs.Answers as answers
use Rattle.model.specs.Judge.{judge_of, cut_after}

-- ---- "apart from shifting event numbers"

-- a ruling with its event numbers carried over, those of loads by f and those of stores by g. The choice stays, and so
-- the cut.
abbrev pub carry_by : (ℕ → ℕ) → (ℕ → ℕ) → Ruling → Ruling
carry_by f g (robust c) = robust c
carry_by f g (broken load missing observed) = broken (f load) (g missing) (g observed)

-- from the ruling of the trace without the records to that of the whole trace: each event by its number there, given
-- by f
abbrev pub carry : (ℕ → ℕ) → Ruling → Ruling
carry f = carry_by f f

-- a thread's window: its last place is an event; its first place is one behind an event, the missing store or the load
-- or wait that brings it to the thread, and so it is in the whole trace
abbrev pub shifted_places : (ℕ → ℕ) → Places → Places
shifted_places f none = none
shifted_places f (between first last) = between (suc (f (first - 1))) (f last)

-- a broken answer's kind: it stays, and so does the primary thread; the windows are shifted
abbrev pub shifted_fault : (ℕ → ℕ) → answers.Fault → answers.Fault
shifted_fault f answers.contradiction = answers.contradiction
shifted_fault f (answers.flush primary windows) = answers.flush primary (map (shifted_places f) windows)
shifted_fault f answers.impossible = answers.impossible

-- an answer carried over to a trace that has n records more: its loads by f, its stores by g and its kind by h. The
-- share stays, and so does a refusal, which an accepted trace only gets for its buffers
abbrev pub shifted_by : (ℕ → ℕ) → (ℕ → ℕ) → (answers.Fault → answers.Fault) → ℕ → answers.Answer → answers.Answer
shifted_by f g h n (answers.refused k e) = answers.refused k e
shifted_by f g h n (answers.robust events share) = answers.robust (events + n) share
shifted_by f g h n (answers.broken events load missing observed kind) =
    answers.broken (events + n) (f load) (g missing) (g observed) (h kind)

-- from the answer to the trace without the records to that to the whole trace, which has n records more
abbrev pub shifted : (ℕ → ℕ) → ℕ → answers.Answer → answers.Answer
shifted f n = shifted_by f f (shifted_fault f) n

-- the verdict on the bytes `whole` is that on the bytes `short`, apart from event numbers, whatever buffers are lent:
-- event e of the short trace is event f e of the whole one, which has n records more
pub record SameVerdict (f : ℕ → ℕ) (n : ℕ) (whole short : List ℕ) : Type 0 where
  pub answer : (work cut : ℕ) → judge_of whole work cut ≡ shifted f n (judge_of short work cut)
  pub cut_buffer : (work : ℕ) (cut : List ℕ) → cut_after whole work cut ≡ cut_after short work cut

-- ---- records taken out

-- `out?` names the records that are taken out by their numbers; past the end of the trace nothing is taken out. The
-- WHOLE trace has all the records, the SHORT one those that stay, numbered afresh. An example, record 1 taken out:
--
--   number in the whole trace   0 begin   1 clwb   2 issue   3 commit   4 load from 2
--   number in the short trace   0 begin            1 issue   2 commit   3 load from 1
--
--   kept, whole to short        0 to 0    1 to 1   2 to 1    3 to 2     4 to 3
--   number, short to whole      0 to 0             1 to 2    2 to 3     3 to 4
--
-- `example_kept`, `example_number` and `example_without` of proofs/Taking.antt compute it.

-- what is taken out behind the first record
abbrev pub later : (ℕ → Bool) → ℕ → Bool
later out? n = out? (suc n)

-- from the whole trace to the short one: how many of the first n records stay; of a record that stays, its number there
unfoldable pub kept : (ℕ → Bool) → List Event → ℕ → ℕ
kept out? [] n = n
kept out? (e ∷ es) zero = 0
kept out? (e ∷ es) (suc n) = cond (out? 0) (kept (later out?) es n) (suc (kept (later out?) es n))

-- from the short trace to the whole one: the number there of the record that is number n here
unfoldable pub number : (ℕ → Bool) → List Event → ℕ → ℕ
number out? [] n = n
number out? (e ∷ es) zero = cond (out? 0) (suc (number (later out?) es 0)) 0
number out? (e ∷ es) (suc n) = suc (number (later out?) es (cond (out? 0) (suc n) n))

-- fields with the source renumbered by f
abbrev pub resourced : (ℕ → ℕ) → Fields → Fields
resourced f fields =
    record {
      thread = fields.thread;
      location = fields.location;
      source = f fields.source;
      version = fields.version;
      threads = fields.threads;
      locations = fields.locations;
      outcome = fields.outcome;
    }

-- the event with its source renumbered by f, if its kind has one: so it is the same event of another trace
unfoldable pub moved : (ℕ → ℕ) → Event → Event
moved f e = event_of (kind_of e) (resourced f (fields_of e))

-- from the whole trace to the events that stay, their sources renumbered by f
unfoldable pub staying : (ℕ → Bool) → (ℕ → ℕ) → List Event → List Event
staying out? f [] = []
staying out? f (e ∷ es) = cond (out? 0) (staying (later out?) f es) (moved f e ∷ staying (later out?) f es)

-- from the whole trace to the short one
abbrev pub without : (ℕ → Bool) → List Event → List Event
without out? es = staying out? (kept out? es) es

-- how many records are taken out of the whole trace
abbrev pub taken : (ℕ → Bool) → List Event → ℕ
taken out? es = length es - length (without out? es)

-- one record, by its number
abbrev pub only : ℕ → ℕ → Bool
only k n = eqb n k

-- each record that is taken out passes a test
pub record TakesOnly (passes? : Event → Bool) (out? : ℕ → Bool) (es : List Event) : Type 0 where
  pub passes : (n : ℕ) → out? n ≡ true → passes? (trace_of es n) ≡ true

-- ---- flushes: kind 5, clflush, and kind 6, clflushopt or clwb

abbrev pub flush? : Event → Bool
flush? e = eqb (kind_of e) 5 || eqb (kind_of e) 6

-- all the flush records of a trace
abbrev pub flushes : List Event → ℕ → Bool
flushes es n = flush? (trace_of es n)

abbrev pub without_flushes : List Event → List Event
without_flushes es = without (flushes es) es

-- ---- sfences, kind 7, which never move a verdict either

abbrev pub sfence? : Event → Bool
sfence? e = eqb (kind_of e) 7
