-- What the judge's calls answer for all inputs, and what every lent number is afterwards: document 01, "Happens-before
-- and the choice" and "When a trace is turned away".
use Rattle.std.specs.Prelude.{ℕ, ◌-◌, List, ◌++◌, Bool, ◌&&◌, ◌||◌, not, length, drop, replicate, eqb, ltb}
use Rattle.record.specs.declared.events.Event.{Event}
use Rattle.record.specs.Tests.{◌gives◌else◌}
use Rattle.model.specs.Trace.{issue?}
use Rattle.model.specs.Choice.{Ruling, robust, broken, finished}
use Rattle.model.specs.Clocks.{covers?}
use Rattle.model.specs.Verdict.{ruling_of}
use Rattle.model.specs.Reading.{events, Reading, accepted, turned_away, reading_of, begun_reading}
use Rattle.model.specs.Answers.{cut_of, share_of, fault_of}
use Rattle.model.specs.Answers as answers

-- 14, "work area too small": "The work area is at least 32,768 two-byte numbers."
abbrev pub small_work : ℕ → Bool
small_work size = ltb size 32768

-- 15: "cut buffer is not 56 numbers"
abbrev pub wrong_cut : ℕ → Bool
wrong_cut size = not (eqb size 56)

-- "Afterwards its first 32,768 are 0 and the rest untouched"
unfoldable pub cleared : List ℕ → List ℕ
cleared work = replicate 32768 0 ++ drop 32768 work

-- ---- judging

module _ (ev : ℕ → Event) (N : ℕ) where
  -- the answer to an accepted trace of N records; "Events after begin", and of no records, which have no begin either,
  -- `events 0` (document 02, job 6): N - 1 is 0 there
  abbrev pub ruled_answer : Ruling → answers.Answer
  ruled_answer (robust c) = answers.robust (N - 1) (share_of c (finished ev N))
  ruled_answer (broken load missing observed) =
      answers.broken (N - 1) load missing observed (fault_of ev missing observed)

  -- "The least [..] goes to the cut buffer"; broken: "The cut buffer is untouched."
  abbrev pub ruled_cut : List ℕ → Ruling → List ℕ
  ruled_cut cut (robust c) = cut_of c
  ruled_cut cut (broken load missing observed) = cut

-- "A refusal anywhere outranks broken."
abbrev pub reading_answer : List ℕ → Reading → answers.Answer
reading_answer bytes (turned_away k e) = answers.refused k e
reading_answer bytes (accepted N) = ruled_answer (events bytes) N (ruling_of (events bytes) N)

-- Demand 1: "A refusal leaves the cut and output buffers untouched."
abbrev pub reading_cut : List ℕ → List ℕ → Reading → List ℕ
reading_cut bytes cut (turned_away k e) = cut
reading_cut bytes cut (accepted N) = ruled_cut (events bytes) N cut (ruling_of (events bytes) N)

-- the answer, from the bytes and the two buffers' lengths: "Order: 14, 15; then per record"
unfoldable pub judge_of : List ℕ → ℕ → ℕ → answers.Answer
judge_of bytes work cut =
    small_work work gives answers.refused 14 0 else
    wrong_cut cut gives answers.refused 15 0 else
    reading_answer bytes (reading_of bytes)

-- the cut buffer afterwards
unfoldable pub cut_after : List ℕ → ℕ → List ℕ → List ℕ
cut_after bytes work cut =
    small_work work gives cut else
    wrong_cut (length cut) gives cut else
    reading_cut bytes cut (reading_of bytes)

-- the work area afterwards: "refusals 14 and 15 touch nothing"
unfoldable pub work_after : List ℕ → ℕ → List ℕ
work_after work cut = (small_work (length work) || wrong_cut cut) gives work else cleared work

-- ---- the order query

-- store p happens before store q, by q's clock
abbrev pub before? : (ℕ → Event) → ℕ → ℕ → Bool
before? ev p q = not (eqb p q) && covers? ev p q

module _ (ev : ℕ → Event) (N : ℕ) where
  -- a query number names a store of the trace
  abbrev pub store? : ℕ → Bool
  store? p = ltb p N && issue? ev p

  -- 16: "query number is no issue"; then how the two stores stand
  abbrev pub standing : ℕ → ℕ → answers.Standing
  standing p q =
      not (store? p && store? q) gives answers.refused 16 0 else
      eqb p q gives answers.same else
      before? ev p q gives answers.before else
      before? ev q p gives answers.after else
      answers.neither

abbrev pub reading_standing : List ℕ → ℕ → ℕ → Reading → answers.Standing
reading_standing bytes p q (turned_away k e) = answers.refused k e
reading_standing bytes p q (accepted N) = standing (events bytes) N p q

-- the answer to the query about p and q: "14, [..] then per record [..] then 16"; empty bytes are 1, ahead of 16
unfoldable pub order_of : List ℕ → ℕ → ℕ → ℕ → answers.Standing
order_of bytes work p q =
    small_work work gives answers.refused 14 0 else reading_standing bytes p q (begun_reading bytes)

-- the work area after a query
unfoldable pub order_work_after : List ℕ → List ℕ
order_work_after work = small_work (length work) gives work else cleared work
