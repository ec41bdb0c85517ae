-- From bytes to events, and which traces are turned away: document 01, "The trace" and "When a trace is turned away".
-- Document 02, job 6: "For judging, empty bytes mean a trace with no events [..] Other calls still turn it away."
use Rattle.std.specs.Prelude.{ℕ, suc, ◌<◌, ◌≡◌, List, [], ◌∷◌, ◌++◌, Bool, true, false, not, ◌≢◌, length, eqb, ltb}
use Rattle.record.specs.declared.events.Event.{Event}
use Rattle.record.specs.declared.events.Event.TheVariants.{Crash}
use Rattle.record.specs.Answers.{Answer, refused, event, wrote}
use Rattle.record.specs.Events.{kind_of, record_of}
use Rattle.record.specs.Parts.{start}
use Rattle.record.specs.Reading.{read_at}
use Rattle.record.specs.Tests.{◌gives◌else◌}
use Rattle.record.specs.Versions.{later_refusal}
use Rattle.model.specs.Search.{first}
use Rattle.model.specs.Trace.{version}
use Rattle.model.specs.Rules.{refusal}
use Rattle.model.specs.Answers.{tabulate}

-- the event that the record layer answers. Where it answers none, a crash: the trace ends there or is turned away, and
-- no ruling depends on what stands behind a trace's last event (`exact_same` of proofs/Prefixes.antt)
abbrev pub event_in : Answer → Event
event_in (event e n) = e
event_in (refused k e) = Crash
event_in (wrote n) = Crash

-- the number of the record layer's refusal, and 0 where it refuses nothing
abbrev pub refusal_in : Answer → ℕ
refusal_in (event e n) = 0
refusal_in (refused k e) = k
refusal_in (wrote n) = 0

-- "The first record is a begin and has event number 0; the next are 1, 2 and so on": event number e of a trace's bytes
unfoldable pub events : List ℕ → ℕ → Event
events bytes e = event_in (read_at bytes (start bytes e))

-- the first N of them
abbrev pub first_events : List ℕ → ℕ → List Event
first_events bytes N = tabulate N (events bytes)

-- and back: the bytes of a trace with these events, their records one after the other
unfoldable pub encode : List Event → List ℕ
encode [] = []
encode (e ∷ es) = record_of e ++ encode es

-- what is found at a record number of a trace's bytes
pub data Found : Type 0 where
  -- no record: the trace ends there
  no_record : Found
  -- a record that is turned away, with its refusal's number
  refused_by : ℕ → Found
  -- a record that is read, and whose event no rule forbids
  passing : Found

-- the bytes end right behind the records before number e; no bytes do so at number 0
abbrev pub ends_at : List ℕ → ℕ → Bool
ends_at bytes e = eqb (start bytes e) (length bytes)

-- the number by which record e is refused, where number k refuses it read alone: of a later record that the trace's
-- version does not know, 3 "ahead of a wrong length". A record that can be read gets that 3 by the rules
abbrev pub in_trace : List ℕ → ℕ → ℕ → ℕ
in_trace bytes e k = ltb 0 e gives later_refusal (version (events bytes)) bytes (start bytes e) k else k

-- what is found at number e
unfoldable pub record_at : List ℕ → ℕ → Found
record_at bytes e =
    let unread = in_trace bytes e (refusal_in (read_at bytes (start bytes e))) in
    let forbidden = refusal (events bytes) e in
    ends_at bytes e gives no_record else
    -- "per record length under 2, 2, 3, wrong length": "A record that can't be read ends the judging there with its
    -- refusal."
    not (eqb unread 0) gives refused_by unread else
    -- then the rules for its event
    not (eqb forbidden 0) gives refused_by forbidden else
    passing

abbrev pub passing? : Found → Bool
passing? no_record = false
passing? (refused_by k) = false
passing? passing = true

-- the first number at which no record passes
unfoldable pub stop : List ℕ → ℕ
stop bytes = first (suc (length bytes)) (λ e. not (passing? (record_at bytes e)))

-- "A trace is accepted if no refusal over its records (1 to 13 here) applies", to which document 02, jobs 4 and 7, add
-- 18 and 19: accepted, with the number of its records, 0 of no bytes; or turned away, with the refusal's number and the
-- event number
pub data Reading : Type 0 where
  accepted : ℕ → Reading
  turned_away : ℕ → ℕ → Reading

-- by what is found at e, the first number at which no record passes
abbrev pub reading_at : ℕ → Found → Reading
reading_at e no_record = accepted e
reading_at e (refused_by k) = turned_away k e
-- never found there: `stop_is` of proofs/TurnedAway.antt
reading_at e passing = turned_away 0 e

-- what judging makes of the bytes
unfoldable pub reading_of : List ℕ → Reading
reading_of bytes =
    let e = stop bytes in
    reading_at e (record_at bytes e)

-- what the other calls about a whole trace make of them: of empty bytes "Other calls still turn it away", with 1, "no
-- record"
unfoldable pub begun_reading : List ℕ → Reading
begun_reading bytes = eqb (length bytes) 0 gives turned_away 1 0 else reading_of bytes

-- ---- the same, as relations: `accepted_exactly`, `turned_away_exactly` of proofs/TurnedAway.antt join the two

module _ (bytes : List ℕ) where
  -- accepted with N records: each passes, and behind them there is none
  pub record AcceptedWith (N : ℕ) : Type 0 where
    pub all_pass : (e : ℕ) → e < N → record_at bytes e ≡ passing
    pub ends : record_at bytes N ≡ no_record

  -- turned away with number k at event e: the records before it pass, and it has that refusal
  pub record TurnedAwayWith (k e : ℕ) : Type 0 where
    pub earlier_pass : (i : ℕ) → i < e → record_at bytes i ≡ passing
    pub number : record_at bytes e ≡ refused_by k

  -- "bytes that begin with some other record": their first record can be read, and is no begin. "1 in judging only for"
  -- these: `judged_1_exactly` of proofs/NoBytes.antt
  pub record BeginsOtherwise : Type 0 where
    pub other : Event
    pub next : ℕ
    pub is_read : read_at bytes 0 ≡ event other next
    pub no_begin : kind_of other ≢ 1
