-- What the calls of this crate answer, in document 01's numbers and values, and what the code's types say of it.
use Rattle.std.specs.Prelude.{ℕ, eqb, ◌≡◌, ◌≢◌, Option, Some, None, Result, Ok, Err}
use Rattle.record.specs.Tests.{◌gives◌else◌}
use Rattle.record.specs.Table.{length_of}
use Rattle.record.specs.Events.{kind_of}
use Rattle.record.specs.Fields.{event_of, fields_of}
use Rattle.record.specs.declared.events.Event.{Event}
use Rattle.record.specs.declared.events.Fields.{Fields}
use Rattle.record.specs.declared.reading.Read.{Read}
use Rattle.record.specs.declared.refusal.Refusal.{Refusal}
use Rattle.record.specs.declared.refusal.Refusal.TheVariants.{NoRecord, CutShort, UnknownKind, WrongLength, NoRoom}
use Rattle.record.specs.declared.refusal.NoRefusal.{NoRefusal}
use Rattle.record.specs.declared.scanning.Scan.{Scan}

pub data Answer : Type 0 where
  -- a refusal: its number and its event number
  refused : ℕ → ℕ → Answer
  -- a record's event, and the position past the record
  event : Event → ℕ → Answer
  -- the number of bytes written
  wrote : ℕ → Answer

-- ---- refusals

-- "1 (no bytes), 2, 3 or 4", and of writing 17
abbrev pub number_of : Refusal → ℕ
number_of NoRecord = 1
number_of CutShort = 2
number_of UnknownKind = 3
number_of WrongLength = 4
number_of NoRoom = 17

-- the refusal of a number; none where no refusal has it
abbrev pub Numbers : ℕ → Result Refusal NoRefusal → Type 0
Numbers k (Ok r) = number_of r ≡ k
Numbers k (Err e) = (r : Refusal) → number_of r ≢ k

-- an answer of the code, with the number in the place of what has it
abbrev pub numbered_by : {A E : Type 0} → (E → ℕ) → Result A E → Result A ℕ
numbered_by number (Ok x) = Ok x
numbered_by number (Err e) = Err (number e)

-- where a refusal has it
abbrev pub numbered : {A : Type 0} → Result A Refusal → Result A ℕ
numbered answer = numbered_by number_of answer

-- the number of the refusal, 0 where there is none
abbrev pub refusal_of : {A : Type 0} → Result A ℕ → ℕ
refusal_of (Ok x) = 0
refusal_of (Err k) = k

-- ---- reading and writing

-- "gives its event, or 1 (no bytes), 2, 3 or 4, with event 0"
abbrev pub read_answer : Result Read Refusal → Answer
read_answer (Ok r) = event r.event r.next
read_answer (Err r) = refused (number_of r) 0

-- the same as plain numbers: the event's kind and fields and the position past its record, or the refusal's number;
-- reading never answers `wrote`
abbrev pub scan_of : Answer → Result Scan ℕ
scan_of (event e n) = Ok (record { kind = kind_of e; fields = fields_of e; next = n })
scan_of (refused k i) = Err k
scan_of (wrote n) = Err 0

-- the event of a kind with these fields; none where the table has no such kind: 3 "unknown kind"
abbrev pub named : ℕ → Fields → Option Event
named k f = eqb (length_of k) 0 gives None else Some (event_of k f)

-- "refuses only with 17", whose event is 0
abbrev pub write_answer : Result ℕ Refusal → Answer
write_answer (Ok n) = wrote n
write_answer (Err r) = refused (number_of r) 0
