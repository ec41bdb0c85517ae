-- Writing an event: document 01, "The trace" and "When a trace is turned away".
use Rattle.std.specs.Prelude.{List, ◌++◌, ℕ, length, drop, ltb}
use Rattle.record.specs.Tests.{◌gives◌else◌}
use Rattle.record.specs.Events.{record_of}
use Rattle.record.specs.Answers.{Answer, refused, wrote}
use Rattle.record.specs.declared.events.Event.{Event}

-- 17: "output shorter than the record"; "Writing takes all field values from 0 to 65,535", and refuses for no other
-- reason
unfoldable pub writing : Event → List ℕ → Answer
writing e out = ltb (length out) (length (record_of e)) gives refused 17 0 else wrote (length (record_of e))

-- the output afterwards: "Writing fills the record's bytes and no others", and a refusal leaves it as lent
unfoldable pub written : Event → List ℕ → List ℕ
written e out =
    ltb (length out) (length (record_of e)) gives out else record_of e ++ drop (length (record_of e)) out
