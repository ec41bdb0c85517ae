-- What the two round trips answer, and what the output holds behind the second; behind the first it holds what writing
-- an event leaves (`written` of the record crate).
use Rattle.std.specs.Prelude.{List, ◌++◌, ℕ, length, take, drop, ltb}
use Rattle.record.specs.Tests.{◌gives◌else◌}
use Rattle.record.specs.Events.{record_of}
use Rattle.record.specs.Answers.{Answer, refused, event, wrote}
use Rattle.record.specs.Reading.{read_first}
use Rattle.record.specs.declared.events.Event.{Event}

-- "an event written reads back as itself", and its size is the number of bytes written; 17 if the output has no room
unfoldable pub read_back : Event → List ℕ → Answer
read_back e out = ltb (length out) (length (record_of e)) gives refused 17 0 else event e (length (record_of e))

-- a record of n bytes that was read, if the output has room for them, else 17; a refusal of reading stays
abbrev pub if_room : List ℕ → Answer → Answer
if_room out (event e n) = ltb (length out) n gives refused 17 0 else event e n
if_room out (refused k i) = refused k i
if_room out (wrote n) = wrote n

-- the first record, read and written again: its event and size, or the refusal
unfoldable pub written_again : List ℕ → List ℕ → Answer
written_again s out = if_room out (read_first s)

-- the output with the record's bytes, if there was one, at its front and no others changed; else as lent
abbrev pub with_bytes : List ℕ → List ℕ → Answer → List ℕ
with_bytes s out (event e n) = take n s ++ drop n out
with_bytes s out (refused k i) = out
with_bytes s out (wrote n) = out

-- "a record read and written again has its old bytes"
unfoldable pub old_bytes : List ℕ → List ℕ → List ℕ
old_bytes s out = with_bytes s out (written_again s out)
