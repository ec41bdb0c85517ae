-- Reading a record: document 01, "The trace" and "When a trace is turned away".
use Rattle.std.specs.Prelude.{List, not, ℕ, ◌+◌, length, drop, eqb, ltb, Result, Ok, Err}
use Rattle.record.specs.Tests.{◌gives◌else◌}
use Rattle.record.specs.Bytes.{word}
use Rattle.record.specs.Table.{row_of, length_of}
use Rattle.record.specs.Fields.{fields_at, event_of}
use Rattle.record.specs.Answers.{Answer, refused, event, wrote, number_of}
use Rattle.record.specs.declared.refusal.Refusal.{Refusal}
use Rattle.record.specs.declared.refusal.Refusal.TheVariants.{NoRecord, CutShort, WrongLength}

-- the size of the first record, its length bytes included, or the refusal: 1 no bytes; 2 bytes end inside the length;
-- 4 "length under 2"; 2 "bytes end inside a record"
unfoldable pub frame : List ℕ → Result ℕ Refusal
frame s =
    eqb (length s) 0 gives Err NoRecord else
    ltb (length s) 2 gives Err CutShort else
    ltb (word s 0) 2 gives Err WrongLength else
    ltb (length s) (word s 0 + 2) gives Err CutShort else
    Ok (word s 0 + 2)

-- of a record that is framed: 3 "unknown kind"; 4 a length "wrong for the kind"; or its event
unfoldable pub read_framed : List ℕ → Result ℕ Refusal → Answer
read_framed s (Err r) = refused (number_of r) 0
read_framed s (Ok n) =
    eqb (length_of (word s 2)) 0 gives refused 3 0 else
    not (eqb (length_of (word s 2) + 2) n) gives refused 4 0 else
    event (event_of (word s 2) (fields_at s (row_of (word s 2)))) n

-- "Reading one record alone, the first of the bytes given, ignores what follows it"
unfoldable pub read_first : List ℕ → Answer
read_first s = read_framed s (frame s)

-- an answer about the bytes from a position on, as one about all of them
abbrev pub from : ℕ → Answer → Answer
from at (refused k e) = refused k e
from at (event e n) = event e (at + n)
from at (wrote n) = wrote n

-- "Reading goes record by record over the lent trace": the record at a position; past the end there are no bytes
unfoldable pub read_at : List ℕ → ℕ → Answer
read_at s at = from at (read_first (drop at s))
