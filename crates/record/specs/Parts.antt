-- Record number e of a trace: document 01, "The trace". And the sources of a trace.
use Rattle.std.specs.Prelude.{List, ◌++◌, ◌≡◌, ℕ, zero, suc, ◌+◌, ◌≤◌, Bool, true, false, ◌&&◌, not, take, drop, eqb}
use Rattle.std.specs.Result.{result_unwrap_or}
use Rattle.std.specs.Prelude.{Some, None, Result, Ok}
use Rattle.record.specs.Bytes.{word}
use Rattle.record.specs.Table.{row_of, length_of}
use Rattle.record.specs.Fields.{thread_in, source_in}
use Rattle.record.specs.Tests.{◌gives◌else◌}
use Rattle.record.specs.Reading.{frame}
use Rattle.record.specs.declared.parts.Place.{Place}
use Rattle.record.specs.declared.parts.SourceAt.{SourceAt}
use Rattle.record.specs.declared.refusal.Refusal.{Refusal}

abbrev pub size_of : Result ℕ Refusal → ℕ
size_of f = result_unwrap_or f 0

-- the number of bytes of the record at a position, its length bytes included; 0 if it cannot be framed
unfoldable pub size_at : List ℕ → ℕ → ℕ
size_at s at = size_of (frame (drop at s))

-- where record number e starts, each record standing right behind the one before it
unfoldable pub start : List ℕ → ℕ → ℕ
start s zero = 0
start s (suc e) = start s e + size_at s (start s e)

-- where record number e stands
abbrev pub place_of : List ℕ → ℕ → Place
place_of s e = record { start = start s e; size = size_at s (start s e) }

-- "record number e as a part of the caller's trace, length bytes included"
unfoldable pub record_part : List ℕ → ℕ → List ℕ
record_part s e = take (size_at s (start s e)) (drop (start s e) s)

-- records 0 to e can all be framed: none has "a length under 2, or bytes missing". The part is empty exactly if not:
-- `empty_exactly` of proofs/Starts.antt
pub record AllFramed (s : List ℕ) (e : ℕ) : Type 0 where
  pub framed : (i : ℕ) → i ≤ e → (n : ℕ) × (frame (drop (start s i) s) ≡ Ok n)

-- the parts 0 to e, one after the other
unfoldable pub records_to : List ℕ → ℕ → List ℕ
records_to s zero = record_part s 0
records_to s (suc e) = records_to s e ++ record_part s (suc e)

-- ---- the sources of a trace, without reading its other records

-- a record without a source, and the position past it
abbrev pub no_source : ℕ → SourceAt
no_source past = record { source = None; next = past }

-- the record of that size at a position, if its kind has a source: its thread and source stand where the row says
abbrev pub source_if : Bool → List ℕ → ℕ → ℕ → List ℕ → SourceAt
source_if sourced s at size row =
    sourced gives
    record {
      source = Some (record { thread = word s (at + thread_in row); source = word s (at + source_in row) });
      next = at + size;
    }
    else
    no_source (at + size)

-- its kind has a source: the table of kinds
abbrev pub sourced? : ℕ → Bool
sourced? k = not (eqb (source_in (row_of k)) 0)

-- the record at a position: it has a source if its kind has, and its length is the kind's. Of a record that can be read
-- this is what reading answers: `source_at_read` of proofs/Sources.antt
unfoldable pub source_at : List ℕ → ℕ → SourceAt
source_at s at =
    let k = word s (at + 2) in
    let size = size_at s at in
    source_if (eqb size (length_of k + 2) && sourced? k) s at size (row_of k)
