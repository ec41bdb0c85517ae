-- How many threads a trace names and how many stretches it finishes, of all bytes. `extent_of_accepted` of
-- proofs/Extents.antt: of an accepted trace with N records these are the threads of its begin and `stretch N - 1`; of
-- empty bytes 0 and 0.
use Rattle.std.specs.Prelude.{ℕ, suc, ◌-◌, min, Bool, not, List, length, eqb}
use Rattle.record.specs.Parts.{start}
use Rattle.record.specs.Reading.{read_at}
use Rattle.model.specs.Search.{first}
use Rattle.model.specs.Trace.{threads, stretch}
use Rattle.model.specs.Reading.{refusal_in, events}

-- record number e cannot be read, or is not there
abbrev pub unread : List ℕ → ℕ → Bool
unread bytes e = not (eqb (refusal_in (read_at bytes (start bytes e))) 0)

-- "A record that can't be read ends the judging there": how many records stand before the first such
unfoldable pub readable : List ℕ → ℕ
readable bytes = first (suc (length bytes)) (unread bytes)

-- "threads n" of the first record; 0 if it is no begin or cannot be read
unfoldable pub threads_of : List ℕ → ℕ
threads_of bytes = threads (events bytes)

-- "A stretch is the part between crashes [..]; a crash finishes it": the stretches that a crash finishes, before the
-- first record that cannot be read. "At most 7 crashes": more count as 7
unfoldable pub finished_of : List ℕ → ℕ
finished_of bytes = min (stretch (events bytes) (readable bytes) - 1) 7
