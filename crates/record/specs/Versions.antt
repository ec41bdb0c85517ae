-- Which version of the format knows a kind: document 02, job 7, "Read alone, or as a trace's first record, the two
-- kinds are known; later in a version 1 trace they get 3, ahead of a wrong length."
use Rattle.std.specs.Prelude.{List, Bool, ◌&&◌, ◌||◌, not, ℕ, ◌+◌, eqb, leb}
use Rattle.record.specs.Tests.{◌gives◌else◌}
use Rattle.record.specs.Bytes.{word}
use Rattle.record.specs.Table.{since_of}
use Rattle.record.specs.Parts.{size_at}

-- a trace of this version knows the kind: it is of the first version, or of none that is newer than the trace's. A
-- number that is no kind of the table is refused whatever the version
abbrev pub known_in : ℕ → ℕ → Bool
known_in version k = leb (since_of k) 1 || leb (since_of k) version

-- the record at a position is framed, and a trace of this version does not know its kind
abbrev pub new_at : ℕ → List ℕ → ℕ → Bool
new_at version s at = not (eqb (size_at s at) 0) && not (known_in version (word s (at + 2)))

-- what refuses the record at a position behind the first of a trace of this version, where number k refuses it read
-- alone: 3 "ahead of a wrong length", which is 4, and so is a length under 2, which frames no record
unfoldable pub later_refusal : ℕ → List ℕ → ℕ → ℕ → ℕ
later_refusal version s at k = (eqb k 4 && new_at version s at) gives 3 else k
