-- A record as two-byte numbers in a lent array: the refusal's number or 0, kind, version, threads, locations, thread,
-- location, source, outcome. What its kind does not have is 0. gorbuzte.h gives names to the places.
use Rattle.std.specs.Prelude.{ℕ, Bool, not, List, [], ◌∷◌, ◌==◌, slice_index}
use Rattle.record.specs.declared.events.Event.{Event}
use Rattle.record.specs.declared.events.Fields.{Fields}
use Rattle.record.specs.declared.parts.Place.{Place}
use Rattle.record.specs.Tests.{◌gives◌else◌}
use Rattle.record.specs.Table.{length_of}
use Rattle.record.specs.Answers.{Answer, refused, event, wrote}
use Rattle.record.specs.Events.{kind_of}
use Rattle.record.specs.Fields.{fields_of, event_of}
use Rattle.record.specs.Writing.{writing, written}

-- ---- reading

-- the numbers of an event
abbrev pub event_numbers : Event → List ℕ
event_numbers e =
    let f = fields_of e in
    0 ∷ kind_of e ∷ f.version ∷ f.threads ∷ f.locations ∷ f.thread ∷ f.location ∷ f.source ∷ f.outcome ∷ []

-- of what reading answers: the event's, or the refusal and nothing else
abbrev pub read_numbers : Answer → List ℕ
read_numbers (event e past) = event_numbers e
read_numbers (refused k e) = k ∷ 0 ∷ 0 ∷ 0 ∷ 0 ∷ 0 ∷ 0 ∷ 0 ∷ 0 ∷ []
read_numbers (wrote n) = 0 ∷ 0 ∷ 0 ∷ 0 ∷ 0 ∷ 0 ∷ 0 ∷ 0 ∷ 0 ∷ []

-- the position past the record that was read, or the number of bytes written; 0 for a refusal
abbrev pub size_in : Answer → ℕ
size_in (event e past) = past
size_in (refused k e) = 0
size_in (wrote n) = n

-- ---- writing

abbrev pub fields_in : List ℕ → Fields
fields_in numbers =
    record {
      thread = slice_index numbers 5;
      location = slice_index numbers 6;
      source = slice_index numbers 7;
      version = slice_index numbers 2;
      threads = slice_index numbers 3;
      locations = slice_index numbers 4;
      outcome = slice_index numbers 8;
    }

-- the event that the numbers name, if there is such a kind
unfoldable pub event_named : List ℕ → Event
event_named numbers = event_of (slice_index numbers 1) (fields_in numbers)

-- "Kinds and their lengths are one fixed table": a kind is a number that has a length there
abbrev pub is_kind : ℕ → Bool
is_kind k = not (length_of k == 0)

-- 3, "unknown kind"; else as the record layer writes
unfoldable pub writing_numbers : List ℕ → List ℕ → Answer
writing_numbers numbers out =
    is_kind (slice_index numbers 1) gives writing (event_named numbers) out else refused 3 0

-- the output afterwards
unfoldable pub written_numbers : List ℕ → List ℕ → List ℕ
written_numbers numbers out = is_kind (slice_index numbers 1) gives written (event_named numbers) out else out

-- ---- framing

-- where a record stands: the position of its length bytes, and its size with them
abbrev pub place_numbers : Place → List ℕ
place_numbers p = p.start ∷ p.size ∷ []
