-- An event's fields by name, and where a row of the table places them in a record.
use Rattle.std.specs.Prelude.{List, [], ◌∷◌, ℕ, ◌+◌, ◌≤◌, ◌<◌, get_or, eqb}
use Rattle.record.specs.Tests.{◌gives◌else◌}
use Rattle.record.specs.Bytes.{word, put_word}
use Rattle.record.specs.declared.events.Event.{Event}
use Rattle.record.specs.declared.events.Event.TheVariants.{Begin, Issue, Commit, Load, Clflush, Clwb}
use Rattle.record.specs.declared.events.Event.TheVariants.{Sfence, Mfence, Crash, SkipOn, SkipOff, Locked}
use Rattle.record.specs.declared.events.Event.TheVariants.{Signal, Wait, Open, Close}
use Rattle.record.specs.declared.events.Fields.{Fields}

-- ---- the columns of the table: the fields as a list, and back

-- the values of the fields, in the order of the table's columns behind kind and length
abbrev pub columns : Fields → List ℕ
columns f = f.thread ∷ f.location ∷ f.source ∷ f.version ∷ f.threads ∷ f.locations ∷ f.outcome ∷ []

-- the fields, each with the value that is given at its place in that order
abbrev pub from_columns : (ℕ → ℕ) → Fields
from_columns at =
    record {
      thread = at 0;
      location = at 1;
      source = at 2;
      version = at 3;
      threads = at 4;
      locations = at 5;
      outcome = at 6;
    }

-- the fields with each value changed alike
abbrev pub map_fields : (ℕ → ℕ) → Fields → Fields
map_fields g f = from_columns (λ j. g (get_or (columns f) j 0))

-- P holds of each number of a list
abbrev pub Each : (ℕ → Type 0) → List ℕ → Type 0
Each P [] = Unit {0}
Each P (x ∷ xs) = P x × Each P xs

-- each value is a two-byte number, as in every event of the code
pub record TwoByte (f : Fields) : Type 0 where
  pub small : Each (λ (v : ℕ). v < 65536) (columns f)

-- ---- the offsets of a row

-- the offset of each field in the record, 0 where the kind has no such field; they stand behind kind and length
abbrev pub offsets_in : List ℕ → Fields
offsets_in row = from_columns (λ j. get_or row (j + 2) 0)

-- that of the thread
abbrev pub thread_in : List ℕ → ℕ
thread_in row = (offsets_in row).thread

-- that of the location
abbrev pub location_in : List ℕ → ℕ
location_in row = (offsets_in row).location

-- that of the source
abbrev pub source_in : List ℕ → ℕ
source_in row = (offsets_in row).source

-- each field that a row places ends within n bytes
pub record RowFits (row : List ℕ) (n : ℕ) : Type 0 where
  pub ends : Each (λ (at : ℕ). at + 2 ≤ n) (columns (offsets_in row))

-- ---- fields in a record

-- the value at a field's offset
abbrev pub field_at : List ℕ → ℕ → ℕ
field_at s at = eqb at 0 gives 0 else word s at

-- the fields that a row places in the record at the front of the bytes
abbrev pub fields_at : List ℕ → List ℕ → Fields
fields_at s row = map_fields (field_at s) (offsets_in row)

-- the bytes with a value stored at a field's offset
abbrev pub put_field : List ℕ → ℕ → ℕ → List ℕ
put_field s at v = eqb at 0 gives s else put_word s at v

-- the bytes with values stored at offsets, one after the other
abbrev pub put_each : List ℕ → List ℕ → List ℕ → List ℕ
put_each s [] vs = s
put_each s (at ∷ ats) [] = s
put_each s (at ∷ ats) (v ∷ vs) = put_each (put_field s at v) ats vs

-- the bytes with the fields stored where a row places them
unfoldable pub put_fields : List ℕ → List ℕ → Fields → List ℕ
put_fields s row f = put_each s (columns (offsets_in row)) (columns f)

-- ---- fields and events

-- the events of all kinds with these fields, each at the number of its kind
abbrev pub events_of : Fields → List Event
events_of f =
    Crash
    ∷ Begin f.version f.threads f.locations
    ∷ Issue f.thread f.location
    ∷ Commit f.thread
    ∷ Load f.thread f.location f.source
    ∷ Clflush f.thread f.location
    ∷ Clwb f.thread f.location
    ∷ Sfence f.thread
    ∷ Mfence f.thread
    ∷ Crash
    ∷ SkipOn f.thread
    ∷ SkipOff f.thread
    ∷ Locked f.thread f.location f.source
    ∷ Signal f.thread
    ∷ Wait f.thread f.source
    ∷ Open f.thread
    ∷ Close f.thread f.outcome
    ∷ []

-- the event of a kind with these fields; a crash where there is no such kind
unfoldable pub event_of : ℕ → Fields → Event
event_of k f = get_or (events_of f) k Crash

-- the fields of a record that has a thread, a location or a source; 0 where it has none
abbrev pub thread_fields : ℕ → ℕ → ℕ → Fields
thread_fields t x s =
    record { thread = t; location = x; source = s; version = 0; threads = 0; locations = 0; outcome = 0 }

-- an event's fields; 0 where its kind has no such field
abbrev pub fields_of : Event → Fields
fields_of (Begin v n m) =
    record { thread = 0; location = 0; source = 0; version = v; threads = n; locations = m; outcome = 0 }
fields_of (Issue t x) = thread_fields t x 0
fields_of (Commit t) = thread_fields t 0 0
fields_of (Load t x s) = thread_fields t x s
fields_of (Clflush t x) = thread_fields t x 0
fields_of (Clwb t x) = thread_fields t x 0
fields_of (Sfence t) = thread_fields t 0 0
fields_of (Mfence t) = thread_fields t 0 0
fields_of Crash = thread_fields 0 0 0
fields_of (SkipOn t) = thread_fields t 0 0
fields_of (SkipOff t) = thread_fields t 0 0
fields_of (Locked t x s) = thread_fields t x s
fields_of (Signal t) = thread_fields t 0 0
fields_of (Wait t s) = thread_fields t 0 s
fields_of (Open t) = thread_fields t 0 0
fields_of (Close t o) =
    record { thread = t; location = 0; source = 0; version = 0; threads = 0; locations = 0; outcome = o }
