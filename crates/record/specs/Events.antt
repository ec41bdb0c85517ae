-- Events and their records: document 01, "The trace".
use Rattle.std.specs.Prelude.{List, [], ◌∷◌, ℕ}
use Rattle.record.specs.Bytes.{bytes}
use Rattle.record.specs.Table.{length_of}
use Rattle.record.specs.declared.events.Event.{Event}
use Rattle.record.specs.declared.events.Event.TheVariants.{Begin, Issue, Commit, Load, Clflush, Clwb}
use Rattle.record.specs.declared.events.Event.TheVariants.{Sfence, Mfence, Crash, SkipOn, SkipOff, Locked}
use Rattle.record.specs.declared.events.Event.TheVariants.{Signal, Wait, Open, Close}

-- the number of an event's kind
abbrev pub kind_of : Event → ℕ
kind_of (Begin v n m) = 1
kind_of (Issue t x) = 2
kind_of (Commit t) = 3
kind_of (Load t x s) = 4
kind_of (Clflush t x) = 5
kind_of (Clwb t x) = 6
kind_of (Sfence t) = 7
kind_of (Mfence t) = 8
kind_of Crash = 9
kind_of (SkipOn t) = 10
kind_of (SkipOff t) = 11
kind_of (Locked t x s) = 12
kind_of (Signal t) = 13
kind_of (Wait t s) = 14
kind_of (Open t) = 15
kind_of (Close t o) = 16

-- the values of an event's fields, in the order in which document 01's table lists them
abbrev pub values_of : Event → List ℕ
values_of (Begin v n m) = v ∷ n ∷ m ∷ []
values_of (Issue t x) = t ∷ x ∷ []
values_of (Commit t) = t ∷ []
values_of (Load t x s) = t ∷ x ∷ s ∷ []
values_of (Clflush t x) = t ∷ x ∷ []
values_of (Clwb t x) = t ∷ x ∷ []
values_of (Sfence t) = t ∷ []
values_of (Mfence t) = t ∷ []
values_of Crash = []
values_of (SkipOn t) = t ∷ []
values_of (SkipOff t) = t ∷ []
values_of (Locked t x s) = t ∷ x ∷ s ∷ []
values_of (Signal t) = t ∷ []
values_of (Wait t s) = t ∷ s ∷ []
values_of (Open t) = t ∷ []
values_of (Close t o) = t ∷ o ∷ []

-- "A record is a two-byte length (of all that follows it), a two-byte kind, and two-byte fields."
unfoldable pub record_of : Event → List ℕ
record_of e = bytes (length_of (kind_of e) ∷ kind_of e ∷ values_of e)
