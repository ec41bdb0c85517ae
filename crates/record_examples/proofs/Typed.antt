-- What the types of parameters say, as the round-trip theorems ask for it: the fields of an `Event` are two-byte
-- numbers, the elements of a `&[u8]` are bytes.
use mathlib.Core.List.{List}
use Prim.Native.Nat.{ℕ}
use native.Mathlib.Omega.{arith}
use lib.ListN.{get_or}
use mir.Syntax.{w8}
use mir.Val.{Val, Fits}
use denote.Laws.{Is}
use denote.Enum.Declared.{row}
use Rattle.record.specs.Fields.{fields_of, TwoByte}
use Rattle.record.specs.declared.events.Event.{Event}
use Rattle.record.specs.declared.events.Event.TheVariants.{Begin, Issue, Commit, Load, Clflush, Clwb}
use Rattle.record.specs.declared.events.Event.TheVariants.{Sfence, Mfence, Crash, SkipOn, SkipOff, Locked}
use Rattle.record.specs.declared.events.Event.TheVariants.{Signal, Wait, Open, Close}
use Rattle.record.specs.contracts.events.Event.{the_type}
use Rattle.record.proofs.RoundTrips.{AllBytes}

pub two_byte_fields : (e : Event) (vs : List Val) → Is (row the_type) e vs → TwoByte (fields_of e)
two_byte_fields (Begin v n m) vs g = record { small = omega (arith, g.1.1.1.1) }
two_byte_fields (Issue t x) vs g = record { small = omega (arith, g.1.1.1.1) }
two_byte_fields (Commit t) vs g = record { small = omega (arith, g.1.1.1.1) }
two_byte_fields (Load t x s) vs g = record { small = omega (arith, g.1.1.1.1) }
two_byte_fields (Clflush t x) vs g = record { small = omega (arith, g.1.1.1.1) }
two_byte_fields (Clwb t x) vs g = record { small = omega (arith, g.1.1.1.1) }
two_byte_fields (Sfence t) vs g = record { small = omega (arith, g.1.1.1.1) }
two_byte_fields (Mfence t) vs g = record { small = omega (arith, g.1.1.1.1) }
two_byte_fields Crash vs g = record { small = omega arith }
two_byte_fields (SkipOn t) vs g = record { small = omega (arith, g.1.1.1.1) }
two_byte_fields (SkipOff t) vs g = record { small = omega (arith, g.1.1.1.1) }
two_byte_fields (Locked t x s) vs g = record { small = omega (arith, g.1.1.1.1) }
two_byte_fields (Signal t) vs g = record { small = omega (arith, g.1.1.1.1) }
two_byte_fields (Wait t s) vs g = record { small = omega (arith, g.1.1.1.1) }
two_byte_fields (Open t) vs g = record { small = omega (arith, g.1.1.1.1) }
two_byte_fields (Close t o) vs g = record { small = omega (arith, g.1.1.1.1) }

pub all_bytes : (s : List ℕ) → ((i : ℕ) → Fits w8 (get_or s i 0)) → AllBytes s
all_bytes s fits = record { byte = λ i. omega (arith, fits i) }
