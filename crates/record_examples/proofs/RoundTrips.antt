-- The round trips from what the calls answer: `back-…` of an event that is written and read back, `again-…` of a record
-- that is read and written again; `…-refused` where a call refuses. Whether there was room is seen from what writing
-- answers; the rest are the theorems `written_read` and `read_write` of the record crate.
use mathlib.Core.Path.{◌≡◌, refl, ap, ◌∙◌}
use mathlib.Core.Bool.{Bool, true, false}
use mathlib.Core.List.{List}
use Prim.Native.Nat.{ℕ}
use lib.ListN.{length}
use lib.Seq.{length-take-le}
use lib.Dec.{ltb}
use borrow.Author.Tests.{ltb-false}
use Rattle.record.specs.Tests.{◌gives◌else◌}
use Rattle.record.specs.Events.{record_of}
use Rattle.record.specs.Fields.{fields_of, TwoByte}
use Rattle.record.specs.Answers.{Answer, refused, event, wrote}
use Rattle.record.specs.Reading.{read_first}
use Rattle.record.specs.Writing.{writing, written}
use Rattle.record.specs.declared.events.Event.{Event}
use Rattle.record.proofs.Frames.{clash, read→}
use Rattle.record.proofs.RoundTrips.{AllBytes, written_read, read_write}
use Rattle.record_examples.specs.RoundTrips.{read_back, written_again, old_bytes}

-- ---- whether there was room

short_by_test :
    (short : Bool) (k n : ℕ) → refused k 0 ≡ (short gives refused 17 0 else wrote n) → (short ≡ true) × (k ≡ 17)
short_by_test true k n h = (refl, cc)
short_by_test false k n h = absurd (clash (cc))

long_by_test : (short : Bool) (n k : ℕ) → wrote k ≡ (short gives refused 17 0 else wrote n) → short ≡ false
long_by_test true n k h = absurd (clash (cc))
long_by_test false n k h = refl

no_room :
    (e : Event) (out : List ℕ) (k : ℕ) → refused k 0 ≡ writing e out
    → (ltb (length out) (length (record_of e)) ≡ true) × (k ≡ 17)
unfolding writing
no_room e out k h = short_by_test _ _ _ h

room : (e : Event) (out : List ℕ) (k : ℕ) → wrote k ≡ writing e out → ltb (length out) (length (record_of e)) ≡ false
unfolding writing
room e out k h = long_by_test _ _ k h

-- ---- written, then read

pub back_refused : (e : Event) (out : List ℕ) (k : ℕ) → refused k 0 ≡ writing e out → refused k 0 ≡ read_back e out
unfolding read_back
back_refused e out k h = let (short, is_17) = no_room e out k h in rw (short, is_17) refl

pub back_read :
    (e : Event) (out : List ℕ) (k : ℕ) → TwoByte (fields_of e) → wrote k ≡ writing e out
    → read_first (written e out) ≡ read_back e out
unfolding read_back
back_read e out k small h =
    let fits = room e out k h in
    rw fits (written_read e out small (ltb-false _ _ fits)).1

-- ---- read, then written

size_is : (s : List ℕ) (e : Event) (n : ℕ) → AllBytes s → read_first s ≡ event e n → length (record_of e) ≡ n
size_is s e n b h = ap length (read_write s e n b h) ∙ length-take-le n s (read→ s e n h).framed.inside

pub again_unread :
    (s out : List ℕ) (a : Answer) (k : ℕ) → a ≡ refused k 0 → a ≡ read_first s
    → (a ≡ written_again s out) × (out ≡ old_bytes s out)
unfolding written_again old_bytes
again_unread s out a k is answered = (rw (← answered, is) refl, rw (← answered, is) refl)

pub again_refused :
    (s out : List ℕ) (e : Event) (n k : ℕ) → AllBytes s → read_first s ≡ event e n → refused k 0 ≡ writing e out
    → (refused k 0 ≡ written_again s out) × (written e out ≡ old_bytes s out)
unfolding written_again written old_bytes
again_refused s out e n k b read h =
    let (short, is_17) = no_room e out k h in
    let again : ltb (length out) n ≡ true = rw (size_is s e n b read) at short in
    (rw (is_17, read, again) refl, rw (short, read, again) refl)

pub again_written :
    (s out : List ℕ) (e : Event) (n k : ℕ) → AllBytes s → read_first s ≡ event e n → wrote k ≡ writing e out
    → (event e n ≡ written_again s out) × (written e out ≡ old_bytes s out)
unfolding written_again written old_bytes
again_written s out e n k b read h =
    let long = room e out k h in
    let size = size_is s e n b read in
    let again : ltb (length out) n ≡ false = rw size at long in
    (rw (read, again) refl, rw (long, size, read_write s e n b read, read, again) refl)

-- the ways of the two round trips
pub ruleset back = (back_refused, back_read)

pub ruleset again = (again_unread, again_refused, again_written)
