-- Which version of the format knows a kind: the ways of the code are the definition's cases. A record that is framed
-- has its kind within the bytes; past the end there is none. And what reading makes of a framed record: the event of
-- that kind, or 3 or 4.
use mathlib.Core.Path.{◌≡◌, refl, sym}
use mathlib.Core.Bool.{Bool, true, false, not}
use mathlib.Core.Logic.{◌≢◌, ◌⊎◌, inl, inr}
use mathlib.Core.List.{List}
use Prim.Native.Nat.{ℕ, ◌+◌, ◌≤◌}
use native.Mathlib.Omega.{arith}
use Rattle.std.specs.Prelude.{Ok}
use lib.ListN.{length, drop, length-drop}
use lib.Dec.{eqb}
use borrow.Author.Tests.{ne_eqb}
use Rattle.record.specs.declared.events.Event.{Event}
use Rattle.record.specs.Tests.{◌gives◌else◌}
use Rattle.record.specs.Bytes.{word}
use Rattle.record.specs.Table.{row_of, length_of}
use Rattle.record.specs.Events.{kind_of}
use Rattle.record.specs.Fields.{event_of, fields_at}
use Rattle.record.specs.Answers.{refused, event, number_of}
use Rattle.record.specs.Parts.{size_of, size_at}
use Rattle.record.specs.Reading.{frame, read_framed, read_first, from, read_at}
use Rattle.record.specs.Versions.{later_refusal}
use Rattle.record.specs.declared.refusal.Refusal.{Refusal}
use Rattle.record.specs.declared.refusal.Refusal.TheVariants.{NoRecord, CutShort, UnknownKind, WrongLength, NoRoom}
use Rattle.record.proofs.Frames.{clash, frame→, read→}
use Rattle.record.proofs.Shapes.{made}
use Rattle.record.proofs.Scans.{word_drop}
use Rattle.record.proofs.Starts.{framed_or_none, from_event}

-- a refusal stays where its number is not that of a wrong length, or the kind is known
pub others_stay :
    (version : ℕ) (s : List ℕ) (at : ℕ) (r : Refusal) → (r ≡ WrongLength → ⊥)
    → number_of r ≡ later_refusal version s at (number_of r)
unfolding later_refusal
others_stay version s at NoRecord other = refl
others_stay version s at CutShort other = refl
others_stay version s at UnknownKind other = refl
others_stay version s at WrongLength other = absurd (other refl)
others_stay version s at NoRoom other = refl

-- and so does a number that no refusal has
pub no_number :
    (version : ℕ) (s : List ℕ) (at k : ℕ) → ((r : Refusal) → number_of r ≢ k) → k ≡ later_refusal version s at k
unfolding later_refusal
no_number version s at k none = rw (ne_eqb k 4 (λ is_4. none WrongLength (sym is_4))) refl

-- ---- what is read of a framed record

-- an event of the kind that stands there
pub kind_there : (s : List ℕ) (at : ℕ) (e : Event) (past : ℕ) → read_at s at ≡ event e past → kind_of e ≡ word s (at + 2)
unfolding read_at
kind_there s at e past is =
    let (n, read, past_is) = from_event at (read_first (drop at s)) e past is in
    let it = read→ (drop at s) e n read in
    rw (← word_drop s at 2, ← it.event_is) (made (drop at s) (word (drop at s) 2) it.known).kind_is

-- or it is refused, by an unknown kind or a wrong length
by_length :
    (at k i : ℕ) (unknown wrong : Bool) (e : Event) (n : ℕ)
    → from at (unknown gives refused 3 0 else wrong gives refused 4 0 else event e n) ≡ refused k i
    → (k ≡ 3) ⊎ (k ≡ 4)
by_length at k i true wrong e n is = inl (cc)
by_length at k i false true e n is = inr (cc)
by_length at k i false false e n is = absurd (clash (cc))

pub framed_refused :
    (s : List ℕ) (at k i : ℕ) → size_at s at ≢ 0 → read_at s at ≡ refused k i → (k ≡ 3) ⊎ (k ≡ 4)
unfolding size_at read_at read_first read_framed
framed_refused s at k i some is = by_frame (framed_or_none (frame (drop at s)))
  where
    kind : ℕ
    kind = word (drop at s) 2

    by_frame :
        ((n : ℕ) × (frame (drop at s) ≡ Ok n)) ⊎ (size_of (frame (drop at s)) ≡ 0) → (k ≡ 3) ⊎ (k ≡ 4)
    by_frame (inl (n, framed)) =
        by_length at k i (eqb (length_of kind) 0) (not (eqb (length_of kind + 2) n))
        (event_of kind (fields_at (drop at s) (row_of kind))) n
        (rw framed at is)
    by_frame (inr none) = absurd (some none)
