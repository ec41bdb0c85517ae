-- Scanning: the numbers that a kind's row places at a position are those of the event that is read there, and a record
-- that is not read is refused by its number. `scan_read`, `scan_refused`: what was scanned is what was read.
use mathlib.Core.Path.{◌≡◌, refl, sym, ap, ◌∙◌}
use mathlib.Core.Bool.{false}
use mathlib.Core.Logic.{◌≢◌}
use mathlib.Core.List.{List, [], ◌∷◌}
use Prim.Native.Nat.{ℕ, ◌+◌, ◌-◌, ◌≤◌}
use native.Mathlib.Nat.{add-zero}
use native.Mathlib.Omega.{arith}
use Rattle.std.specs.Prelude.{Ok, Err, IsErr}
use lib.ListN.{length, get_or, take, drop, length-drop}
use lib.Seq.{get_or-drop}
use lib.Dec.{eqb}
use borrow.Author.Tests.{eqb-false}
use Rattle.record.specs.Bytes.{word}
use Rattle.record.specs.Table.{kinds, row_of, length_of}
use Rattle.record.specs.Events.{kind_of}
use Rattle.record.specs.Fields.{RowFits, fields_at, fields_of}
use Rattle.record.specs.Answers.{Answer, refused, event, scan_of}
use Rattle.record.specs.Reading.{read_first, read_at}
use Rattle.record.specs.declared.events.Event.{Event}
use Rattle.record.specs.declared.events.Fields.{Fields}
use Rattle.record.specs.declared.scanning.Scan.{Scan}
use Rattle.record.proofs.Computed.{else_at, NoneOf, among, none_among}
use Rattle.record.proofs.Frames.{clash, Framed, read→, →read, Answers, an_event, a_refusal}
use Rattle.record.proofs.Rows.{row_fits, at_most_eight}
use Rattle.record.proofs.Shapes.{made}
use Rattle.record.proofs.Starts.{tail_is, from_event, read_at_answers, read_past_end}

-- the number at an offset of the bytes from a position on
pub word_drop : (s : List ℕ) (at i : ℕ) → word (drop at s) i ≡ word s (at + i)
word_drop s at i =
    let next : at + (i + 1) ≡ at + i + 1 = omega arith in
    rw (get_or-drop at s i 0, get_or-drop at s (i + 1) 0, next)

-- ---- a kind of the table

-- at a position a kind is left, and as many bytes as the kind's record has
abbrev Room : List ℕ → ℕ → Type 0
Room s at = (at + 4 ≤ length s) × (at + length_of (word s (at + 2)) + 2 ≤ length s)

-- a kind that an arm takes is the record's, and its bytes are there; whether the table's row at its number, or row 0
-- past the table, has a length is computed
pub known_at :
    (s : List ℕ) (at k j : ℕ) → k ≡ word s (at + 2) → k ≡ j → eqb (get_or (get_or kinds j (get_or kinds 0 [])) 1 0) 0 ≡ false
    → Room s at
    → (j ≡ word s (at + 2)) × (length_of j ≢ 0) × (at + length_of j + 2 ≤ length s)
unfolding row_of
known_at s at k j k_is j_is some room =
    let here : j ≡ word s (at + 2) = sym j_is ∙ k_is in
    (here, eqb-false _ 0 some, rw here room.1)

-- the fields of a record whose bytes are there end within them
pub row_inside :
    (s : List ℕ) (at k : ℕ) (row : List ℕ) → row ≡ row_of k → at + length_of k + 2 ≤ length s
    → RowFits row (length (take (length s - at) (drop at s)))
row_inside s at k row row_is room = rw (row_is, tail_is s at) (row_fits k _ (simp length-drop (omega arith)))

-- a record with its kind's length, whose bytes are there, is read, and its numbers stand there
pub scan_known :
    (s : List ℕ) (at k n : ℕ) (row : List ℕ) (f : Fields)
    → (k ≡ word s (at + 2)) × (length_of k ≢ 0) × (at + length_of k + 2 ≤ length s)
    → row ≡ row_of k → n ≡ word s at → n ≡ get_or row 1 0 → f ≡ fields_at (take (length s - at) (drop at s)) row
    → Ok (record { kind = k; fields = f; next = at + n + 2 }) ≡ scan_of (read_at s at)
unfolding read_at
scan_known s at k n row f (k_is, some, room) row_is n_is fits f_is =
    let t = drop at s in
    let of_kind = made t k some in
    let length_fits : n ≡ length_of k = rw (← row_is) fits in
    let fields_here : f ≡ fields_at t (row_of k) = rw (← row_is, ← tail_is s at) f_is in
    let length_at : word t 0 ≡ n = rw (word_drop s at 0, add-zero at) (sym n_is) in
    let kind_at : word t 2 ≡ k = word_drop s at 2 ∙ sym k_is in
    let inside : n + 2 ≤ length t = simp length-drop (omega arith) in
    let enough : 4 ≤ n + 2 = omega (arith, of_kind.length_is) in
    let framed : Framed t (n + 2) = record { enough = enough; inside = inside; length_is = omega arith } in
    let read = →read t k (n + 2) framed kind_at (omega arith) in
    let past : at + n + 2 ≡ at + (n + 2) = omega arith in
    rw (read, of_kind.kind_is, of_kind.fields_are, ← fields_here, past)

-- ---- a record that is not read

-- a record is read at a position
record IsThere (s : List ℕ) (at : ℕ) : Type 0 where
  pub room : Room s at
  pub length_is : word s at ≡ length_of (word s (at + 2))
  pub known : length_of (word s (at + 2)) ≢ 0

is_there : (s : List ℕ) (at : ℕ) (e : Event) (p : ℕ) → read_at s at ≡ event e p → IsThere s at
unfolding read_at
is_there s at e p h =
    let t = drop at s in
    let (n, read_is, past) = from_event at (read_first t) e p h in
    let read = read→ t e n read_is in
    let framed = read.framed in
    let size = length-drop at s in
    let length_at : word t 0 ≡ word s at = rw (word_drop s at 0, add-zero at) in
    let kind_at = word_drop s at 2 in
    let fits : length_of (word s (at + 2)) + 2 ≡ n = rw (← kind_at) read.length_fits in
    record {
      room = (
        omega (arith, framed.enough, framed.inside, size),
        omega (arith, fits, framed.enough, framed.inside, size),
      );
      length_is = omega (arith, framed.length_is, length_at, fits);
      known = rw (← kind_at) read.known;
    }

-- where ten bytes are left, any record has its bytes
pub room_for_ten : (s : List ℕ) (at : ℕ) → at + 10 ≤ length s → Room s at
room_for_ten s at left = (omega arith, omega (arith, at_most_eight (word s (at + 2))))

-- at the end and past it there are no bytes
pub past_end : (s : List ℕ) (at : ℕ) → length s ≤ at → Err 1 ≡ scan_of (read_at s at)
past_end s at past = ap scan_of (read_past_end s at past)

-- a record that was read has its bytes
pub read_room : (s : List ℕ) (at : ℕ) (e : Event) (p : ℕ) → event e p ≡ read_at s at → Room s at
read_room s at e p read = (is_there s at e p (sym read)).room

pub ruleset near_the_end = (room_for_ten, past_end, read_room)

-- and what is not there is refused
not_there : (s : List ℕ) (at : ℕ) → (IsThere s at → ⊥) → IsErr (scan_of (read_at s at))
not_there s at none = by_answer (read_at s at) (read_at_answers s at) (λ e p is. none (is_there s at e p is))
  where
    by_answer : (a : Answer) → Answers a → ((e : Event) (p : ℕ) → a ≡ event e p → ⊥) → IsErr (scan_of a)
    by_answer a (an_event e p is) none = absurd (none e p is)
    by_answer a (a_refusal j low high is) none = rw is refl

-- a length that is not the kind's refuses
pub wrong_length :
    (s : List ℕ) (at kind n : ℕ) → kind ≡ word s (at + 2) → n ≡ word s at → n ≢ length_of kind
    → IsErr (scan_of (read_at s at))
wrong_length s at kind n kind_is n_is unfit =
    not_there s at (λ (there : IsThere s at). unfit (rw (n_is, kind_is) there.length_is))

-- the kinds that `scan_step` has an arm for, the last one first
abbrev arms : List ℕ
arms = 16 ∷ 15 ∷ 14 ∷ 13 ∷ 12 ∷ 11 ∷ 10 ∷ 9 ∷ 8 ∷ 7 ∷ 6 ∷ 5 ∷ 4 ∷ 3 ∷ 2 ∷ 1 ∷ []

-- any other number has no length in the table
no_length : (k : ℕ) → NoneOf arms k → length_of k ≡ 0
unfolding row_of
no_length k none = else_at (length kinds) (among arms) length_of 0 refl (λ i. refl) k (none_among arms k none)

-- a kind that is not in the table refuses
pub unknown_kind :
    (s : List ℕ) (at kind : ℕ) → kind ≡ word s (at + 2) → NoneOf arms kind → IsErr (scan_of (read_at s at))
unknown_kind s at kind kind_is no_arm =
    not_there s at (λ (there : IsThere s at). there.known (rw kind_is at (no_length kind no_arm)))

-- ---- what was scanned is what was read

-- reading refuses with a number that is not 0, and with event 0
pub refusals_some : (s : List ℕ) (at k i : ℕ) → read_at s at ≡ refused k i → (k ≢ 0) × (i ≡ 0)
refusals_some s at k i = by_answer (read_at s at) (read_at_answers s at)
  where
    by_answer : (a : Answer) → Answers a → a ≡ refused k i → (k ≢ 0) × (i ≡ 0)
    by_answer a (an_event e n is) h = absurd (clash (cc))
    by_answer a (a_refusal j low high is) h =
        let same : j ≡ k = cc in
        (λ (none : k ≡ 0). omega arith, cc)

-- numbers: a record was read, and these are its kind, its fields and the position past it
pub scan_read :
    (s : List ℕ) (at : ℕ) (r : Scan) → Ok r ≡ scan_of (read_at s at)
    → (e : Event) × ((read_at s at ≡ event e r.next) × (r.kind ≡ kind_of e) × (r.fields ≡ fields_of e))
scan_read s at r = by_answer (read_at s at) (read_at_answers s at)
  where
    by_answer :
        (a : Answer) → Answers a → Ok r ≡ scan_of a
        → (e : Event) × ((a ≡ event e r.next) × (r.kind ≡ kind_of e) × (r.fields ≡ fields_of e))
    by_answer a (an_event e n is) h =
        let same : r ≡ record { kind = kind_of e; fields = fields_of e; next = n } = cc (is, h) in
        let past : n ≡ r.next = rw same refl in
        (e, (is ∙ ap (event e) past, rw same refl, rw same refl))
    by_answer a (a_refusal k low high is) h = absurd (clash (cc))

-- a refusal: reading refuses with the same number, and with event 0
pub scan_refused : (s : List ℕ) (at k : ℕ) → Err k ≡ scan_of (read_at s at) → read_at s at ≡ refused k 0
scan_refused s at k = by_answer (read_at s at) (read_at_answers s at)
  where
    by_answer : (a : Answer) → Answers a → Err k ≡ scan_of a → a ≡ refused k 0
    by_answer a (an_event e n is) h = absurd (clash (cc))
    by_answer a (a_refusal j low high is) h = cc
