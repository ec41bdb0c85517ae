-- Where records start: theorems about the framing definitions. `empty_exactly`: the part is empty exactly if records 0
-- to e cannot all be framed. `records_to_front`: the parts 0 to e, one after the other, are the front of the trace.
-- `read_next`: reading record e leads to where record e + 1 starts.
use mathlib.Core.Path.{◌≡◌, refl, sym, ap, ◌∙◌}
use mathlib.Core.Logic.{◌≢◌, ◌⊎◌, inl, inr, ◌↔◌}
use mathlib.Core.List.{List, []}
use Prim.Native.Nat.{ℕ, zero, suc, ◌+◌, ◌-◌, ◌<◌, ◌≤◌}
use native.Mathlib.Omega.{arith}
use native.Mathlib.Numerals.{add-one}
use native.Mathlib.Nat.{eq-or-lt_of_le, zero-add}
use Rattle.std.specs.Prelude.{Result, Ok, Err}
use lib.ListN.{length, take, drop, length-drop}
use lib.Seq.{length-take-le, take-add, take_all}
use borrow.Author.Tests.{eq-eqb}
use Rattle.record.specs.Answers.{Answer, refused, event, wrote}
use Rattle.record.specs.Reading.{frame, read_framed, read_first, read_at, from}
use Rattle.record.specs.Parts.{size_of, size_at, start, place_of, record_part, AllFramed, records_to}
use Rattle.record.specs.declared.events.Event.{Event}
use Rattle.record.specs.declared.parts.Place.{Place}
use Rattle.record.specs.declared.refusal.Refusal.{Refusal}
use Rattle.record.proofs.Frames.{clash, frame→, →frame, read→}
use Rattle.record.proofs.Frames.{Answers, an_event, a_refusal, read_answers, one_of_none}

-- ---- the size at a position

pub framed_or_none : (f : Result ℕ Refusal) → ((n : ℕ) × (f ≡ Ok n)) ⊎ (size_of f ≡ 0)
framed_or_none (Ok n) = inl (n, refl)
framed_or_none (Err r) = inr refl

-- the record at a position ends within the trace
pub size_inside : (s : List ℕ) (at : ℕ) → at ≤ length s → at + size_at s at ≤ length s
unfolding size_at
size_inside s at h = by_frame (framed_or_none (frame (drop at s)))
  where
    by_frame :
        ((n : ℕ) × (frame (drop at s) ≡ Ok n)) ⊎ (size_of (frame (drop at s)) ≡ 0)
        → at + size_of (frame (drop at s)) ≤ length s
    by_frame (inl (n, is)) = rw is (omega (arith, (frame→ (drop at s) n is).inside, length-drop at s))
    by_frame (inr none) = rw none (omega arith)

pub start_inside : (s : List ℕ) (e : ℕ) → start s e ≤ length s
unfolding start
start_inside s zero = omega arith
start_inside s (suc e) = size_inside s (start s e) (start_inside s e)

-- and end within the trace
pub place_inside :
    (s : List ℕ) (e at n : ℕ) → at ≡ start s e → n ≡ size_at s at → at + n ≤ length s
place_inside s e at n is size =
    omega (arith, size, size_inside s at (omega (arith, is, start_inside s e)))

-- records start in their order
pub start_mono : (s : List ℕ) (i e : ℕ) → i ≤ e → start s i ≤ start s e
unfolding start
start_mono s i e h = up_to (e - i) e (omega arith)
  where
    up_to : (d n : ℕ) → n ≡ i + d → start s i ≤ start s n
    up_to zero n is = let same : n ≡ i = omega arith in rw same (omega arith)
    up_to (suc d) n is = let next : n ≡ suc (i + d) = omega arith in rw next (omega (arith, up_to d (i + d) refl))

-- one more record, as a loop has it
pub start_more : (s : List ℕ) (e at n : ℕ) → at ≡ start s e → n ≡ size_at s at → at + n ≡ start s (e + 1)
unfolding start
start_more s e at n is size = rw (add-one, size, is)

-- ---- the bytes from a position on, as the code lends them

pub tail_is : (s : List ℕ) (at : ℕ) → take (length s - at) (drop at s) ≡ drop at s
tail_is s at = take_all (length s - at) (drop at s) (simp length-drop (omega arith))

-- at the end and past it nothing has a size
pub no_size : (s : List ℕ) (at : ℕ) → length s ≤ at → size_at s at ≡ 0
unfolding size_at frame
no_size s at past =
    let none : length (drop at s) ≡ 0 = simp length-drop (omega arith) in
    simp (eq-eqb _ _ none)

-- what has a size has a length and a kind
pub size_enough : (s : List ℕ) (at : ℕ) → size_at s at ≢ 0 → 4 ≤ size_at s at
unfolding size_at
size_enough s at some = by_frame (framed_or_none (frame (drop at s)))
  where
    by_frame :
        ((n : ℕ) × (frame (drop at s) ≡ Ok n)) ⊎ (size_of (frame (drop at s)) ≡ 0)
        → 4 ≤ size_of (frame (drop at s))
    by_frame (inl (n, is)) = rw is (frame→ (drop at s) n is).enough
    by_frame (inr none) = absurd (some none)

module _ (s : List ℕ) (at : ℕ) (rest : List ℕ) (rest_is : rest ≡ take (length s - at) (drop at s)) where
  rest_lem : rest ≡ drop at s
  rest_lem = rest_is ∙ tail_is s at

  size_is : (f : Result ℕ Refusal) → f ≡ frame rest → size_of f ≡ size_at s at
  unfolding size_at
  size_is f is = ap size_of (is ∙ ap frame rest_lem)

  -- their frame gives the size there
  pub size_of_rest :
      (f : Result ℕ Refusal) → at ≤ length s → f ≡ frame rest
      → (size_of f ≡ size_at s at) × (size_of f ≢ 0 → (4 ≤ size_of f) × (at + size_of f ≤ length s))
  size_of_rest f inside is = (
    size_is f is,
    λ some. rw (size_is f is) (
      size_enough s at
          (λ none. some (size_is f is ∙ none)),
      size_inside s at inside,
    ),
  )

  -- what reading them answers gives what reading at the position answers
  of_rest : (a : Answer) → a ≡ read_first rest → from at a ≡ read_at s at
  unfolding read_at
  of_rest a is = ap (from at) (is ∙ ap read_first rest_lem)

  pub event_of_rest : (e : Event) (n : ℕ) → event e n ≡ read_first rest → event e (at + n) ≡ read_at s at
  event_of_rest e n is = of_rest (event e n) is

  pub refusal_of_rest : (k : ℕ) → refused k 0 ≡ read_first rest → refused k 0 ≡ read_at s at
  refusal_of_rest k is = of_rest (refused k 0) is

  -- a record that was read ends within them
  pub read_inside : (e : Event) (n : ℕ) → event e n ≡ read_first rest → n ≤ length s - at
  read_inside e n is =
      let read : read_first (drop at s) ≡ event e n = sym (is ∙ ap read_first rest_lem) in
      omega (arith, (read→ (drop at s) e n read).framed.inside, length-drop at s)

-- at the end and past it there are no bytes
pub read_past_end : (s : List ℕ) (at : ℕ) → length s ≤ at → refused 1 0 ≡ read_at s at
unfolding read_at read_first read_framed frame
read_past_end s at past =
    let none : length (drop at s) ≡ 0 = simp length-drop (omega arith) in
    simp (eq-eqb _ _ none)

pub ruleset of_the_rest = (read_past_end, event_of_rest, refusal_of_rest, read_inside)

-- and only there refusal 1 is answered
pub one_past_end : (s : List ℕ) (at i : ℕ) → read_at s at ≡ refused 1 i → length s ≤ at
unfolding read_at
one_past_end s at i h =
    omega (arith, length-drop at s, one_of_none (drop at s) i (same_refusal (read_first (drop at s)) h))
  where
    same_refusal : (a : Answer) → from at a ≡ refused 1 i → a ≡ refused 1 i
    same_refusal (refused k e) is = is
    same_refusal (event e n) is = absurd (clash (cc))
    same_refusal (wrote n) is = absurd (clash (cc))

-- ---- empty parts

-- behind a record that cannot be framed no record starts later
start_stays : (s : List ℕ) (i e : ℕ) → i ≤ e → size_at s (start s i) ≡ 0 → start s e ≡ start s i
unfolding start
start_stays s i e h none = up_to (e - i) e (omega arith)
  where
    up_to : (d n : ℕ) → n ≡ i + d → start s n ≡ start s i
    up_to zero n is = let same : n ≡ i = omega arith in rw same
    up_to (suc d) n is =
        let before : start s (i + d) ≡ start s i = up_to d (i + d) refl in
        let next : n ≡ suc (i + d) = omega arith in
        let size : size_at s (start s (i + d)) ≡ 0 = rw before none in
        rw (next, size, before) (omega arith)

part_after : (s : List ℕ) (i e : ℕ) → i ≤ e → size_at s (start s i) ≡ 0 → record_part s e ≡ []
unfolding record_part
part_after s i e h none = rw (start_stays s i e h none, none)

part_some : (s : List ℕ) (e : ℕ) → AllFramed s e → record_part s e ≡ [] → ⊥
unfolding record_part size_at
part_some s e all empty =
    let f = all.framed e (omega arith) in
    let t = drop (start s e) s in
    let framed = frame→ t f.0 f.1 in
    let taken : take f.0 t ≡ [] = rw f.1 at empty in
    omega (arith, length-take-le f.0 t framed.inside, ap length taken)

-- the records before number m can all be framed, or one of them cannot
abbrev Starts : List ℕ → ℕ → Type 0
Starts s i = (n : ℕ) × (frame (drop (start s i) s) ≡ Ok n)

abbrev Stops : List ℕ → ℕ → Type 0
Stops s m = (i : ℕ) × (i < m) × (size_at s (start s i) ≡ 0)

framed_before : (s : List ℕ) (m : ℕ) → ((i : ℕ) → i < m → Starts s i) ⊎ Stops s m
unfolding size_at
framed_before s zero = inl (λ i h. absurd (omega arith))
framed_before s (suc m) = with_next (framed_before s m) (framed_or_none (frame (drop (start s m) s)))
  where
    with_next :
        ((i : ℕ) → i < m → Starts s i) ⊎ Stops s m → Starts s m ⊎ (size_of (frame (drop (start s m) s)) ≡ 0)
        → ((i : ℕ) → i < suc m → Starts s i) ⊎ Stops s (suc m)
    with_next (inr (i, h, none)) f = inr (i, omega arith, none)
    with_next (inl all) (inr none) = inr (m, omega arith, none)
    with_next (inl all) (inl f) = inl (λ i h. at_index i (eq-or-lt_of_le h))
      where
        at_index : (i : ℕ) → (suc i ≡ suc m) ⊎ (suc i < suc m) → Starts s i
        at_index i (inl e) = let same : i ≡ m = omega arith in rw same f
        at_index i (inr l) = all i (omega arith)

pub empty_exactly : (s : List ℕ) (e : ℕ) → (record_part s e ≡ []) ↔ (AllFramed s e → ⊥)
empty_exactly s e = (λ empty all. part_some s e all empty, λ not_all. by_cases not_all (framed_before s (suc e)))
  where
    by_cases :
        (AllFramed s e → ⊥) → ((i : ℕ) → i < suc e → Starts s i) ⊎ Stops s (suc e) → record_part s e ≡ []
    by_cases not_all (inl all) = absurd (not_all (record { framed = λ i h. all i (omega arith) }))
    by_cases not_all (inr (i, h, none)) = part_after s i e (omega arith) none

-- where the code has come, once i is e; and before that, if record i cannot be framed
pub place_is :
    (s : List ℕ) (i e at n : ℕ) → i ≡ e → at ≡ start s i → n ≡ size_at s at
    → record { start = at; size = n } ≡ place_of s e
place_is s i e at n same is size = rw (size, is, same) refl

pub place_stays :
    (s : List ℕ) (i e at : ℕ) → i ≤ e → at ≡ start s i → size_at s at ≡ 0
    → record { start = at; size = 0 } ≡ place_of s e
place_stays s i e at below is none =
    let unframed : size_at s (start s i) ≡ 0 = rw (sym is) none in
    rw (start_stays s i e below unframed, unframed, is) refl

pub ruleset places = (start_inside, start_more, place_inside, place_is, place_stays)

-- the bytes from where a record starts to its end are the part
pub part_is :
    (s : List ℕ) (e : ℕ) (p : Place) → p ≡ place_of s e
    → take (p.start + p.size - p.start) (drop p.start s) ≡ record_part s e
unfolding record_part
part_is s e p is =
    let span : p.start + p.size - p.start ≡ p.size = omega arith in
    rw (span, is) refl

-- ---- parts one after the other

pub records_to_front : (s : List ℕ) (e : ℕ) → records_to s e ≡ take (start s (suc e)) s
unfolding records_to record_part start
records_to_front s zero = rw zero-add
records_to_front s (suc e) = let at = start s (suc e) in rw (records_to_front s e) (sym (take-add at (size_at s at) s))

-- ---- reading record by record

-- "Reading goes record by record": reading at a position is reading one record, the first of the bytes from there on
pub read_at_lem : (s : List ℕ) (at : ℕ) → read_at s at ≡ from at (read_first (drop at s))
unfolding read_at
read_at_lem s at = refl

pub from_event :
    (at : ℕ) (a : Answer) (e : Event) (p : ℕ) → from at a ≡ event e p
    → (n : ℕ) × (a ≡ event e n) × (p ≡ at + n)
from_event at (refused k i) e p h = absurd (clash (cc))
from_event at (event x n) e p h = (n, cc, cc)
from_event at (wrote n) e p h = absurd (clash (cc))

-- a record that was read ends where its frame does
pub read_past : (s : List ℕ) (at : ℕ) (e : Event) (p : ℕ) → read_at s at ≡ event e p → p ≡ at + size_at s at
unfolding read_at size_at
read_past s at e p h =
    let r = from_event at (read_first (drop at s)) e p h in
    let framed = (read→ (drop at s) e r.0 r.1).framed in
    rw (→frame (drop at s) r.0 framed) r.2

-- reading record number e leads to where record number e + 1 starts
pub read_next : (s : List ℕ) (i : ℕ) (e : Event) (p : ℕ) → read_at s (start s i) ≡ event e p → p ≡ start s (suc i)
unfolding start
read_next s i e p h = read_past s (start s i) e p h

-- a record that was read has at least four bytes
pub read_grows :
    (s : List ℕ) (i : ℕ) (e : Event) (p : ℕ) → read_at s (start s i) ≡ event e p → start s i + 4 ≤ start s (suc i)
unfolding read_at
read_grows s i e p h =
    let r = from_event (start s i) (read_first (drop (start s i) s)) e p h in
    omega (arith, read_next s i e p h, r.2, (read→ (drop (start s i) s) e r.0 r.1).framed.enough)

-- reading at a position answers an event, or one of the refusals 1 to 4 with event 0
pub read_at_answers : (s : List ℕ) (at : ℕ) → Answers (read_at s at)
unfolding read_at
read_at_answers s at = by_answer (read_first (drop at s)) (read_answers (drop at s))
  where
    by_answer : (a : Answer) → Answers a → Answers (from at a)
    by_answer a (an_event e n is) = rw is (an_event e (at + n) refl)
    by_answer a (a_refusal k low high is) = rw is (a_refusal k low high refl)
