-- What a frame and a record that was read say about the bytes: the definitions' cases, turned round.
use mathlib.Core.Path.{◌≡◌, refl, sym, ap, ◌∙◌}
use mathlib.Core.Bool.{Bool, true, false, not}
use mathlib.Core.List.{List}
use mathlib.Core.Logic.{◌⊎◌, inl, inr}
use Prim.Native.Nat.{ℕ, ◌+◌, ◌≤◌}
use native.Mathlib.Omega.{arith}
use Rattle.std.specs.Prelude.{Result, Ok, Err}
use lib.ListN.{length}
use lib.Dec.{ltb, eqb}
use borrow.Author.Tests.{ltb-false, eqb-false, eqb-true, eq-eqb, ne_eqb, le-ltb}
use Rattle.record.specs.Tests.{◌gives◌else◌}
use Rattle.record.specs.Bytes.{word}
use Rattle.record.specs.Table.{row_of, length_of}
use Rattle.record.specs.Fields.{fields_at, event_of}
use Rattle.record.specs.Answers.{Answer, refused, event, wrote, number_of}
use Rattle.record.specs.Reading.{frame, read_framed, read_first}
use Rattle.record.specs.declared.events.Event.{Event}
use Rattle.record.specs.declared.refusal.Refusal.{Refusal}
use Rattle.record.specs.declared.refusal.Refusal.TheVariants.{NoRecord, CutShort, UnknownKind, WrongLength, NoRoom}

-- two different constructors are not equal: `cc` proves 0 ≡ 1 of them
pub clash : ◌≡◌ {A = ℕ} 0 1 → ⊥
clash z = omega arith

-- ---- frames

-- a record of n bytes stands at the front of s
pub record Framed (s : List ℕ) (n : ℕ) : Type 0 where
  pub enough : 4 ≤ n
  pub inside : n ≤ length s
  pub length_is : word s 0 + 2 ≡ n

framed_by_tests :
    (l w n : ℕ) (s : List ℕ) (none short low cut : Bool)
    → length s ≡ l → word s 0 ≡ w → ltb w 2 ≡ low → ltb l (w + 2) ≡ cut
    → (none gives Err NoRecord else short gives Err CutShort else low gives Err WrongLength else
    cut gives Err CutShort else Ok (w + 2))
    ≡ Ok n
    → Framed s n
framed_by_tests l w n s true short low cut p q r t h = absurd (clash (cc))
framed_by_tests l w n s false true low cut p q r t h = absurd (clash (cc))
framed_by_tests l w n s false false true cut p q r t h = absurd (clash (cc))
framed_by_tests l w n s false false false true p q r t h = absurd (clash (cc))
framed_by_tests l w n s false false false false p q r t h =
    let size_is : w + 2 ≡ n = cc in
    let low_is = ltb-false w 2 r in
    let cut_is = ltb-false l (w + 2) t in
    record { enough = omega arith; inside = omega arith; length_is = omega arith }

pub frame→ : (s : List ℕ) (n : ℕ) → frame s ≡ Ok n → Framed s n
unfolding frame
frame→ s n h =
    let none = eqb (length s) 0 in
    let short = ltb (length s) 2 in
    framed_by_tests (length s) (word s 0) n s none short _ _ refl refl refl refl h

-- what reading the framed bytes asks for
pub framed_within : (s : List ℕ) (n : ℕ) → frame s ≡ Ok n → (4 ≤ n) × (n ≤ length s)
framed_within s n h = let f = frame→ s n h in (f.enough, f.inside)

pub →frame : (s : List ℕ) (n : ℕ) → Framed s n → frame s ≡ Ok n
unfolding frame
→frame s n f =
    let some_bytes : length s ≡ 0 → ⊥ = λ (e : length s ≡ 0). omega arith in
    simp (
      ne_eqb _ _ some_bytes,
      le-ltb (length s) 2 (omega arith),
      le-ltb (word s 0) 2 (omega arith),
      f.length_is,
      le-ltb (length s) n f.inside,
    )

-- ---- records that were read

-- the event e with a record of n bytes was read at the front of s
pub record IsRead (s : List ℕ) (e : Event) (n : ℕ) : Type 0 where
  pub framed : Framed s n
  pub known : length_of (word s 2) ≡ 0 → ⊥
  pub length_fits : length_of (word s 2) + 2 ≡ n
  pub event_is : event_of (word s 2) (fields_at s (row_of (word s 2))) ≡ e

read_by_tests :
    (n m : ℕ) (x e : Event) (unknown fits : Bool)
    → (unknown gives refused 3 0 else not fits gives refused 4 0 else event x m) ≡ event e n
    → (m ≡ n) × (unknown ≡ false) × (fits ≡ true) × (x ≡ e)
read_by_tests n m x e true fits h = absurd (clash (cc))
read_by_tests n m x e false true h = (cc, refl, refl, cc)
read_by_tests n m x e false false h = absurd (clash (cc))

read_framed→ :
    (s : List ℕ) (f : Result ℕ Refusal) (e : Event) (n : ℕ) → frame s ≡ f → read_framed s f ≡ event e n → IsRead s e n
unfolding read_framed
read_framed→ s (Err r) e n is h = absurd (clash (cc))
read_framed→ s (Ok m) e n is h =
    let l = length_of (word s 2) in
    let tests = read_by_tests n m _ e (eqb l 0) (eqb (l + 2) m) h in
    record {
      framed = frame→ s n (is ∙ ap Ok tests.0);
      known = eqb-false l 0 tests.1;
      length_fits = eqb-true (l + 2) m tests.2 ∙ tests.0;
      event_is = tests.3;
    }

pub read→ : (s : List ℕ) (e : Event) (n : ℕ) → read_first s ≡ event e n → IsRead s e n
unfolding read_first
read→ s e n h = read_framed→ s (frame s) e n refl h

-- bytes that begin with a known kind and its length are read
pub →read :
    (s : List ℕ) (k n : ℕ) → Framed s n → word s 2 ≡ k → length_of k + 2 ≡ n
    → read_first s ≡ event (event_of k (fields_at s (row_of k))) n
unfolding read_first read_framed
→read s k n f kind_is length_fits =
    let known : length_of k ≡ 0 → ⊥ = λ (e : length_of k ≡ 0). omega (arith, f.enough) in
    rw (→frame s n f) (simp (kind_is, ne_eqb _ _ known, eq-eqb _ _ length_fits))

-- what the frame says of the first record
pub unframed : (s : List ℕ) (r : Refusal) → frame s ≡ Err r → refused (number_of r) 0 ≡ read_first s
unfolding read_first read_framed
unframed s r is = rw is refl

pub framed : (s : List ℕ) (n : ℕ) (a : Answer) → frame s ≡ Ok n → a ≡ read_framed s (Ok n) → a ≡ read_first s
unfolding read_first
framed s n a is answered = rw is answered

pub ruleset by_frame = (framed_within, unframed, framed)

-- ---- what reading answers

-- reading one record answers an event, or one of the refusals 1 to 4 with event 0
pub data Answers (a : Answer) : Type 0 where
  an_event : (e : Event) (n : ℕ) → a ≡ event e n → Answers a
  a_refusal : (k : ℕ) → 1 ≤ k → k ≤ 4 → a ≡ refused k 0 → Answers a

framed_by_numbers :
    (none short low cut : Bool) (n : ℕ) (f : Result ℕ Refusal)
    → (none gives Err NoRecord else short gives Err CutShort else low gives Err WrongLength else
    cut gives Err CutShort else Ok n)
    ≡ f
    → ((m : ℕ) × (f ≡ Ok m)) ⊎ ((r : Refusal) × (1 ≤ number_of r) × (number_of r ≤ 4) × (f ≡ Err r))
framed_by_numbers true short low cut n f h = inr (NoRecord, omega arith, omega arith, sym h)
framed_by_numbers false true low cut n f h = inr (CutShort, omega arith, omega arith, sym h)
framed_by_numbers false false true cut n f h = inr (WrongLength, omega arith, omega arith, sym h)
framed_by_numbers false false false true n f h = inr (CutShort, omega arith, omega arith, sym h)
framed_by_numbers false false false false n f h = inl (n, sym h)

answered_by_tests :
    (unknown fits : Bool) (x : Event) (n : ℕ)
    → Answers (unknown gives refused 3 0 else not fits gives refused 4 0 else event x n)
answered_by_tests true fits x n = a_refusal 3 (omega arith) (omega arith) refl
answered_by_tests false true x n = an_event x n refl
answered_by_tests false false x n = a_refusal 4 (omega arith) (omega arith) refl

pub read_answers : (s : List ℕ) → Answers (read_first s)
unfolding read_first read_framed frame
read_answers s = by_frame (frame s) (framed_by_numbers none short low cut (word s 0 + 2) (frame s) refl)
  where
    none : Bool
    none = eqb (length s) 0

    short : Bool
    short = ltb (length s) 2

    low : Bool
    low = ltb (word s 0) 2

    cut : Bool
    cut = ltb (length s) (word s 0 + 2)

    by_frame :
        (f : Result ℕ Refusal) → ((m : ℕ) × (f ≡ Ok m)) ⊎ ((r : Refusal) × (1 ≤ number_of r) × (number_of r ≤ 4) × (f ≡ Err r))
        → Answers (read_framed s f)
    by_frame f (inl (m, is)) =
        let l = length_of (word s 2) in
        rw is (answered_by_tests (eqb l 0) (eqb (l + 2) m) (event_of (word s 2) (fields_at s (row_of (word s 2)))) m)
    by_frame f (inr (r, from_one, to_four, is)) = rw is (a_refusal (number_of r) from_one to_four refl)

-- refusal 1 is of no bytes
abbrev refused_with : Answer → ℕ
refused_with (refused k i) = k
refused_with (event e n) = 0
refused_with (wrote n) = 0

pub one_of_none : (s : List ℕ) (i : ℕ) → read_first s ≡ refused 1 i → length s ≡ 0
unfolding read_first read_framed frame
one_of_none s i h =
    eqb-true (length s) 0
    (by_tests (eqb (length s) 0) (ltb (length s) 2) (ltb (word s 0) 2) (ltb (length s) (word s 0 + 2)) (ap refused_with h))
  where
    known : ℕ
    known = length_of (word s 2)

    by_kind :
        (unknown fits : Bool) (x : Event) (n : ℕ)
        → refused_with (unknown gives refused 3 0 else not fits gives refused 4 0 else event x n) ≡ 1 → ⊥
    by_kind true fits x n is = omega arith
    by_kind false true x n is = omega arith
    by_kind false false x n is = omega arith

    by_tests :
        (none short low cut : Bool)
        → refused_with (read_framed s (none gives Err NoRecord else short gives Err CutShort else low gives Err WrongLength else
        cut gives Err CutShort else Ok (word s 0 + 2)))
        ≡ 1
        → none ≡ true
    by_tests true short low cut is = refl
    by_tests false true low cut is = absurd (omega arith)
    by_tests false false true cut is = absurd (omega arith)
    by_tests false false false true is = absurd (omega arith)
    by_tests false false false false is =
        absurd (by_kind (eqb known 0) (eqb (known + 2) (word s 0 + 2)) _ _ is)
