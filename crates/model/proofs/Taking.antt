-- Some records of a list taken out (specs/Flushes.antt, `kept`, `number` and `staying`): the others keep their order,
-- which makes a numbering, and what stays is, in each place, the event with that number.
-- In order: the laws of `kept` and `number`; the numbering; what stays; one record; the example of specs/Flushes.antt.
use Prim.Native.Nat.{ℕ, zero, suc, ◌-◌, ◌≤◌, ◌<◌}
use native.Mathlib.Omega.{arith}
use mathlib.Core.Path.{◌≡◌, refl, sym, ◌∙◌, ap}
use mathlib.Core.Bool.{Bool, true, false, cond}
use mathlib.Core.List.{List, [], ◌∷◌, map}
use mathlib.Core.Logic.{◌⊎◌, inl, inr, ◌≢◌}
use lib.ListN.{length}
use lib.Dec.{ltb}
use borrow.Author.Tests.{eq-eqb, ne_eqb, lt-ltb, le-ltb}
use Rattle.record.specs.declared.events.Event.{Event}
use Rattle.record.specs.declared.events.Event.TheVariants.{Begin, Issue, Commit, Load, Clwb}
use Rattle.record.specs.Fields.{event_of}
use Rattle.model.specs.Trace.{trace_of}
use Rattle.model.specs.Flushes.{later, kept, number, moved, staying, without, taken, only}
use Rattle.model.specs.Embedding.{Numbering}
use Rattle.model.proofs.Searching.{test, same?, less?, false_true}
use Rattle.model.proofs.Moving.{moved_crash}

pub kept_none : (out? : ℕ → Bool) (es : List Event) → kept out? es 0 ≡ 0
unfolding kept
kept_none out? [] = refl
kept_none out? (e ∷ es) = refl

pub kept_event :
    (out? : ℕ → Bool) (es : List Event) (n : ℕ) → out? n ≡ false → kept out? es (suc n) ≡ suc (kept out? es n)
unfolding kept
kept_event out? [] n stays = refl
kept_event out? (e ∷ es) zero stays = rw stays (ap suc (kept_none (later out?) es))
kept_event out? (e ∷ es) (suc n) stays = by_first (out? 0) (kept_event (later out?) es n stays)
  where
    rest : ℕ → ℕ
    rest = kept (later out?) es

    by_first :
        (b : Bool) → rest (suc n) ≡ suc (rest n)
        → cond b (rest (suc n)) (suc (rest (suc n))) ≡ suc (cond b (rest n) (suc (rest n)))
    by_first true earlier = earlier
    by_first false earlier = ap suc earlier

-- the numbers behind a first record that is taken out
number_out :
    (out? : ℕ → Bool) (e : Event) (es : List Event) (n : ℕ) → out? 0 ≡ true
    → number out? (e ∷ es) n ≡ suc (number (later out?) es n)
unfolding number
number_out out? e es zero out = rw out
number_out out? e es (suc n) out = rw out

pub number_kept :
    (out? : ℕ → Bool) (es : List Event) (n : ℕ) → out? n ≡ false → number out? es (kept out? es n) ≡ n
unfolding kept number
number_kept out? [] n stays = refl
number_kept out? (e ∷ es) zero stays = rw stays
number_kept out? (e ∷ es) (suc n) stays = by_first (test (out? 0)) (number_kept (later out?) es n stays)
  where
    rest : ℕ
    rest = kept (later out?) es n

    by_first :
        (out? 0 ≡ true) ⊎ (out? 0 ≡ false) → number (later out?) es rest ≡ n
        → number out? (e ∷ es) (cond (out? 0) rest (suc rest)) ≡ suc n
    by_first (inl out) earlier = rw out (number_out out? e es rest out ∙ ap suc earlier)
    by_first (inr stays) earlier = rw (stays, stays) (ap suc earlier)

pub kept_number : (out? : ℕ → Bool) (es : List Event) (n : ℕ) → kept out? es (number out? es n) ≡ n
unfolding kept number
kept_number out? [] n = refl
kept_number out? (e ∷ es) n = by_first (test (out? 0)) (λ m. kept_number (later out?) es m) n
  where
    by_first :
        (out? 0 ≡ true) ⊎ (out? 0 ≡ false) → ((m : ℕ) → kept (later out?) es (number (later out?) es m) ≡ m)
        → (n : ℕ) → kept out? (e ∷ es) (number out? (e ∷ es) n) ≡ n
    by_first (inl out) rest n = rw (number_out out? e es n out, out) (rest n)
    by_first (inr stays) rest zero = rw stays
    by_first (inr stays) rest (suc n) = rw stays (ap suc (rest n))

-- past the end nothing is taken out
abbrev pub Inside : (ℕ → Bool) → List Event → Type 0
Inside out? es = (n : ℕ) → length es ≤ n → out? n ≡ false

inside_later : (out? : ℕ → Bool) (e : Event) (es : List Event) → Inside out? (e ∷ es) → Inside (later out?) es
inside_later out? e es inside n past = inside (suc n) (omega arith)

pub kept_out :
    (out? : ℕ → Bool) (es : List Event) → Inside out? es
    → (n : ℕ) → out? n ≡ true → kept out? es (suc n) ≡ kept out? es n
unfolding kept
kept_out out? [] inside n out = false_true (sym (inside n (omega arith)) ∙ out)
kept_out out? (e ∷ es) inside zero out = rw out (kept_none (later out?) es)
kept_out out? (e ∷ es) inside (suc n) out = rw (kept_out (later out?) es (inside_later out? e es inside) n out)

pub number_stays : (out? : ℕ → Bool) (es : List Event) → Inside out? es → (n : ℕ) → out? (number out? es n) ≡ false
unfolding number
number_stays out? [] inside n = inside n (omega arith)
number_stays out? (e ∷ es) inside n =
    by_first (test (out? 0)) (λ m. number_stays (later out?) es (inside_later out? e es inside) m) n
  where
    by_first :
        (out? 0 ≡ true) ⊎ (out? 0 ≡ false) → ((m : ℕ) → out? (suc (number (later out?) es m)) ≡ false)
        → (n : ℕ) → out? (number out? (e ∷ es) n) ≡ false
    by_first (inl out) rest n = rw (number_out out? e es n out) (rest n)
    by_first (inr stays) rest zero = rw stays stays
    by_first (inr stays) rest (suc n) = rw stays (rest n)

-- ---- the numbering

abbrev pub taking : (out? : ℕ → Bool) (es : List Event) → Inside out? es → out? 0 ≡ false → Numbering
taking out? es inside first_stays = record {
  gap? = out?;
  number = number out? es;
  kept = kept out? es;
  kept_none = kept_none out? es;
  kept_gap = kept_out out? es inside;
  kept_event = kept_event out? es;
  number_kept = number_kept out? es;
  kept_number = kept_number out? es;
  number_stays = number_stays out? es inside;
  first_stays = first_stays;
}

-- ---- what stays

-- what stays is, in each place, the event with that number, its source renumbered
pub event_there :
    (out? : ℕ → Bool) (f : ℕ → ℕ) (es : List Event) (n : ℕ)
    → trace_of (staying out? f es) n ≡ moved f (trace_of es (number out? es n))
unfolding staying number
event_there out? f [] n = sym (moved_crash f)
event_there out? f (e ∷ es) n = by_first (test (out? 0)) (λ m. event_there (later out?) f es m) n
  where
    by_first :
        (out? 0 ≡ true) ⊎ (out? 0 ≡ false)
        → ((m : ℕ) → trace_of (staying (later out?) f es) m ≡ moved f (trace_of es (number (later out?) es m)))
        → (n : ℕ) → trace_of (staying out? f (e ∷ es)) n ≡ moved f (trace_of (e ∷ es) (number out? (e ∷ es) n))
    by_first (inl out) rest n = rw (number_out out? e es n out, out) (rest n)
    by_first (inr stays) rest zero = rw stays
    by_first (inr stays) rest (suc n) = rw stays (rest n)

pub length_kept :
    (out? : ℕ → Bool) (f : ℕ → ℕ) (es : List Event) → kept out? es (length es) ≡ length (staying out? f es)
unfolding kept staying
length_kept out? f [] = refl
length_kept out? f (e ∷ es) = by_first (test (out? 0)) (length_kept (later out?) f es)
  where
    by_first :
        (out? 0 ≡ true) ⊎ (out? 0 ≡ false)
        → kept (later out?) es (length es) ≡ length (staying (later out?) f es)
        → kept out? (e ∷ es) (length (e ∷ es)) ≡ length (staying out? f (e ∷ es))
    by_first (inl out) rest = rw out rest
    by_first (inr stays) rest = rw stays (ap suc rest)

-- ---- one record

module _ (es : List Event) (k : ℕ) (there : k < length es) where
  abbrev kept_here : ℕ → ℕ
  kept_here = kept (only k) es

  inside_one : Inside (only k) es
  inside_one n past = ne_eqb n k (λ is. omega arith)

  kept_before : (n : ℕ) → n ≤ k → kept_here n ≡ n
  kept_before zero before = kept_none (only k) es
  kept_before (suc n) before =
      kept_event (only k) es n (ne_eqb n k (λ is. omega arith)) ∙ ap suc (kept_before n (omega arith))

  kept_past : (n : ℕ) → n ≡ k → kept_here (suc n) ≡ n
  kept_past n is = kept_out (only k) es inside_one n (eq-eqb n k is) ∙ kept_before n (omega arith)

  kept_behind : (n : ℕ) → k ≤ n → kept_here (suc n) ≡ n
  kept_behind zero behind = kept_past 0 (omega arith)
  kept_behind (suc n) behind = by_place (same? (suc n) k) (kept_behind n)
    where
      by_place : (suc n ≡ k) ⊎ (suc n ≢ k) → (k ≤ n → kept_here (suc n) ≡ n) → kept_here (suc (suc n)) ≡ suc n
      by_place (inl is) earlier = kept_past (suc n) is
      by_place (inr differs) earlier =
          kept_event (only k) es (suc n) (ne_eqb (suc n) k differs) ∙ ap suc (earlier (omega arith))

  -- events behind it have numbers greater by one
  pub number_one : (n : ℕ) → number (only k) es n ≡ cond (ltb n k) n (suc n)
  number_one n = by_order (less? n k)
    where
      by_order : (n < k) ⊎ (k ≤ n) → number (only k) es n ≡ cond (ltb n k) n (suc n)
      by_order (inl before) =
          rw (lt-ltb n k before) (rw (kept_before n (omega arith)) at
          (number_kept (only k) es n (ne_eqb n k (λ is. omega arith))))
      by_order (inr behind) =
          rw (le-ltb n k behind) (rw (kept_behind n behind) at
          (number_kept (only k) es (suc n) (ne_eqb (suc n) k (λ is. omega arith))))

  pub taken_one : taken (only k) es ≡ 1
  taken_one =
      let last = length es - 1 in
      let all : suc last ≡ length es = omega arith in
      let stay : kept_here (length es) ≡ last = rw all at (kept_behind last (omega arith)) in
      omega (arith, length_kept (only k) kept_here es)

-- ---- the example of specs/Flushes.antt

abbrev whole : List Event
whole = Begin 1 1 1 ∷ Clwb 0 0 ∷ Issue 0 0 ∷ Commit 0 ∷ Load 0 0 2 ∷ []

abbrev short : List Event
short = Begin 1 1 1 ∷ Issue 0 0 ∷ Commit 0 ∷ Load 0 0 1 ∷ []

example_kept : map (kept (only 1) whole) (0 ∷ 1 ∷ 2 ∷ 3 ∷ 4 ∷ []) ≡ 0 ∷ 1 ∷ 1 ∷ 2 ∷ 3 ∷ []
unfolding kept
example_kept = refl

example_number : map (number (only 1) whole) (0 ∷ 1 ∷ 2 ∷ 3 ∷ []) ≡ 0 ∷ 2 ∷ 3 ∷ 4 ∷ []
unfolding number
example_number = refl

example_without : without (only 1) whole ≡ short
unfolding kept staying moved event_of
example_without = refl
