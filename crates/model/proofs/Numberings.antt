-- The numbers of a part's events in the whole (specs/Embedding.antt): they keep their order, and a search among those
-- of the whole finds what it finds among the part's. In order: threads and locations; order; equality and order, as
-- tests; tests and searches. No law here speaks of events.
use Prim.Native.Nat.{ℕ, zero, suc, ◌≤◌, ◌<◌}
use native.Mathlib.Omega.{arith}
use mathlib.Core.Path.{◌≡◌, sym, ◌∙◌, ap}
use mathlib.Core.Bool.{Bool, true, false, cond}
use mathlib.Core.Logic.{◌⊎◌, inl, inr, ◌≢◌}
use lib.Dec.{eqb, ltb}
use borrow.Author.Tests.{eqb-true, eq-eqb, ne_eqb, ltb-true, lt-ltb}
use Rattle.model.specs.Search.{last}
use Rattle.model.specs.Embedding.{Numbering, Naming}
use Rattle.model.proofs.Searching.{same?, less?, test, same_test, false_true}

-- a function that keeps numbers apart
pub injective_eqb :
    (f : ℕ → ℕ) → ((a b : ℕ) → f a ≡ f b → a ≡ b) → (a b : ℕ) → eqb (f a) (f b) ≡ eqb a b
injective_eqb f injective a b =
    same_test (eqb (f a) (f b)) (eqb a b) (λ passes. eq-eqb a b (injective a b (eqb-true (f a) (f b) passes)))
    (λ passes. eq-eqb (f a) (f b) (ap f (eqb-true a b passes)))

-- ---- numbers of threads and locations

pub into_injective : (name : Naming) (s t : ℕ) → name.into s ≡ name.into t → s ≡ t
into_injective name s t same = sym (name.back_into s) ∙ rw same (name.back_into t)

-- the part's numbers keep their differences
pub into_eqb : (name : Naming) (s t : ℕ) → eqb (name.into s) (name.into t) ≡ eqb s t
into_eqb name = injective_eqb name.into (into_injective name)

-- a number that is not the part's is none of them
pub not_own : (name : Naming) (u v : ℕ) → name.own? u ≡ false → name.own? v ≡ true → eqb u v ≡ false
not_own name u v other own = ne_eqb u v (λ same. false_true (sym other ∙ rw same own))

module _ (by : Numbering) where
  -- ---- order

  pub number_zero : by.number 0 ≡ 0
  number_zero = rw by.kept_none at (by.number_kept 0 by.first_stays)

  pub kept_mono : (m n : ℕ) → m ≤ n → by.kept m ≤ by.kept n
  kept_mono m zero order = let none : m ≡ 0 = omega arith in rw none (omega arith)
  kept_mono m (suc n) order = last_or_earlier (same? m (suc n)) (test (by.gap? n)) (kept_mono m n)
    where
      last_or_earlier :
          (m ≡ suc n) ⊎ (m ≢ suc n) → (by.gap? n ≡ true) ⊎ (by.gap? n ≡ false)
          → (m ≤ n → by.kept m ≤ by.kept n) → by.kept m ≤ by.kept (suc n)
      last_or_earlier (inl is) either earlier = rw is (omega arith)
      last_or_earlier (inr differs) (inl gap) earlier = omega (arith, earlier (omega arith), by.kept_gap n gap)
      last_or_earlier (inr differs) (inr event) earlier = omega (arith, earlier (omega arith), by.kept_event n event)

  -- of the part's events before n, event m is one
  pub kept_lt : (m n : ℕ) → by.gap? m ≡ false → m < n → by.kept m < by.kept n
  kept_lt m n event below = omega (arith, by.kept_event m event, kept_mono (suc m) n below)

  pub kept_le : (n : ℕ) → by.kept n ≤ n
  kept_le zero = omega (arith, by.kept_none)
  kept_le (suc n) = by_gap (test (by.gap? n)) (kept_le n)
    where
      by_gap : (by.gap? n ≡ true) ⊎ (by.gap? n ≡ false) → by.kept n ≤ n → by.kept (suc n) ≤ suc n
      by_gap (inl gap) earlier = omega (arith, by.kept_gap n gap)
      by_gap (inr event) earlier = omega (arith, by.kept_event n event)

  -- the part's events that stand among the first n of the whole
  pub number_below : (e n : ℕ) → e < by.kept n → by.number e < n
  number_below e n below = by_order (less? (by.number e) n)
    where
      by_order : (by.number e < n) ⊎ (n ≤ by.number e) → by.number e < n
      by_order (inl less) = less
      by_order (inr more) = absurd (omega (arith, kept_mono n (by.number e) more, by.kept_number e))

  pub number_mono : (d e : ℕ) → d < e → by.number d < by.number e
  number_mono d e below = number_below d (by.number e) (rw (by.kept_number e) below)

  pub number_injective : (d e : ℕ) → by.number d ≡ by.number e → d ≡ e
  number_injective d e same_number = sym (by.kept_number d) ∙ rw same_number (by.kept_number e)

  pub number_le : (d e : ℕ) → d ≤ e → by.number d ≤ by.number e
  number_le d e order = by_order (same? d e)
    where
      by_order : (d ≡ e) ⊎ (d ≢ e) → by.number d ≤ by.number e
      by_order (inl is) = rw is (omega arith)
      by_order (inr differs) = omega (arith, number_mono d e (omega arith))

  -- and back
  pub number_order : (d e : ℕ) → by.number d ≤ by.number e → d ≤ e
  number_order d e order =
      omega (arith, kept_mono (by.number d) (by.number e) order, by.kept_number d, by.kept_number e)

  pub number_lt : (d e : ℕ) → by.number d < by.number e → d < e
  number_lt d e below =
      omega (
        arith,
        kept_lt (by.number d) (by.number e) (by.number_stays d) below,
        by.kept_number d,
        by.kept_number e,
      )

  -- records 0 to an event of the part, in the whole, hold the records 0 to that event of the part
  pub kept_past : (e : ℕ) → by.kept (suc (by.number e)) ≡ suc e
  kept_past e = by.kept_event (by.number e) (by.number_stays e) ∙ ap suc (by.kept_number e)

  -- ---- equality and order, as tests

  pub number_eqb : (d e : ℕ) → eqb (by.number d) (by.number e) ≡ eqb d e
  number_eqb = injective_eqb by.number number_injective

  pub number_eqb_zero : (e : ℕ) → eqb (by.number e) 0 ≡ eqb e 0
  number_eqb_zero e = rw number_zero at (number_eqb e 0)

  pub number_ltb : (d e : ℕ) → ltb (by.number d) (by.number e) ≡ ltb d e
  number_ltb d e =
      same_test (ltb (by.number d) (by.number e)) (ltb d e)
      (λ passes. lt-ltb d e (number_lt d e (ltb-true _ _ passes)))
      (λ passes. lt-ltb (by.number d) (by.number e) (number_mono d e (ltb-true _ _ passes)))

  -- ---- tests and searches

  -- a test f of the whole's numbers that no gap passes, and the number of an event exactly if the event passes g
  pub record Carried (f g : ℕ → Bool) : Type 0 where
    pub gap_fails : (n : ℕ) → by.gap? n ≡ true → f n ≡ false
    pub event_same : (e : ℕ) → f (by.number e) ≡ g e

  pub kept_same : {f g : ℕ → Bool} → Carried f g → (n : ℕ) → by.gap? n ≡ false → f n ≡ g (by.kept n)
  kept_same carried n event = rw (by.number_kept n event) at (carried.event_same (by.kept n))

  -- a search among the first n of the whole finds what it finds in the part
  pub last_kept : {f g : ℕ → Bool} → Carried f g → (n : ℕ) → last n f ≡ by.number (last (by.kept n) g)
  unfolding last
  last_kept carried zero = rw by.kept_none (sym number_zero)
  last_kept {f} {g} carried (suc n) = by_gap (test (by.gap? n)) (last_kept carried n)
    where
      by_test :
          (b : Bool) → last n f ≡ by.number (last (by.kept n) g) → by.number (by.kept n) ≡ n
          → cond b n (last n f) ≡ by.number (cond b (by.kept n) (last (by.kept n) g))
      by_test true earlier at_n = sym at_n
      by_test false earlier at_n = earlier

      by_gap :
          (by.gap? n ≡ true) ⊎ (by.gap? n ≡ false) → last n f ≡ by.number (last (by.kept n) g)
          → cond (f n) n (last n f) ≡ by.number (last (by.kept (suc n)) g)
      by_gap (inl gap) earlier = rw (by.kept_gap n gap, carried.gap_fails n gap) earlier
      by_gap (inr event) earlier =
          rw (by.kept_event n event, kept_same carried n event)
          (by_test (g (by.kept n)) earlier (by.number_kept n event))
