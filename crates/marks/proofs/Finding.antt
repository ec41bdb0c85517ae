-- The searches for the evidence find the ruling's: missing the smallest store of a pair, since a pair's missing store
-- is a marked one in the closure; observed the smallest observed store whose clock covers it.
use Prim.Native.Nat.{ℕ, zero, suc, ◌+◌, ◌*◌, ◌≤◌, ◌<◌}
use native.Mathlib.Omega.{arith}
use mathlib.Core.Path.{◌≡◌, refl, sym, ◌∙◌, ap}
use mathlib.Core.Bool.{Bool, true, false, ◌&&◌}
use mathlib.Core.Logic.{◌⊎◌, inl, inr}
use mathlib.Core.List.{List}
use Rattle.record.specs.declared.events.Event.{Event}
use Rattle.model.specs.Search.{bit, first, first_from}
use Rattle.model.specs.Rules.{Accepted}
use Rattle.model.specs.Clocks.{covers?}
use Rattle.model.specs.Stores.{marked?}
use Rattle.model.specs.Verdict.{forbidden?, observed?, pair?, missing?, bad?, closure, missing_of, observed_of}
use Rattle.model.proofs.Searching.{false_true, test, parts, first_is}
use Rattle.model.proofs.Acceptance.{event_bound}
use Rattle.model.proofs.StorePlaces.{fails}
use Rattle.model.proofs.Closure.{observed→, observed_is_committed}
use Rattle.model.proofs.RulingSteps.{marked_over, hit?, hit→, hit_is_missing}
use Rattle.area.specs.Cells.{covers_w}
use Rattle.area.specs.Rows.{Rows}
use Rattle.area.proofs.Covering.{covers_is}
use Rattle.marks.specs.declared.cells.Marks.{Marks}
use Rattle.marks.specs.Marks.{flag_in}
use Rattle.marks.specs.Testing.{in_cut, is_forbidden, is_observed, missing_in, observed_in, missing_by, observed_by}
use Rattle.marks.specs.Matching.{Judging}
use Rattle.marks.proofs.Says.{Fit, fits, in_cut_lem}

-- searches by tests that agree find the same
first_from_same :
    (i n : ℕ) (f g : ℕ → Bool) → ((k : ℕ) → k < i + n → f k ≡ g k) → first_from i n f ≡ first_from i n g
unfolding first_from
first_from_same i zero f g agree = refl
first_from_same i (suc n) f g agree =
    rw (agree i (omega arith), first_from_same (suc i) n f g (λ k below. agree k (omega arith)))

first_same : (n : ℕ) (f g : ℕ → Bool) → ((k : ℕ) → k < n → f k ≡ g k) → first n f ≡ first n g
unfolding first
first_same n f g agree = first_from_same 0 n f g (λ k below. agree k (omega arith))

forbidden_bits : (a b : Bool) → is_forbidden (bit a + 2 * bit b) ≡ a
forbidden_bits true true = refl
forbidden_bits true false = refl
forbidden_bits false true = refl
forbidden_bits false false = refl

observed_bits : (a b : Bool) → is_observed (bit a + 2 * bit b) ≡ b
observed_bits true true = refl
observed_bits true false = refl
observed_bits false true = refl
observed_bits false false = refl

module _
    (ev : ℕ → Event) (N : ℕ) (accepted : Accepted ev N) (l : List ℕ) (rows : Rows ev N l) (m : Marks)
    (judging : Judging ev N m) where
  -- a marked store has its row and numbers
  marked_fits : (p : ℕ) → marked? ev N p ≡ true → Fit ev N p
  marked_fits p marked = fits ev N N p accepted (omega arith) (marked_over ev N p marked)

  flag_forbidden : (p : ℕ) → p ≤ 2048 → is_forbidden (flag_in m.flags p) ≡ marked? ev N p
  flag_forbidden p to_2048 =
      ap is_forbidden (judging.flags p to_2048) ∙ forbidden_bits (marked? ev N p) (observed? ev N p)

  flag_observed : (q : ℕ) → q ≤ 2048 → is_observed (flag_in m.flags q) ≡ observed? ev N q
  flag_observed q to_2048 =
      ap is_observed (judging.flags q to_2048) ∙ observed_bits (marked? ev N q) (observed? ev N q)

  -- ---- missing

  missing_is_hit : (p : ℕ) → p ≤ 2048 → missing_in l m p ≡ hit? ev N p
  unfolding hit? marked?
  missing_is_hit p to_2048 = rw (flag_forbidden p to_2048) (by_test (test (marked? ev N p)))
    where
      by_test :
          (marked? ev N p ≡ true) ⊎ (marked? ev N p ≡ false)
          → (marked? ev N p && in_cut l m.cut p) ≡ hit? ev N p
      by_test (inl marked) =
          let fit = marked_fits p marked in
          let in_closure = in_cut_lem ev N l rows p fit (marked? ev N) (observed? ev N) (closure ev N) m judging in
          rw (marked, in_closure, (parts (forbidden? ev N p) _ marked).0) refl
      by_test (inr not_marked) =
          let no_hit : hit? ev N p ≡ false =
          fails _ (λ hit. false_true (sym not_marked ∙ (hit→ ev N accepted p hit).0))
          in
          rw not_marked (sym no_hit)

  pub missing_is : missing_by l m N ≡ missing_of ev N
  unfolding missing_by missing_of
  missing_is =
      first_same N (missing_in l m) (missing? ev N)
      (λ p below. missing_is_hit p (event_bound ev N accepted p below) ∙ hit_is_missing ev N p accepted)

  -- ---- observed

  module _ (p : ℕ) (marked : marked? ev N p ≡ true) where
    fit : Fit ev N p
    fit = marked_fits p marked

    observed_is_pair : (q : ℕ) → q ≤ 2048 → observed_in l m.flags p q ≡ pair? ev N p q
    unfolding pair? marked?
    observed_is_pair q to_2048 =
        rw (flag_observed q to_2048, (parts (forbidden? ev N p) _ marked).0)
        (by_test (test (observed? ev N q)))
      where
        by_test :
            (observed? ev N q ≡ true) ⊎ (observed? ev N q ≡ false)
            → (observed? ev N q && covers_w l p q) ≡ (observed? ev N q && covers? ev p q)
        by_test (inr not_observed) = rw not_observed
        by_test (inl observed) =
            let settled = observed_is_committed ev N accepted q (observed→ ev N q observed) in
            rw (covers_is ev N accepted l rows p q fit.early fit.store settled.early settled.store)

  pub observed_is : bad? ev N ≡ true → observed_by l m.flags N (missing_of ev N) ≡ observed_of ev N
  unfolding observed_by observed_of missing_of bad?
  observed_is bad =
      first_same N (observed_in l m.flags (missing_of ev N)) (pair? ev N (missing_of ev N))
      (λ q below. observed_is_pair (missing_of ev N) marked q (event_bound ev N accepted q below))
    where
      marked : marked? ev N (missing_of ev N) ≡ true
      marked =
          let smallest = first_is N (missing? ev N) bad in
          (hit→ ev N accepted (missing_of ev N) (hit_is_missing ev N (missing_of ev N) accepted ∙ smallest.passes)).0
