-- The order query is exact: of two stores it answers same, before, after or neither exactly as happens-before has them.
-- The clock of a store covers another exactly if they are equal or the other happens before it.
use Prim.Native.Nat.{ℕ, ◌≤◌, ◌<◌}
use native.Mathlib.Omega.{arith}
use mathlib.Core.Path.{◌≡◌, refl, sym, ◌∙◌}
use mathlib.Core.Bool.{true, false, ◌&&◌, not}
use mathlib.Core.Logic.{◌⊎◌, inl, inr, ◌≢◌, ◌↔◌}
use mathlib.Core.List.{List, []}
use lib.Dec.{eqb, ltb}
use borrow.Author.Tests.{eqb-true, eqb-false, ne_eqb, ltb-true, le-ltb, not-true}
use Rattle.record.specs.declared.events.Event.{Event}
use Rattle.record.specs.Tests.{◌gives◌else◌}
use Rattle.model.specs.Trace.{Issue}
use Rattle.model.specs.HappensBefore.{Before, AtOrBefore}
use Rattle.model.specs.Clocks.{covers?}
use Rattle.model.specs.Answers.{refused, before, after, same, neither}
use Rattle.model.specs.Reading.{events, AcceptedWith, TurnedAwayWith}
use Rattle.model.specs.Judge.{before?, store?, standing, order_of}
use Rattle.model.specs.Demand.{Stands}
use Rattle.model.proofs.Searching.{false_true, test, both, parts}
use Rattle.model.proofs.Ordering.{before_lt}
use Rattle.model.proofs.Clocks.{covers_exactly}
use Rattle.model.proofs.NoBytes.{begun_accepted_exactly, begun_away, begun_none}

module _ (ev : ℕ → Event) where
  pub before_exactly : (p q : ℕ) → Issue ev p → Issue ev q → (before? ev p q ≡ true) ↔ Before ev p q
  before_exactly p q p_store q_store = (to, from)
    where
      to : before? ev p q ≡ true → Before ev p q
      to passes = by_order ((covers_exactly ev p q p_store q_store).0 two.1)
        where
          two : (not (eqb p q) ≡ true) × (covers? ev p q ≡ true)
          two = parts (not (eqb p q)) _ passes

          by_order : AtOrBefore ev p q → Before ev p q
          by_order (inl is) = absurd (eqb-false p q (not-true _ two.0) is)
          by_order (inr earlier) = earlier

      from : Before ev p q → before? ev p q ≡ true
      from earlier =
          let differs : p ≢ q = λ is. omega (arith, before_lt ev earlier) in
          let not_same : not (eqb p q) ≡ true = rw (ne_eqb p q differs) in
          both _ _ not_same ((covers_exactly ev p q p_store q_store).1 (inr earlier))

  pub standing_exact :
      (N p q : ℕ) → store? ev N p ≡ true → store? ev N q ≡ true → Stands ev p q (standing ev N p q)
  standing_exact N p q p_store q_store =
      rw (both _ _ p_store q_store) (by_tests (test (eqb p q)) (test (before? ev p q)) (test (before? ev q p)))
    where
      p_issue : Issue ev p
      p_issue = record { test = (parts (ltb p N) _ p_store).1 }

      q_issue : Issue ev q
      q_issue = record { test = (parts (ltb q N) _ q_store).1 }

      by_tests :
          (eqb p q ≡ true) ⊎ (eqb p q ≡ false)
          → (before? ev p q ≡ true) ⊎ (before? ev p q ≡ false)
          → (before? ev q p ≡ true) ⊎ (before? ev q p ≡ false)
          → Stands ev p q
          (eqb p q gives same else before? ev p q gives before else before? ev q p gives after else neither)
      by_tests (inl is) b c = rw is (eqb-true p q is)
      by_tests (inr differs) (inl earlier) c = rw (earlier, differs) ((before_exactly p q p_issue q_issue).0 earlier)
      by_tests (inr differs) (inr not_earlier_lem) (inl later) =
          rw (not_earlier_lem, later, differs) ((before_exactly q p q_issue p_issue).0 later)
      by_tests (inr differs) (inr not_earlier_lem) (inr not_later) =
          rw (not_earlier_lem, not_later, differs) (
            eqb-false p q differs,
            λ earlier. false_true (sym not_earlier_lem ∙ (before_exactly p q p_issue q_issue).1 earlier),
            λ later. false_true (sym not_later ∙ (before_exactly q p q_issue p_issue).1 later),
          )

-- what the query answers about two stores of an accepted trace
pub ordered_as_demanded :
    (bytes : List ℕ) (N work p q : ℕ) → AcceptedWith bytes N → 32768 ≤ work
    → store? (events bytes) N p ≡ true → store? (events bytes) N q ≡ true
    → Stands (events bytes) p q (order_of bytes work p q)
unfolding order_of
ordered_as_demanded bytes N work p q accepted enough p_store q_store =
    let inside = ltb-true p N (parts (ltb p N) _ p_store).0 in
    rw (le-ltb work 32768 enough, (begun_accepted_exactly bytes N).1 (accepted, omega arith))
    (standing_exact (events bytes) N p q p_store q_store)

-- a number that names no store of an accepted trace with a record is refused with 16; a trace that is turned away with
-- its number; and no bytes, whatever the numbers, with 1
pub no_store_refused :
    (bytes : List ℕ) (N work p q : ℕ) → AcceptedWith bytes N → 0 < N → 32768 ≤ work
    → (store? (events bytes) N p && store? (events bytes) N q) ≡ false → order_of bytes work p q ≡ refused 16 0
unfolding order_of
no_store_refused bytes N work p q accepted some_record enough no_store_lem =
    rw (le-ltb work 32768 enough, (begun_accepted_exactly bytes N).1 (accepted, some_record), no_store_lem)

pub order_refused :
    (bytes : List ℕ) (k e work p q : ℕ) → TurnedAwayWith bytes k e → 32768 ≤ work
    → order_of bytes work p q ≡ refused k e
unfolding order_of
order_refused bytes k e work p q turned enough =
    rw (le-ltb work 32768 enough, begun_away bytes k e turned)

pub no_bytes_refused : (work p q : ℕ) → 32768 ≤ work → order_of [] work p q ≡ refused 1 0
unfolding order_of
no_bytes_refused work p q enough = rw (le-ltb work 32768 enough, begun_none [] refl)
