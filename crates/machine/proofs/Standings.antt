-- The order query under `Sim`: a row says whether an event is a store (`store_is`), and the answer for two stores is
-- the definitions' (`order_is`), for the rows' test of two stores is the clocks'.
use mathlib.Core.Path.{◌≡◌, refl}
use mathlib.Core.Bool.{Bool, true, false, ◌&&◌, not}
use mathlib.Core.Logic.{◌⊎◌, inl, inr, ◌≢◌}
use Prim.Native.Nat.{ℕ, ◌-◌, ◌≤◌, ◌<◌}
use native.Mathlib.Omega.{arith}
use borrow.Author.Tests.{eq-eqb, ne_eqb, lt-ltb, le-ltb, ltb-true}
use lib.Dec.{eqb, ltb}
use Rattle.std.specs.Prelude.{Ok}
use Rattle.record.specs.declared.events.Event.{Event}
use Rattle.record.specs.Tests.{◌gives◌else◌}
use Rattle.model.specs.declared.Order.TheVariants.{Before, After, Same, Neither}
use Rattle.model.specs.Trace.{issue?, Issue, stretch}
use Rattle.model.specs.Clocks.{covers?}
use Rattle.model.specs.Answers.{before, after, same, neither, order_answer}
use Rattle.model.specs.Judge.{store?, standing}
use Rattle.model.proofs.Searching.{same?, less?, both, parts, second_fails, eqb_turned}
use Rattle.model.proofs.Roles.{issue_or_not}
use Rattle.model.proofs.Acceptance.{store_not_0}
use Rattle.model.proofs.StorePlaces.{stretch_some}
use Rattle.area.proofs.Covering.{covers_is}
use Rattle.machine.specs.Twin.{World}
use Rattle.machine.specs.Orders.{store_w, order_w}
use Rattle.machine.specs.Sim.{Sim}

-- the machine's tests and the definitions', in their orders
standing_by_tests :
    (equal earlier later : Bool)
    → order_answer (Ok (equal gives Same else earlier gives Before else later gives After else Neither))
    ≡ (equal gives same else (not equal && earlier) gives before else (not equal && later) gives after else neither)
standing_by_tests true earlier later = refl
standing_by_tests false true later = refl
standing_by_tests false false true = refl
standing_by_tests false false false = refl

module _ (ev : ℕ → Event) (n : ℕ) (w : World) (sim : Sim ev n w) where
  abbrev begun : 0 < n
  begun = sim.limits.begun

  pub store_is : (p : ℕ) → store_w w.work (n - 1) p ≡ store? ev n p
  store_is p = by_number (same? p 0) (less? p n) (issue_or_not ev p)
    where
      by_number :
          (p ≡ 0) ⊎ (p ≢ 0) → (p < n) ⊎ (n ≤ p) → Issue ev p ⊎ (issue? ev p ≡ false)
          → store_w w.work (n - 1) p ≡ store? ev n p
      by_number (inl is_0) order (inl store) = absurd (store_not_0 ev n sim.limits.accepted begun store is_0)
      by_number (inl is_0) order (inr no_issue) =
          rw (eq-eqb p 0 is_0, second_fails (ltb p n) (issue? ev p) no_issue) refl
      by_number (inr some) (inr later) role =
          rw (ne_eqb p 0 some, lt-ltb (n - 1) p (omega (arith, begun)), le-ltb p n later) refl
      by_number (inr some) (inl early) (inl store) =
          rw (
            ne_eqb p 0 some,
            le-ltb (n - 1) p (omega arith),
            (sim.rows.stores p early store).stretch_is,
            ne_eqb (stretch ev p) 0 (λ is_0. omega (arith, stretch_some ev p)),
            both _ _ (lt-ltb p n early) store.test,
          )
          refl
      by_number (inr some) (inl early) (inr no_issue) =
          rw (
            ne_eqb p 0 some,
            le-ltb (n - 1) p (omega arith),
            sim.rows.others p (omega arith) early no_issue,
            second_fails (ltb p n) (issue? ev p) no_issue,
          )
          refl

  -- THE ANSWER FOR TWO STORES IS THE DEFINITIONS'
  pub order_is :
      (p q : ℕ) → store? ev n p ≡ true → store? ev n q ≡ true
      → order_answer (Ok (order_w w.work p q)) ≡ standing ev n p q
  order_is p q p_is q_is =
      let p_parts = parts (ltb p n) _ p_is in
      let q_parts = parts (ltb q n) _ q_is in
      let p_early = ltb-true p n p_parts.0 in
      let q_early = ltb-true q n q_parts.0 in
      let p_store : Issue ev p = record { test = p_parts.1 } in
      let q_store : Issue ev q = record { test = q_parts.1 } in
      let by_rows = covers_is ev n sim.limits.accepted w.work sim.rows in
      rw (
        both _ _ p_is q_is,
        by_rows p q p_early p_store q_early q_store,
        by_rows q p q_early q_store p_early p_store,
        eqb_turned q p,
      )
      (standing_by_tests (eqb p q) (covers? ev p q) (covers? ev q p))
