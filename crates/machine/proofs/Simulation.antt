-- The simulation, one kind at a time: an event that passes takes the state before event n to the state before the next
-- (`step_next`), and the machine counts the loads that the definitions count (`counts_is`).
use mathlib.Core.Path.{◌≡◌, refl, sym, ap, ◌∙◌}
use mathlib.Core.Bool.{Bool, true, false, cond, ◌&&◌, not}
use mathlib.Core.List.{List, [], ◌∷◌}
use mathlib.Core.Logic.{◌⊎◌, inl, inr}
use Prim.Native.Nat.{ℕ, suc, ◌%◌, ◌<◌}
use native.Mathlib.Omega.{arith}
use lib.Dec.{eqb}
use borrow.Author.Tests.{eqb-true, ne_eqb}
use Rattle.record.specs.declared.events.Event.{Event}
use Rattle.record.specs.declared.events.Event.TheVariants.{Begin, Issue, Commit, Load, Clflush, Clwb}
use Rattle.record.specs.declared.events.Event.TheVariants.{Sfence, Mfence, Crash, SkipOn, SkipOff, Locked}
use Rattle.record.specs.declared.events.Event.TheVariants.{Signal, Wait, Open, Close}
use Rattle.record.specs.Events.{kind_of}
use Rattle.record.specs.Fields.{fields_of}
use Rattle.record.specs.Table.{row_of}
use Rattle.model.specs.Trace.{kind, thread, outcome, load?, open?, close?}
use Rattle.model.specs.Trace as trace
use Rattle.model.specs.Machine.{waiting, current, skipping, opened, countable, held, counting}
use Rattle.model.specs.Rules.{refusal}
use Rattle.model.proofs.Searching.{test, or_fails, not_without}
use Rattle.model.proofs.Roles.{quiet_kind, load_or_not}
use Rattle.model.proofs.Acceptance.{passed}
use Rattle.model.proofs.Ranges.{load_has_thread, load_has_location}
use Rattle.model.proofs.Unchanged.{skipping_on, skipping_off}
use Rattle.machine.specs.Arms.{by_kind}
use Rattle.area.specs.Rows.{HeldLinked}
use Rattle.machine.specs.declared.regions.Region.{Region}
use Rattle.machine.specs.Tables.{held_in}
use Rattle.machine.specs.Regions.{ended_r, region_of, put_region}
use Rattle.machine.specs.Twin.{World, region_at}
use Rattle.machine.specs.Turning.{counts_k, counts_w}
use Rattle.machine.specs.Effects.{close_w, step_k, step_w}
use Rattle.machine.specs.Sim.{some?, Sim}
use Rattle.machine.proofs.Keep.{limits_next, few_own, small_own}
use Rattle.machine.proofs.Searches.{crossing_is}
use Rattle.machine.proofs.Refusals.{refusal_begin}
use Rattle.machine.proofs.Quiet.{pass_next, skip_next, open_next, close_next, rows_stay}
use Rattle.machine.proofs.Holding.{held_there}
use Rattle.machine.proofs.TableLaws.{reopened}
use Rattle.machine.proofs.Crashes.{crash_next}
use Rattle.machine.proofs.Loads.{load_next}
use Rattle.machine.proofs.Commits.{commit_next}
use Rattle.machine.proofs.Issues.{issue_next}
use Rattle.machine.proofs.Locked.{locked_next}
use Rattle.machine.proofs.HandOver.{signal_next, wait_next}

module _ (ev : ℕ → Event) (n : ℕ) (w : World) (sim : Sim ev n w) (passes : refusal ev n ≡ 0) where
  next_of_issue : kind ev n ≡ 2 → Sim ev (suc n) (step_k w 2 (fields_of (ev n)))
  unfolding step_k by_kind
  next_of_issue kind_is = issue_next ev n w sim passes (record { test = rw kind_is refl }) kind_is

  next_of_commit : kind ev n ≡ 3 → Sim ev (suc n) (step_k w 3 (fields_of (ev n)))
  unfolding step_k by_kind
  next_of_commit kind_is = commit_next ev n w sim passes (record { test = rw kind_is refl }) kind_is

  next_of_load : kind ev n ≡ 4 → Sim ev (suc n) (step_k w 4 (fields_of (ev n)))
  unfolding step_k by_kind
  next_of_load kind_is = load_next ev n w sim passes (record { test = rw kind_is refl }) kind_is

  next_of_crash : kind ev n ≡ 9 → Sim ev (suc n) (step_k w 9 (fields_of (ev n)))
  unfolding step_k by_kind
  next_of_crash kind_is = crash_next ev n w sim passes (rw kind_is refl)

  -- a skip plays no other role
  next_of_on : kind ev n ≡ 10 → Sim ev (suc n) (step_k w 10 (fields_of (ev n)))
  unfolding step_k by_kind row_of
  next_of_on kind_is =
      skip_next ev n w sim passes true
      (record {
        no_issue = rw kind_is refl;
        no_commit = rw kind_is refl;
        no_crash = rw kind_is refl;
        no_signal = rw kind_is refl;
      })
      (rw kind_is refl) (rw kind_is refl) (rw kind_is refl) (rw kind_is refl)
      (few_own ev n sim.limits passes (rw kind_is refl))
      (skipping_on ev n (rw kind_is refl))

  next_of_off : kind ev n ≡ 11 → Sim ev (suc n) (step_k w 11 (fields_of (ev n)))
  unfolding step_k by_kind row_of
  next_of_off kind_is =
      skip_next ev n w sim passes false
      (record {
        no_issue = rw kind_is refl;
        no_commit = rw kind_is refl;
        no_crash = rw kind_is refl;
        no_signal = rw kind_is refl;
      })
      (rw kind_is refl) (rw kind_is refl) (rw kind_is refl) (rw kind_is refl)
      (few_own ev n sim.limits passes (rw kind_is refl))
      (skipping_off ev n (rw kind_is refl))

  next_of_locked : kind ev n ≡ 12 → Sim ev (suc n) (step_k w 12 (fields_of (ev n)))
  unfolding step_k by_kind
  next_of_locked = locked_next ev n w sim passes

  next_of_signal : kind ev n ≡ 13 → Sim ev (suc n) (step_k w 13 (fields_of (ev n)))
  unfolding step_k by_kind
  next_of_signal = signal_next ev n w sim passes

  next_of_wait : kind ev n ≡ 14 → Sim ev (suc n) (step_k w 14 (fields_of (ev n)))
  unfolding step_k by_kind
  next_of_wait = wait_next ev n w sim passes

  next_of_open : kind ev n ≡ 15 → Sim ev (suc n) (step_k w 15 (fields_of (ev n)))
  unfolding step_k by_kind
  next_of_open = open_next ev n w sim passes

  next_of_close : kind ev n ≡ 16 → Sim ev (suc n) (step_k w 16 (fields_of (ev n)))
  unfolding step_k by_kind
  next_of_close = close_next ev n w sim passes

  next_by_kind : (e : Event) → ev n ≡ e → Sim ev (suc n) (step_k w (kind_of e) (fields_of (ev n)))
  unfolding step_k by_kind
  next_by_kind (Begin v a b) is =
      absurd (omega (arith, sym (refusal_begin ev n sim.limits.begun v a b is) ∙ passes))
  next_by_kind (Issue t x) is = next_of_issue (ap kind_of is)
  next_by_kind (Commit t) is = next_of_commit (ap kind_of is)
  next_by_kind (Load t x s) is = next_of_load (ap kind_of is)
  next_by_kind (Clflush t x) is =
      let kind_is : kind ev n ≡ 5 = ap kind_of is in
      pass_next ev n w sim passes (quiet_kind ev n (omega arith) (omega arith))
  next_by_kind (Clwb t x) is =
      let kind_is : kind ev n ≡ 6 = ap kind_of is in
      pass_next ev n w sim passes (quiet_kind ev n (omega arith) (omega arith))
  next_by_kind (Sfence t) is =
      let kind_is : kind ev n ≡ 7 = ap kind_of is in
      pass_next ev n w sim passes (quiet_kind ev n (omega arith) (omega arith))
  next_by_kind (Mfence t) is =
      let kind_is : kind ev n ≡ 8 = ap kind_of is in
      pass_next ev n w sim passes (quiet_kind ev n (omega arith) (omega arith))
  next_by_kind Crash is = next_of_crash (ap kind_of is)
  next_by_kind (SkipOn t) is = next_of_on (ap kind_of is)
  next_by_kind (SkipOff t) is = next_of_off (ap kind_of is)
  next_by_kind (Locked t x s) is = next_of_locked (ap kind_of is)
  next_by_kind (Signal t) is = next_of_signal (ap kind_of is)
  next_by_kind (Wait t s) is = next_of_wait (ap kind_of is)
  next_by_kind (Open t) is = next_of_open (ap kind_of is)
  next_by_kind (Close t o) is = next_of_close (ap kind_of is)

  -- AN EVENT THAT PASSES LEADS TO THE NEXT STATE
  pub step_next : Sim ev (suc n) (step_w w (ev n))
  step_next = next_by_kind (ev n) refl

  -- a close is of an open thread
  close_open : close? ev n ≡ true → opened ev n (thread ev n) ≡ true
  close_open close =
      let past = (passed ev (suc n) (limits_next ev n sim.limits passes).accepted n (omega arith)).no_12_open in
      not_without (close? ev n) (opened ev n (thread ev n))
      (or_fails (open? ev n && opened ev n (thread ev n)) _ past).1 close

  -- THE MACHINE SAYS WHETHER LOADS COUNT AS OF THE EVENT
  pub counts_is : counts_w w (ev n) ≡ some? (counting ev n)
  unfolding counts_k counting countable row_of
  counts_is = by_role (test (close? ev n)) (load_or_not ev n)
    where
      t : ℕ
      t = thread ev n

      -- where a thread is open, a newest load says that it holds one
      held_some : (h : ℕ) (es : List ℕ) → HeldLinked ev w.work h es → not (eqb h 0) ≡ some? es
      held_some h [] none = rw none refl
      held_some h (e ∷ es) links = rw (links.0, ne_eqb e 0 links.1.some_load) refl

      by_outcome :
          (one : Bool) (b : Bool) (es : List ℕ) → b ≡ some? es → (one && b) ≡ some?
          (cond one es (cond false (n ∷ []) []))
      by_outcome true b es is = is
      by_outcome false b es is = refl

      at_once :
          (crosses skips opens : Bool)
          → (crosses && (not skips && not opens)) ≡ some? (cond ((crosses && not skips) && not opens) (n ∷ []) [])
      at_once true true opens = refl
      at_once true false true = refl
      at_once true false false = refl
      at_once false skips opens = refl

      by_role :
          (close? ev n ≡ true) ⊎ (close? ev n ≡ false) → trace.Load ev n ⊎ (load? ev n ≡ false)
          → counts_w w (ev n) ≡ some? (counting ev n)
      by_role (inl close) either_way =
          let kind_is : kind ev n ≡ 16 = eqb-true (kind ev n) 16 close in
          let few = few_own ev n sim.limits passes (rw kind_is refl) in
          rw kind_is
          (by_outcome (eqb (outcome ev n) 1) _ (held ev n t)
          (held_some (region_at w t).newest (held ev n t) ((sim.regions t few).held_are (close_open close))))
      by_role (inr other) (inr no_load) = rw (other, no_load) refl
      by_role (inr other) (inl loads) =
          let few = few_own ev n sim.limits passes (load_has_thread ev loads) in
          let small = small_own ev n sim.limits passes (load_has_location ev loads) in
          rw (
            other,
            loads.test,
            crossing_is ev n w sim few small,
            (sim.queues t few).skip_is,
            (sim.regions t few).opened_is,
          )
          (at_once (eqb (waiting ev n) 0 && eqb (current ev n) 0) (skipping ev n t) (opened ev n t))

  -- AND AT A CLOSE WHERE THE LOADS THAT ITS THREAD HOLDS ARE LINKED
  pub held_is :
      close? ev n ≡ true
      → HeldLinked ev (step_w w (ev n)).work (held_in (step_w w (ev n)).tables (thread ev n)) (held ev n (thread ev n))
  unfolding step_k by_kind close_w region_of ended_r row_of
  held_is close =
      let kind_is : kind ev n ≡ 16 = eqb-true (kind ev n) 16 close in
      let t = thread ev n in
      let few = few_own ev n sim.limits passes (rw kind_is refl) in
      let it = reopened w.tables t few sim.size (ended_r (region_at w t)) in
      let newest : held_in (put_region w.tables t (ended_r (region_at w t))) t ≡ (region_at w t).newest =
      rw (small_rest t few) (ap (λ (r : Region). r.newest) it.own)
      in
      rw (kind_is, newest)
      (held_there ev n sim.limits w.work _ (rows_stay ev n w sim passes) t _
      ((sim.regions t few).held_are (close_open close)))
    where
      small_rest : (t : ℕ) → t < 8 → t % 8 ≡ t
      small_rest t few = omega arith
