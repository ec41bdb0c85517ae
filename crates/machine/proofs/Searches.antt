-- The load rule's searches: under `Sim` the machine finds in its tables what the definitions search for. By the laws of
-- model's proofs/LoadRule.antt, the newest store and the newest committed store of a location are enough; and a source
-- that was of an earlier stretch once is so ever after.
-- In order: `waiting`; `current`; `past`; the rule.
use mathlib.Core.Path.{◌≡◌, refl, sym, ◌∙◌, ap₂}
use mathlib.Core.Bool.{Bool, true, false, cond, ◌&&◌, ◌||◌, not}
use mathlib.Core.List.{List}
use mathlib.Core.Logic.{◌⊎◌, inl, inr, ◌≢◌}
use Prim.Native.Nat.{ℕ, suc, ◌*◌, ◌≤◌, ◌<◌}
use native.Mathlib.Omega.{arith}
use borrow.Author.Tests.{eqb-false, eq-eqb, ne_eqb, lt-ltb, le-ltb, le-leb, lt-leb}
use lib.Dec.{eqb, ltb, leb}
use lib.ListN.{get_or}
use Rattle.record.specs.declared.events.Event.{Event}
use Rattle.record.specs.Tests.{◌gives◌else◌}
use Rattle.model.specs.Trace.{thread, location, source, issue?, commit?, Issue, stretch, issues, commits, place}
use Rattle.model.specs.Machine.{commits_before, waiting, current, past, source_fits}
use Rattle.model.specs.Rules.{Accepted}
use Rattle.model.specs.Choice.{finished}
use Rattle.model.specs.Stores.{head_of, store_at, newest_at, landed}
use Rattle.model.proofs.Searching.{same?, less?, both}
use Rattle.model.proofs.Counting.{stretch_mono, earlier_stretch, count_mono, count_lt}
use Rattle.model.proofs.Roles.{issue_or_not}
use Rattle.model.proofs.ClockSteps.{vc_own}
use Rattle.model.proofs.Acceptance.{store_not_0, FromPast, past_is}
use Rattle.model.proofs.Committed.{commits_below_issues}
use Rattle.model.proofs.Ranges.{issue_has_thread, thread_bound}
use Rattle.model.proofs.StorePlaces.{fails, stretch_some, Store, store_at_is, store_at_none}
use Rattle.model.proofs.LoadRule.{Made, newest_made, Waits, waiting_newest, waiting_none}
use Rattle.model.proofs.LoadRule.{current_head, current_none}
use Rattle.area.specs.Cells.{get_row}
use Rattle.area.specs.Rows.{StoreRow}
use Rattle.area.proofs.Chains.{linked_head}
use Rattle.machine.specs.Tables.{source_cell, commits_cell}
use Rattle.machine.specs.Twin.{World, waiting_in, past_in, across_in, admits, waiting_w, last_w, here_w, crossing_w}
use Rattle.machine.specs.Twin.{admits_w, fits_w}
use Rattle.machine.specs.Sim.{issued, done, Sim}

-- `suc a ≤ b` and `a < b` are the same test
leb_suc : (a b : ℕ) → leb (suc a) b ≡ ltb a b
leb_suc a b = by_order (less? a b)
  where
    by_order : (a < b) ⊎ (b ≤ a) → leb (suc a) b ≡ ltb a b
    by_order (inl less) = le-leb (suc a) b less ∙ sym (lt-ltb a b less)
    by_order (inr not_less) = lt-leb (suc a) b (omega arith) ∙ sym (le-ltb a b not_less)

-- a queue has no oldest store exactly if it is empty
pub none_oldest :
    (ev : ℕ → Event) (n : ℕ) (w : World) → Sim ev n w → (t : ℕ)
    → eqb (store_at ev n (stretch ev n) t (done ev n t)) 0 ≡ eqb (issued ev n t) (done ev n t)
none_oldest ev n w sim t = by_order (less? (done ev n t) (issued ev n t))
  where
    accepted : Accepted ev n
    accepted = sim.limits.accepted

    by_order :
        (done ev n t < issued ev n t) ⊎ (issued ev n t ≤ done ev n t)
        → eqb (store_at ev n (stretch ev n) t (done ev n t)) 0 ≡ eqb (issued ev n t) (done ev n t)
    by_order (inl waits) =
        let is_IsStore = (store_at_is ev n (stretch ev n) t (done ev n t) waits).store in
        ne_eqb _ 0 (store_not_0 ev n accepted sim.limits.begun is_IsStore)
        ∙ sym (ne_eqb (issued ev n t) (done ev n t) (λ same. omega arith))
    by_order (inr none) =
        let below = commits_below_issues ev n accepted n (stretch ev n) t (omega arith) in
        eq-eqb _ 0 (store_at_none ev n (stretch ev n) t (done ev n t) none)
        ∙ sym (eq-eqb (issued ev n t) (done ev n t) (omega arith))

-- what a source from the past has
pub →past : (ev : ℕ → Event) (n s : ℕ) → FromPast ev n s → past ev n s ≡ true
→past ev n s from =
    both _ _
    (both _ _ (both _ _ from.store.test (eq-eqb _ _ from.to_it)) (lt-ltb _ _ from.earlier))
    (lt-ltb _ _ from.committed)

-- it has at every later event of its location too
past_later :
    (ev : ℕ → Event) (l n s : ℕ) → l ≤ n → location ev l ≡ location ev n → past ev l s ≡ true → past ev n s ≡ true
past_later ev l n s later at_it is_past =
    let from = past_is ev l s is_past in
    →past ev n s
    (record {
      store = from.store;
      to_it = from.to_it ∙ at_it;
      earlier = omega (arith, from.earlier, stretch_mono ev l n later);
      committed =
          omega (arith, from.committed, count_mono ev (commit? ev) l n (stretch ev s) (thread ev s) later);
    })

module _ (ev : ℕ → Event) (n : ℕ) (w : World) (sim : Sim ev n w) where
  abbrev x : ℕ
  x = location ev n

  abbrev t : ℕ
  t = thread ev n

  abbrev l : List ℕ
  l = w.work

  -- ---- waiting

  -- by the thread's oldest waiting store, or 0, and its newest store at the location
  waiting_in_lem : ℕ → ℕ → ℕ
  waiting_in_lem o p = eqb o 0 gives 0 else (leb o p gives p else 0)

  module _ (p : ℕ) (newest : newest_at ev n x t ≡ p) where
    none_waits : (p ≢ 0 → Waits ev n p → ⊥) → waiting ev n ≡ 0
    none_waits = waiting_none ev n p sim.limits.accepted newest

    -- no store waits in an empty queue
    none_queued : issued ev n t ≤ commits_before ev n → Waits ev n p → ⊥
    none_queued empty waits =
        omega (
          arith,
          waits.not_yet,
          count_lt ev (issue? ev) p n waits.made.store.test waits.made.early,
          ap₂ (issues ev n) waits.in_stretch waits.made.by_t,
        )

    -- places grow, so of a thread's stores in the stretch those from the oldest waiting one on wait
    module _ (o : ℕ) (oldest : Store ev n (stretch ev n) t (commits_before ev n) o) where
      none_earlier : p < o → Waits ev n p → ⊥
      none_earlier earlier waits =
          omega (
            arith,
            waits.not_yet,
            oldest.at_i,
            count_lt ev (issue? ev) p o waits.made.store.test earlier,
            ap₂ (issues ev o) waits.in_stretch waits.made.by_t,
          )

      some_store : o ≢ 0
      some_store = store_not_0 ev n sim.limits.accepted sim.limits.begun oldest.store

      all_later : o ≤ p → Waits ev n p
      all_later later = record {
        made = made;
        in_stretch = in_stretch;
        not_yet =
            omega (
              arith,
              oldest.at_i,
              count_mono ev (issue? ev) o p (stretch ev n) t later,
              ap₂ (issues ev p) in_stretch made.by_t,
            );
      }
        where
          made : Made ev n x t p
          made = rw newest at (newest_made ev n x t (λ is_0. some_store (omega (arith, newest))))

          in_stretch : stretch ev p ≡ stretch ev n
          in_stretch =
              let up = stretch_mono ev o p later in
              let down = stretch_mono ev p n (omega (arith, made.early)) in
              omega (arith, oldest.in_j)

      waiting_queued : (p < o) ⊎ (o ≤ p) → waiting_in_lem o p ≡ waiting ev n
      unfolding waiting_in_lem
      waiting_queued (inl earlier) =
          rw (ne_eqb o 0 some_store, lt-leb o p earlier) (sym (none_waits (λ _. none_earlier earlier)))
      waiting_queued (inr later) =
          rw (ne_eqb o 0 some_store, le-leb o p later) (sym (waiting_newest ev n p newest (all_later later)))

    waiting_by_queue :
        (commits_before ev n < issued ev n t) ⊎ (issued ev n t ≤ commits_before ev n)
        → waiting_in_lem (store_at ev n (stretch ev n) t (commits_before ev n)) p ≡ waiting ev n
    unfolding waiting_in_lem
    waiting_by_queue (inl some) =
        waiting_queued _ (store_at_is ev n (stretch ev n) t (commits_before ev n) some) (less? p _)
    waiting_by_queue (inr empty) =
        rw (store_at_none ev n (stretch ev n) t (commits_before ev n) empty) (sym (none_waits (λ _. none_queued empty)))

  waiting_is : t < 8 → x < 256 → waiting_w w t x ≡ waiting ev n
  unfolding waiting_in waiting_in_lem
  waiting_is few_t few_x =
      rw (sim.newest_are x t few_x few_t, (sim.queues t few_t).oldest_is)
      (waiting_by_queue (newest_at ev n x t) refl (less? (commits_before ev n) (issued ev n t)))

  -- ---- current

  -- p heads the chain of the location
  record Heads (p : ℕ) : Type 0 where
    here_is : eqb (eqb p 0 gives 0 else stretch ev p) (stretch ev n) ≡ not (eqb (current ev n) 0)
    last_is : current ev n ≢ 0 → p ≡ current ev n

  heads_of : (p : ℕ) → head_of (landed ev n x) ≡ p → (p ≡ 0) ⊎ (p ≢ 0) → Heads p
  heads_of p is_head (inl none) =
      let is_0 = current_none ev n n sim.limits.accepted (omega arith) p is_head (λ some. absurd (some none)) in
      record {
        here_is = rw (is_0, none, ne_eqb 0 (stretch ev n) (λ is. omega (arith, stretch_some ev n))) refl;
        last_is = λ some. absurd (some is_0);
      }
  heads_of p is_head (inr some) = by_stretch (same? (stretch ev p) (stretch ev n))
    where
      by_stretch : (stretch ev p ≡ stretch ev n) ⊎ (stretch ev p ≢ stretch ev n) → Heads p
      by_stretch (inl here) =
          let is_p = current_head ev n n sim.limits.accepted (omega arith) p is_head some here in
          record {
            here_is = rw (is_p, ne_eqb p 0 some, eq-eqb (stretch ev p) (stretch ev n) here) refl;
            last_is = λ _. sym is_p;
          }
      by_stretch (inr elsewhere) =
          let is_0 = current_none ev n n sim.limits.accepted (omega arith) p is_head (λ _. elsewhere) in
          record {
            here_is = rw (is_0, ne_eqb p 0 some, ne_eqb (stretch ev p) (stretch ev n) elsewhere) refl;
            last_is = λ some_current. absurd (some_current is_0);
          }

  heads : x < 256 → Heads (last_w w x)
  heads few_x =
      heads_of (last_w w x) (sym (linked_head l (last_w w x) (landed ev n x) (sim.chains x few_x).links)) (same? _ 0)

  here_is : x < 256 → here_w w x ≡ not (eqb (current ev n) 0)
  here_is few_x = rw ((sim.chains x few_x).stretch_is, sim.numbers.stretch_is) (heads few_x).here_is

  pub crossing_is : t < 8 → x < 256 → crossing_w w t x ≡ (eqb (waiting ev n) 0 && eqb (current ev n) 0)
  crossing_is few_t few_x = rw (waiting_is few_t few_x, here_is few_x) (twice (eqb (current ev n) 0))
    where
      twice : (b : Bool) → (eqb (waiting ev n) 0 && not (not b)) ≡ (eqb (waiting ev n) 0 && b)
      twice true = refl
      twice false = refl

  -- ---- past

  past_in_lem : ℕ → ℕ → ℕ → ℕ → Bool
  past_in_lem p j u y =
      eqb j 0 gives false else
      leb (stretch ev n) j gives false else
      eqb y x gives leb (get_row l p u) (get_or w.tables (commits_cell j u) 0) else
      false

  -- a test that has a failing part
  third_fails : (a b c d : Bool) → c ≡ false → (a && b && c && d) ≡ false
  third_fails true true c d e = rw e refl
  third_fails true false c d e = refl
  third_fails false b c d e = refl

  -- the table has the commits of an earlier stretch
  past_commits :
      (j u : ℕ) → 1 ≤ j → j < stretch ev n → u < 8 → get_or w.tables (commits_cell j u) 0 ≡ commits ev n j u
  unfolding finished
  past_commits j u from_one earlier few =
      sim.commits_are j u from_one (omega (arith, sim.limits.few_crashes)) few
      ∙ rw (lt-ltb j (stretch ev n) earlier) refl

  past_of_store :
      (p : ℕ) → p < n → Issue ev p → StoreRow ev l p
      → (stretch ev p < stretch ev n) ⊎ (stretch ev n ≤ stretch ev p)
      → (location ev p ≡ x) ⊎ (location ev p ≢ x)
      → past_in_lem p (stretch ev p) (thread ev p) (location ev p) ≡ past ev n p
  unfolding past_in_lem
  past_of_store p early store row (inr late) either =
      rw (ne_eqb (stretch ev p) 0 (λ is_0. omega (arith, stretch_some ev p)), le-leb _ _ late)
      (sym (third_fails (issue? ev p) (eqb (location ev p) x) _ _ (le-ltb _ _ late)))
  past_of_store p early store row (inl earlier) (inr elsewhere) =
      rw (
        ne_eqb (stretch ev p) 0 (λ is_0. omega (arith, stretch_some ev p)),
        lt-leb _ _ earlier,
        ne_eqb _ _ elsewhere,
        store.test,
      )
      refl
  past_of_store p early store row (inl earlier) (inl here) =
      let few = thread_bound ev n sim.limits.accepted p early (issue_has_thread ev store) in
      rw (
        ne_eqb (stretch ev p) 0 (λ is_0. omega (arith, stretch_some ev p)),
        lt-leb _ _ earlier,
        lt-ltb _ _ earlier,
        eq-eqb (location ev p) x here,
        row.clock_is (thread ev p) few,
        vc_own ev p (thread ev p) store refl,
        past_commits (stretch ev p) (thread ev p) (stretch_some ev p) earlier few,
        leb_suc (place ev p) (commits ev n (stretch ev p) (thread ev p)),
        store.test,
      )
      refl

  -- no event of an earlier stretch is at or past n, and only stores are committed
  past_of_other : (p : ℕ) → (p < n → Issue ev p → ⊥) → past ev n p ≡ false
  past_of_other p is_no_store =
      fails _
      (λ passes.
      let from = past_is ev n p passes in
      is_no_store (earlier_stretch ev p n from.earlier) from.store)

  -- of an earlier event
  earlier_past : (p : ℕ) → 1 ≤ p → p < n → past_in w.state.stretch w.tables l x p ≡ past ev n p
  unfolding past_in past_in_lem
  earlier_past p from_one early = by_role (issue_or_not ev p)
    where
      by_role :
          Issue ev p ⊎ (issue? ev p ≡ false) → past_in w.state.stretch w.tables l x p ≡ past ev n p
      by_role (inr no_issue) = rw (sim.rows.others p from_one early no_issue, no_issue) refl
      by_role (inl store) =
          let row = sim.rows.stores p early store in
          rw (row.stretch_is, row.thread_is, row.location_is, sim.numbers.stretch_is)
          (past_of_store p early store row (less? (stretch ev p) (stretch ev n)) (same? (location ev p) x))

  -- ---- the rule

  abbrev s : ℕ
  s = source ev n

  across_is :
      across_in w.state.stretch w.state.row w.tables l x s ≡ (eqb s 0 || past ev n s)
  unfolding across_in
  across_is = by_source (same? s 0) (less? s n)
    where
      by_source :
          (s ≡ 0) ⊎ (s ≢ 0) → (s < n) ⊎ (n ≤ s)
          → across_in w.state.stretch w.state.row w.tables l x s ≡ (eqb s 0 || past ev n s)
      by_source (inl none) either = rw (eq-eqb s 0 none) refl
      by_source (inr some) (inl early) =
          rw (ne_eqb s 0 some, le-ltb w.state.row (16 * s) (omega (arith, sim.numbers.row_is)))
          (earlier_past s (omega arith) early)
      by_source (inr some) (inr late) =
          rw (
            ne_eqb s 0 some,
            lt-ltb w.state.row (16 * s) (omega (arith, sim.numbers.row_is)),
            past_of_other s (λ early _. omega arith),
          )
          refl

  admits_is : x < 256 → admits_w w x s ≡ (eqb s 0 || past ev n s)
  unfolding admits
  admits_is few_x = by_noted (same? s noted) (same? s 0)
    where
      noted : ℕ
      noted = get_or w.tables (source_cell x) 0

      by_noted :
          (s ≡ noted) ⊎ (s ≢ noted) → (s ≡ 0) ⊎ (s ≢ 0) → admits_w w x s ≡ (eqb s 0 || past ev n s)
      by_noted (inr other) either = rw (ne_eqb s noted other) across_is
      by_noted (inl is_noted) (inl none) = rw (eq-eqb s noted is_noted, eq-eqb s 0 none) refl
      by_noted (inl is_noted) (inr some) =
          let it = sim.sources x few_x (λ is_0. some (is_noted ∙ is_0)) in
          let still : past ev n s ≡ true =
          rw is_noted (past_later ev it.load n noted (omega (arith, it.early)) it.at_x it.is_past)
          in
          rw (eq-eqb s noted is_noted, ne_eqb s 0 some, still) refl

  pub fits_is : t < 8 → x < 256 → fits_w w t x s ≡ source_fits ev n
  unfolding fits_w source_fits
  fits_is few_t few_x =
      rw (waiting_is few_t few_x, here_is few_x, admits_is few_x)
      (by_tests (eqb (waiting ev n) 0) (eqb (current ev n) 0) refl)
    where
      by_tests :
          (none_waits none_current : Bool) → eqb (current ev n) 0 ≡ none_current
          → (none_waits gives
          (not none_current gives eqb s (last_w w x) else (eqb s 0 || past ev n s)) else
          eqb s (waiting ev n))
          ≡ cond (not none_waits) (eqb s (waiting ev n))
          (cond (not none_current) (eqb s (current ev n)) (eqb s 0 || past ev n s))
      by_tests true true _ = refl
      by_tests true false some = rw ((heads few_x).last_is (eqb-false (current ev n) 0 some)) refl
      by_tests false none_current _ = refl
