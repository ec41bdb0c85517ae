-- How vector clocks change from event to event, and that they count no more than was issued: by these laws, proofs and
-- code use specs/Clocks.antt and never unfold it. The steps are its clauses with the tests decided; the bounds follow.
-- In order: what `meets?` and `joins` say; the steps of `seen`; the clock of an event, of its own thread and of
-- another; the bounds. These laws ask of an event that it stands in its stretch, and so is no crash; only `vc_own` is
-- of stores.
use Prim.Native.Nat.{ℕ, zero, suc, ◌≤◌, ◌<◌, max}
use native.Mathlib.Omega.{arith}
use mathlib.Core.Path.{◌≡◌, refl, sym, ◌∙◌}
use mathlib.Core.Bool.{true, false, ◌&&◌}
use mathlib.Core.Logic.{◌⊎◌, inl, inr, ◌≢◌}
use borrow.Author.Tests.{eqb-true, eq-eqb, ne_eqb, ltb-true, lt-ltb}
use Rattle.record.specs.declared.events.Event.{Event}
use Rattle.model.specs.Trace.{thread, source, load?, issue?, wait?, signal?, crash?, Issue, Load, Signal, Wait}
use Rattle.model.specs.Trace.{stretch, issues, place}
use Rattle.model.specs.Clocks.{meets?, joins, seen, clock, vc}
use Rattle.model.proofs.Searching.{test, false_true, both, parts, or_cases, or_left, or_right, same?, eqb_same}
use Rattle.model.proofs.Counting.{stretch_else, count_it, count_own, count_mono}
use Rattle.model.proofs.Induction.{from_all_smaller}
use Rattle.model.proofs.Roles.{issue_no_crash, load_no_crash, signal_no_crash, wait_no_crash}

module _ (ev : ℕ → Event) where
  -- ---- the tests `meets?` and `joins`

  -- what the first says: event n loads from a store, or waits for a signal
  pub data Meets (n : ℕ) : Type 0 where
    loads_store : Load ev n → Issue ev (source ev n) → Meets n
    waits_signal : Wait ev n → Signal ev (source ev n) → Meets n

  pub meets→ : (n : ℕ) → meets? ev n ≡ true → Meets n
  meets→ n passes = by_role (or_cases _ _ passes)
    where
      by_role :
          ((load? ev n && issue? ev (source ev n)) ≡ true) ⊎ ((wait? ev n && signal? ev (source ev n)) ≡ true) → Meets n
      by_role (inl loads) =
          let (load, store) = parts _ _ loads in
          loads_store (record { test = load }) (record { test = store })
      by_role (inr waits) =
          let (wait, signal) = parts _ _ waits in
          waits_signal (record { test = wait }) (record { test = signal })

  pub →meets : (n : ℕ) → Meets n → meets? ev n ≡ true
  →meets n (loads_store load store) = or_left _ _ (both _ _ load.test store.test)
  →meets n (waits_signal wait signal) =
      or_right (load? ev n && issue? ev (source ev n)) _ (both _ _ wait.test signal.test)

  pub meets_none : {n : ℕ} → load? ev n ≡ false → wait? ev n ≡ false → Meets n → ⊥
  meets_none no_load no_wait (loads_store load store) = false_true (sym no_load ∙ load.test)
  meets_none no_load no_wait (waits_signal wait signal) = false_true (sym no_wait ∙ wait.test)

  pub meets_no_crash : {n : ℕ} → Meets n → (crash? ev n ≡ false) × (crash? ev (source ev n) ≡ false)
  meets_no_crash (loads_store load store) = (load_no_crash ev load, issue_no_crash ev store)
  meets_no_crash (waits_signal wait signal) = (wait_no_crash ev wait, signal_no_crash ev signal)

  -- what the second says: event n is a load or a wait of thread t, and its source an earlier event of its own stretch
  pub record Joined (n t : ℕ) : Type 0 where
    pub meets : Meets n
    pub by_t : thread ev n ≡ t
    pub early : source ev n < n
    pub in_stretch : stretch ev (source ev n) ≡ stretch ev n

  pub joins→ : (n t : ℕ) → joins ev n t ≡ true → Joined n t
  joins→ n t join =
      let and_stretch = parts _ _ join in
      let and_early = parts _ _ and_stretch.0 in
      let and_thread = parts _ _ and_early.0 in
      record {
        meets = meets→ n and_thread.0;
        by_t = eqb-true _ _ and_thread.1;
        early = ltb-true _ _ and_early.1;
        in_stretch = eqb-true _ _ and_stretch.1;
      }

  pub →joins : (n t : ℕ) → Joined n t → joins ev n t ≡ true
  →joins n t joined =
      let and_thread = both _ _ (→meets n joined.meets) (eq-eqb _ _ joined.by_t) in
      let and_early = both _ _ and_thread (lt-ltb _ _ joined.early) in
      both _ _ and_early (eq-eqb _ _ joined.in_stretch)

  -- ---- the steps

  -- an event's clock stays what it is when the event comes
  pub clock_stays : (n q u : ℕ) → q < n → clock ev n q u ≡ vc ev q u
  unfolding clock vc
  clock_stays zero q u early = absurd (omega arith)
  clock_stays (suc n) q u early = last_or_earlier (same? q n) (clock_stays n q u)
    where
      last_or_earlier :
          (q ≡ n) ⊎ (q ≢ n) → (q < n → clock ev n q u ≡ vc ev q u) → clock ev (suc n) q u ≡ vc ev q u
      last_or_earlier (inl is) earlier = rw is
      last_or_earlier (inr differs) earlier = rw (ne_eqb q n differs) (earlier (omega arith))

  pub seen_zero : (t u : ℕ) → seen ev 0 t u ≡ 0
  unfolding seen
  seen_zero t u = refl

  -- a crash starts afresh
  pub seen_crash : (n t u : ℕ) → crash? ev n ≡ true → seen ev (suc n) t u ≡ 0
  unfolding seen
  seen_crash n t u crash = rw crash

  -- a load or wait brings in its source's clock
  pub seen_join :
      (n t u : ℕ) → joins ev n t ≡ true → seen ev (suc n) t u ≡ max (seen ev n t u) (vc ev (source ev n) u)
  unfolding seen
  seen_join n t u join =
      let joined = joins→ n t join in
      rw ((meets_no_crash joined.meets).0, join, clock_stays n (source ev n) u joined.early)

  -- any other event leaves what is seen
  pub seen_keep : (n t u : ℕ) → crash? ev n ≡ false → joins ev n t ≡ false → seen ev (suc n) t u ≡ seen ev n t u
  unfolding seen
  seen_keep n t u no_crash no_join = rw (no_crash, no_join)

  -- of its own thread, an event's clock counts what is issued, the event included
  pub vc_here : (q u : ℕ) → u ≡ thread ev q → vc ev q u ≡ issues ev (suc q) (stretch ev q) (thread ev q)
  unfolding vc clock
  vc_here q u own_thread = rw (eqb_same q, eq-eqb u (thread ev q) own_thread) (sym (count_own ev (issue? ev) q))

  -- so a store's clock counts it and the stores before it
  pub vc_own : (q u : ℕ) → Issue ev q → u ≡ thread ev q → vc ev q u ≡ suc (place ev q)
  vc_own q u store own_thread =
      vc_here q u own_thread ∙ count_it ev (issue? ev) q (stretch ev q) (thread ev q) store.test refl refl

  -- of another thread, what its thread has seen, event q included
  pub vc_other : (q u : ℕ) → crash? ev q ≡ false → u ≢ thread ev q → vc ev q u ≡ seen ev (suc q) (thread ev q) u
  unfolding vc clock
  vc_other q u no_crash other = rw (eqb_same q, ne_eqb u (thread ev q) other, no_crash)

  -- ---- the bounds

  abbrev SeenBound : ℕ → Type 0
  SeenBound n = (t u : ℕ) → seen ev n t u ≤ issues ev n (stretch ev n) u

  vc_bound_by_seen :
      (q u : ℕ) → crash? ev q ≡ false → SeenBound (suc q) → vc ev q u ≤ issues ev (suc q) (stretch ev q) u
  vc_bound_by_seen q u no_crash bound = by_thread (same? u (thread ev q))
    where
      by_thread : (u ≡ thread ev q) ⊎ (u ≢ thread ev q) → vc ev q u ≤ issues ev (suc q) (stretch ev q) u
      by_thread (inl own_thread) = rw (vc_here q u own_thread, own_thread) (omega arith)
      by_thread (inr other) =
          rw (vc_other q u no_crash other, ← stretch_else ev q no_crash) (bound (thread ev q) u)

  seen_bound_next : (n : ℕ) → ((m : ℕ) → m ≤ n → SeenBound m) → SeenBound (suc n)
  seen_bound_next n earlier t u = by_event (test (crash? ev n)) (test (joins ev n t))
    where
      so_far : seen ev n t u ≤ issues ev (suc n) (stretch ev n) u
      so_far =
          omega (arith, earlier n (omega arith) t u, count_mono ev (issue? ev) n (suc n) (stretch ev n) u (omega arith))

      brought : Joined n t → vc ev (source ev n) u ≤ issues ev (suc n) (stretch ev n) u
      brought joined =
          let s = source ev n in
          let no_crash = (meets_no_crash joined.meets).1 in
          let of_source = vc_bound_by_seen s u no_crash (earlier (suc s) joined.early) in
          let issued = count_mono ev (issue? ev) (suc s) (suc n) (stretch ev s) u (omega (arith, joined.early)) in
          rw (← joined.in_stretch) (omega arith)

      by_event :
          (crash? ev n ≡ true) ⊎ (crash? ev n ≡ false) → (joins ev n t ≡ true) ⊎ (joins ev n t ≡ false)
          → seen ev (suc n) t u ≤ issues ev (suc n) (stretch ev (suc n)) u
      by_event (inl crash) join = rw (seen_crash n t u crash) (omega arith)
      by_event (inr no_crash) (inl join) =
          rw (stretch_else ev n no_crash, seen_join n t u join) (omega (arith, so_far, brought (joins→ n t join)))
      by_event (inr no_crash) (inr no_join) =
          rw (stretch_else ev n no_crash, seen_keep n t u no_crash no_join) so_far

  -- what a thread has seen of u before event n is at most what u has issued there in the stretch
  pub seen_bound : (n t u : ℕ) → seen ev n t u ≤ issues ev n (stretch ev n) u
  seen_bound = from_all_smaller SeenBound (λ t u. omega (arith, seen_zero t u)) seen_bound_next

  -- and so is what an event's clock counts of u, the event included
  pub vc_bound : (q u : ℕ) → crash? ev q ≡ false → vc ev q u ≤ issues ev (suc q) (stretch ev q) u
  vc_bound q u no_crash = vc_bound_by_seen q u no_crash (seen_bound (suc q))
