-- Nothing depends on later events: two numberings that agree on the first N events have, of these events, the same
-- stretches, counts, queues, sources, counted loads, refusals and happens-before. Each of these definitions looks at
-- earlier events only, apart from the load rule's third case and the rule of waits, which any source is put to: a
-- source that comes later is of no earlier stretch, and no earlier signal. Choices and rulings: Prefixes. No event
-- needs to be accepted.
-- In the order of specs/: Trace; Machine; Rules; HappensBefore.
use Prim.Native.Nat.{ℕ, zero, suc, ◌≤◌, ◌<◌}
use native.Mathlib.Omega.{arith}
use mathlib.Core.Path.{◌≡◌, refl, sym, ap, ◌∙◌}
use mathlib.Core.Bool.{Bool, false, ◌&&◌, and-false}
use mathlib.Core.Logic.{◌⊎◌, inl, inr}
use borrow.Author.Tests.{le-ltb}
use Rattle.record.specs.declared.events.Event.{Event}
use Rattle.record.specs.declared.events.Fields.{Fields}
use Rattle.record.specs.Fields.{fields_of}
use Rattle.model.specs.Trace.{thread, location, source, issue?, commit?, signal?, Issue, Load, Signal, Wait}
use Rattle.model.specs.Trace.{stretch, count, issues, commits, place}
use Rattle.model.specs.Machine.{beside, commits_before, queued, oldest, committed, commits_it, commit_of}
use Rattle.model.specs.Machine.{waits, waiting, commits_here, current, past, source_fits, signalled, switched}
use Rattle.model.specs.Machine.{skipping, opened, countable, held, counting}
use Rattle.model.specs.Rules.{begin_fits, rules, refusal, Accepted}
use Rattle.model.specs.HappensBefore.{Precedes, own, read, handed, chain, Before, AtOrBefore}
use Rattle.model.proofs.Searching.{less?, last_same, last_within}
use Rattle.model.proofs.Counting.{stretch_mono}
use Rattle.model.proofs.Ordering.{precedes_lt}

-- two numberings have the same first N events
abbrev pub Agree : ℕ → (ℕ → Event) → (ℕ → Event) → Type 0
Agree N ev other = (e : ℕ) → e < N → ev e ≡ other e

-- either way round
pub reversed : {N : ℕ} {ev other : ℕ → Event} → Agree N ev other → Agree N other ev
reversed agree e inside = sym (agree e inside)

-- and fewer of them
pub fewer : {N : ℕ} {ev other : ℕ → Event} → (n : ℕ) → n ≤ N → Agree N ev other → Agree n ev other
fewer n within agree e inside = agree e (omega arith)

-- no earlier signal comes later
signalled_later : (ev : ℕ → Event) (n : ℕ) → n ≤ source ev n → signalled ev n ≡ false
signalled_later ev n later = rw (le-ltb (source ev n) n later, and-false (signal? ev (source ev n))) refl

-- no store of an earlier stretch comes later
past_later : (ev : ℕ → Event) (n s : ℕ) → n ≤ s → past ev n s ≡ false
past_later ev n s later =
    rw (le-ltb (stretch ev s) (stretch ev n) (stretch_mono ev n s later), and-false (issue? ev s && _))

module _ {N : ℕ} {ev other : ℕ → Event} (agree : Agree N ev other) where
  -- ---- what an event says, stretches and counts

  field_same : (e : ℕ) → e < N → (get : Fields → ℕ) → get (fields_of (ev e)) ≡ get (fields_of (other e))
  field_same e inside get = ap (λ (x : Event). get (fields_of x)) (agree e inside)

  pub thread_same : (e : ℕ) → e < N → thread ev e ≡ thread other e
  thread_same e inside = field_same e inside (λ f. f.thread)

  pub location_same : (e : ℕ) → e < N → location ev e ≡ location other e
  location_same e inside = field_same e inside (λ f. f.location)

  pub source_same : (e : ℕ) → e < N → source ev e ≡ source other e
  source_same e inside = field_same e inside (λ f. f.source)

  pub stretch_same : (n : ℕ) → n ≤ N → stretch ev n ≡ stretch other n
  unfolding stretch
  stretch_same zero within = refl
  stretch_same (suc n) within = rw (agree n (omega arith), stretch_same n (omega arith))

  count_same :
      (f g : ℕ → Bool) → ((e : ℕ) → e < N → f e ≡ g e) → (n j t : ℕ) → n ≤ N → count ev f n j t ≡ count other g n j t
  unfolding count
  count_same f g same zero j t within = refl
  count_same f g same (suc n) j t within =
      rw (
        count_same f g same n j t (omega arith),
        same n (omega arith),
        stretch_same n (omega arith),
        thread_same n (omega arith),
      )

  issues_same : (n j t : ℕ) → n ≤ N → issues ev n j t ≡ issues other n j t
  issues_same = count_same (issue? ev) (issue? other) (λ e inside. rw (agree e inside))

  pub commits_same : (n j t : ℕ) → n ≤ N → commits ev n j t ≡ commits other n j t
  commits_same = count_same (commit? ev) (commit? other) (λ e inside. rw (agree e inside))

  pub place_same : (p : ℕ) → p < N → place ev p ≡ place other p
  place_same p inside = rw (stretch_same p (omega arith), thread_same p inside) (issues_same p _ _ (omega arith))

  -- ---- queues

  commits_before_same : (n : ℕ) → n < N → commits_before ev n ≡ commits_before other n
  commits_before_same n inside =
      rw (stretch_same n (omega arith), thread_same n inside) (commits_same n _ _ (omega arith))

  queued_same : (n : ℕ) → n < N → queued ev n ≡ queued other n
  queued_same n inside = rw (place_same n inside, commits_before_same n inside)

  beside_same : (p n : ℕ) → p < N → n < N → beside ev p n ≡ beside other p n
  beside_same p n p_inside n_inside =
      rw (
        stretch_same p (omega arith),
        stretch_same n (omega arith),
        thread_same p p_inside,
        thread_same n n_inside,
        agree p p_inside,
      )

  committed_same : (c : ℕ) → c < N → committed ev c ≡ committed other c
  unfolding committed
  committed_same c inside = last_same (suc c) (oldest ev c) (oldest other c) oldest_same
    where
      oldest_same : (p : ℕ) → p < suc c → oldest ev c p ≡ oldest other c p
      oldest_same p earlier =
          rw (beside_same p c (omega arith) inside, place_same p (omega arith), commits_before_same c inside)

  pub commit_of_same : (n p : ℕ) → n ≤ N → p < N → commit_of ev n p ≡ commit_of other n p
  unfolding commit_of
  commit_of_same n p within inside = last_same n (commits_it ev p) (commits_it other p) commits_it_same
    where
      commits_it_same : (c : ℕ) → c < n → commits_it ev p c ≡ commits_it other p c
      commits_it_same c earlier =
          rw (
            commits_before_same c (omega arith),
            place_same p inside,
            stretch_same c (omega arith),
            stretch_same p (omega arith),
            thread_same c (omega arith),
            thread_same p inside,
            agree c (omega arith),
          )

  -- ---- the load rule

  waiting_same : (n : ℕ) → n < N → waiting ev n ≡ waiting other n
  unfolding waiting
  waiting_same n inside = last_same n (waits ev n) (waits other n) waits_same
    where
      waits_same : (p : ℕ) → p < n → waits ev n p ≡ waits other n p
      waits_same p earlier =
          rw (
            beside_same p n (omega arith) inside,
            place_same p (omega arith),
            commits_before_same n inside,
            location_same p (omega arith),
            location_same n inside,
          )

  current_same : (n : ℕ) → n < N → current ev n ≡ current other n
  unfolding current committed
  current_same n inside =
      rw (last_same n (commits_here ev n) (commits_here other n) commits_here_same)
      (committed_same _ (omega (arith, last_within n (commits_here other n))))
    where
      commits_here_same : (c : ℕ) → c < n → commits_here ev n c ≡ commits_here other n c
      commits_here_same c earlier =
          rw (
            committed_same c (omega arith),
            location_same (committed other c) (omega (arith, last_within (suc c) (oldest other c))),
            stretch_same c (omega arith),
            stretch_same n (omega arith),
            location_same n inside,
            agree c (omega arith),
          )

  past_same : (n s : ℕ) → n < N → past ev n s ≡ past other n s
  past_same n s inside = by_order (less? s n)
    where
      by_order : (s < n) ⊎ (n ≤ s) → past ev n s ≡ past other n s
      by_order (inl earlier) =
          rw (
            place_same s (omega arith),
            commits_same n (stretch ev s) (thread ev s) (omega arith),
            stretch_same s (omega arith),
            stretch_same n (omega arith),
            thread_same s (omega arith),
            location_same s (omega arith),
            location_same n inside,
            agree s (omega arith),
          )
      by_order (inr later) = past_later ev n s later ∙ sym (past_later other n s later)

  source_fits_same : (n : ℕ) → n < N → source_fits ev n ≡ source_fits other n
  unfolding source_fits
  source_fits_same n inside =
      rw (waiting_same n inside, current_same n inside, past_same n (source ev n) inside, source_same n inside)

  -- ---- which loads count

  switched_same :
      (on? off? on_other? off_other? : ℕ → Bool)
      → ((e : ℕ) → e < N → on? e ≡ on_other? e) → ((e : ℕ) → e < N → off? e ≡ off_other? e)
      → (n t : ℕ) → n ≤ N → switched ev on? off? n t ≡ switched other on_other? off_other? n t
  unfolding switched
  switched_same on? off? on_other? off_other? on off zero t within = refl
  switched_same on? off? on_other? off_other? on off (suc n) t within =
      rw (
        switched_same on? off? on_other? off_other? on off n t (omega arith),
        on n (omega arith),
        off n (omega arith),
        thread_same n (omega arith),
        agree n (omega arith),
      )

  skipping_same : (n t : ℕ) → n ≤ N → skipping ev n t ≡ skipping other n t
  skipping_same = switched_same _ _ _ _ (λ e inside. rw (agree e inside)) (λ e inside. rw (agree e inside))

  opened_same : (n t : ℕ) → n ≤ N → opened ev n t ≡ opened other n t
  opened_same = switched_same _ _ _ _ (λ e inside. rw (agree e inside)) (λ e inside. rw (agree e inside))

  countable_same : (n : ℕ) → n < N → countable ev n ≡ countable other n
  unfolding countable
  countable_same n inside =
      rw (
        waiting_same n inside,
        current_same n inside,
        skipping_same n (thread ev n) (omega arith),
        thread_same n inside,
        agree n inside,
      )

  held_same : (n t : ℕ) → n ≤ N → held ev n t ≡ held other n t
  unfolding held
  held_same zero t within = refl
  held_same (suc n) t within =
      rw (
        held_same n t (omega arith),
        countable_same n within,
        opened_same (suc n) t within,
        thread_same n within,
      )

  pub counting_same : (n : ℕ) → n < N → counting ev n ≡ counting other n
  unfolding counting
  counting_same n inside =
      rw (
        held_same n (thread ev n) (omega arith),
        countable_same n inside,
        opened_same n (thread ev n) (omega arith),
        field_same n inside (λ f. f.outcome),
        thread_same n inside,
        agree n inside,
      )

  -- ---- waits

  signalled_same : (n : ℕ) → n < N → signalled ev n ≡ signalled other n
  signalled_same n inside = by_order (less? (source ev n) n)
    where
      by_order : (source ev n < n) ⊎ (n ≤ source ev n) → signalled ev n ≡ signalled other n
      by_order (inl earlier) =
          rw (
            ← source_same n inside,
            stretch_same (source ev n) (omega arith),
            stretch_same n (omega arith),
            agree (source ev n) (omega arith),
          )
      by_order (inr later) =
          signalled_later ev n later ∙ sym (signalled_later other n (rw (source_same n inside) at later))

  -- ---- the rules

  begin_fits_same : (n : ℕ) → n < N → begin_fits ev n ≡ begin_fits other n
  begin_fits_same n inside =
      rw (
        field_same n inside (λ f. f.version),
        field_same n inside (λ f. f.threads),
        field_same n inside (λ f. f.locations),
      )

  pub refusal_same : (n : ℕ) → n < N → refusal ev n ≡ refusal other n
  unfolding rules
  refusal_same n inside =
      rw (
        source_fits_same n inside,
        signalled_same n inside,
        queued_same n inside,
        skipping_same n (thread ev n) (omega arith),
        opened_same n (thread ev n) (omega arith),
        stretch_same n (omega arith),
        thread_same n inside,
        location_same n inside,
        begin_fits_same n inside,
        field_same n inside (λ f. f.outcome),
        field_same 0 (omega arith) (λ f. f.version),
        field_same 0 (omega arith) (λ f. f.threads),
        field_same 0 (omega arith) (λ f. f.locations),
        agree n inside,
      )

  pub accepted_same : Accepted ev N → Accepted other N
  accepted_same accepted =
      record { passes = λ n inside. sym (refusal_same n inside) ∙ accepted.passes n inside }

  -- ---- happens-before

  pub issue_same : {e : ℕ} → e < N → Issue ev e → Issue other e
  issue_same {e} inside store = record { test = rw (agree e inside) at store.test }

  pub load_same : {e : ℕ} → e < N → Load ev e → Load other e
  load_same {e} inside loads = record { test = rw (agree e inside) at loads.test }

  pub signal_same : {e : ℕ} → e < N → Signal ev e → Signal other e
  signal_same {e} inside signal = record { test = rw (agree e inside) at signal.test }

  pub wait_same : {e : ℕ} → e < N → Wait ev e → Wait other e
  wait_same {e} inside waits = record { test = rw (agree e inside) at waits.test }

  pub stretches_same :
      (e n : ℕ) → e ≤ N → n ≤ N → stretch ev e ≡ stretch ev n → stretch other e ≡ stretch other n
  stretches_same e n e_within n_within same = omega (arith, stretch_same e e_within, stretch_same n n_within)

  threads_same : (e n : ℕ) → e < N → n < N → thread ev e ≡ thread ev n → thread other e ≡ thread other n
  threads_same e n e_inside n_inside same = omega (arith, thread_same e e_inside, thread_same n n_inside)

  pub precedes_same : {p n : ℕ} → n < N → Precedes ev p n → Precedes other p n
  precedes_same {p} {n} inside (own store in_stretch by_thread earlier) =
      own (issue_same (omega arith) store) (stretches_same p n (omega arith) (omega arith) in_stretch)
      (threads_same p n (omega arith) inside by_thread) earlier
  precedes_same {p} {n} inside (read l store in_stretch loads from by_thread load_in_stretch after early) =
      read l (issue_same (omega arith) store) (stretches_same p n (omega arith) (omega arith) in_stretch)
      (load_same (omega arith) loads) (sym (source_same l (omega arith)) ∙ from)
      (threads_same l n (omega arith) inside by_thread)
      (stretches_same l n (omega arith) (omega arith) load_in_stretch) after early
  precedes_same {p} {n} inside
      (handed s w signal in_stretch before waits from by_thread wait_in_stretch after early) =
      handed s w (signal_same (omega arith) signal) (stretches_same s n (omega arith) (omega arith) in_stretch)
      (precedes_same (omega arith) before) (wait_same (omega arith) waits) (sym (source_same w (omega arith)) ∙ from)
      (threads_same w n (omega arith) inside by_thread)
      (stretches_same w n (omega arith) (omega arith) wait_in_stretch) after early
  precedes_same inside (chain {p} {q} {n} store first second) =
      let q<n = precedes_lt ev second in
      chain (issue_same (omega arith) store) (precedes_same (omega arith) first) (precedes_same inside second)

  pub before_same : {p q : ℕ} → q < N → Before ev p q → Before other p q
  before_same inside before =
      record { store = issue_same inside before.store; precedes = precedes_same inside before.precedes }

  pub at_or_before_same : {p q : ℕ} → q < N → AtOrBefore ev p q → AtOrBefore other p q
  at_or_before_same inside (inl same) = inl same
  at_or_before_same inside (inr before) = inr (before_same inside before)
