-- Nothing depends on later events: of two numberings that agree on the first N events, which are accepted, each thread
-- has the same window for two of their stores (specs/Windows.antt), and so the two have the same fault. For all that a
-- window asks for stands at or before the observed store, the sources of the loads and waits among it.
-- In order: what brings a store; the two places; the window; the fault, `fault_same`.
use Prim.Native.Nat.{ℕ, ◌≤◌, ◌<◌}
use native.Mathlib.Omega.{arith}
use mathlib.Core.Path.{◌≡◌, sym, ◌∙◌}
use Rattle.record.specs.declared.events.Event.{Event}
use Rattle.model.specs.Trace.{source, Issue}
use Rattle.model.specs.Rules.{Accepted}
use Rattle.model.specs.Windows.{Places, none, between, ComesBy, by_load, by_wait, Brings, FirstPlace}
use Rattle.model.specs.Windows.{LastPlace, Window, WindowIs, window_of}
use Rattle.model.specs.Windows as windows
use Rattle.model.specs.Answers.{fault_of}
use Rattle.model.proofs.Tabulating.{tabulate_same}
use Rattle.model.proofs.Ordering.{at_or_before_le}
use Rattle.model.proofs.WindowPlaces.{comes_from, comes_early, window_is, window_unique}
use Rattle.model.proofs.Agreement.{Agree, reversed, thread_same, location_same, source_same, stretches_same}
use Rattle.model.proofs.Agreement.{accepted_same}
use Rattle.model.proofs.Agreement.{issue_same, load_same, signal_same, wait_same, precedes_same}
use Rattle.model.proofs.Agreement.{at_or_before_same}

module _ {N : ℕ} {ev other : ℕ → Event} (agree : Agree N ev other) (accepted : Accepted ev N) where
  -- ---- what brings a store, which comes earlier

  comes_behind : {p l : ℕ} → l < N → ComesBy ev p l → p < l
  comes_behind inside comes = omega (arith, comes_from ev comes, comes_early ev N accepted inside comes)

  comes_same : {p l : ℕ} → l < N → source ev l < l → ComesBy ev p l → ComesBy other p l
  comes_same {p} {l} inside early (by_load loads order) =
      by_load (load_same agree inside loads)
      (rw (source_same agree l inside) at (at_or_before_same agree (omega arith) order))
  comes_same {p} {l} inside early (by_wait waits signal precedes) =
      by_wait (wait_same agree inside waits)
      (rw (source_same agree l inside) at (signal_same agree (omega arith) signal))
      (rw (source_same agree l inside) at (precedes_same agree (omega arith) precedes))

  brings_same : {p l : ℕ} → l < N → Brings ev p l → Brings other p l
  brings_same {p} {l} inside it =
      let behind = comes_behind inside it.comes in
      record {
        in_stretch = stretches_same agree l p (omega arith) (omega arith) it.in_stretch;
        comes = comes_same inside (comes_early ev N accepted inside it.comes) it.comes;
      }

module _ {N : ℕ} {ev other : ℕ → Event} (agree : Agree N ev other) (accepted : Accepted ev N) where
  -- ---- the two places

  first_same : {p t from : ℕ} → from ≤ N → FirstPlace ev p t from → FirstPlace other p t from
  first_same {p} within (windows.own is_own) = windows.own (is_own ∙ thread_same agree p (omega arith))
  first_same {p} {t} within (windows.brought l differs it) =
      let behind = comes_behind agree accepted (omega arith) it.brings.comes in
      windows.brought l (λ is_own. differs (is_own ∙ sym (thread_same agree p (omega arith))))
      (record {
        by_t = sym (thread_same agree l (omega arith)) ∙ it.by_t;
        brings = brings_same agree accepted (omega arith) it.brings;
        none_earlier = λ n earlier by_t brings.
            it.none_earlier n earlier (thread_same agree n (omega arith) ∙ by_t)
            (brings_same (reversed agree) (accepted_same agree accepted) (omega arith) brings);
      })

  last_same : {q t e : ℕ} → q < N → LastPlace ev q t e → LastPlace other q t e
  last_same {q} {t} {e} inside it =
      let early = at_or_before_le ev e q it.order in
      record {
        by_t = sym (thread_same agree e (omega arith)) ∙ it.by_t;
        store = issue_same agree (omega arith) it.store;
        order = at_or_before_same agree inside it.order;
        none_later = λ n later by_t store order.
            let n_early = at_or_before_le other n q order in
            it.none_later n later (thread_same agree n (omega arith) ∙ by_t)
            (issue_same (reversed agree) (omega arith) store) (at_or_before_same (reversed agree) inside order);
      }

  -- ---- the window

  ends_same : {p q t from to : ℕ} → q < N → Window ev p q t from to → Window other p q t from to
  ends_same {p} {q} {t} {from} {to} inside it =
      let early = at_or_before_le ev to q it.ends.order in
      let order = it.in_order in
      record {
        starts = first_same (omega arith) it.starts;
        ends = last_same inside it.ends;
        in_order = order;
      }

module _ {N : ℕ} {ev other : ℕ → Event} (agree : Agree N ev other) (accepted : Accepted ev N) where
  window_same : (p q t : ℕ) → q < N → (w : Places) → WindowIs ev p q t w → WindowIs other p q t w
  window_same p q t inside none no_window =
      λ from to it. no_window from to (ends_same (reversed agree) (accepted_same agree accepted) inside it)
  window_same p q t inside (between from to) it = ends_same agree accepted inside it

  -- ---- the fault

  -- THE FAULT OF TWO STORES AMONG THE FIRST EVENTS DEPENDS ON NO LATER EVENT
  pub fault_same : (p q : ℕ) → p < N → q < N → Issue ev p → Issue ev q → fault_of ev p q ≡ fault_of other p q
  unfolding fault_of
  fault_same p q p_inside q_inside p_store q_store =
      rw (
        thread_same agree p p_inside,
        location_same agree p p_inside,
        location_same agree q q_inside,
        tabulate_same 8 (window_of ev p q) (window_of other p q) (λ t below. at_thread t),
      )
    where
      at_thread : (t : ℕ) → window_of ev p q t ≡ window_of other p q t
      at_thread t =
          window_unique other p q t (window_of ev p q t) (window_of other p q t)
          (window_same p q t q_inside (window_of ev p q t) (window_is ev p q t p_store q_store))
          (window_is other p q t (issue_same agree p_inside p_store) (issue_same agree q_inside q_store))
