-- The rules of specs/Rules.antt, for a part of a trace and the whole (specs/Embedding.antt): an event that is one event
-- in both traces meets the same refusal in both. So the part of an accepted trace is accepted if all its events are
-- such ones. In order: each rule; `refusal_same`; `accepted_part`.
use Prim.Native.Nat.{ℕ, ◌≤◌, ◌<◌}
use native.Mathlib.Omega.{arith}
use mathlib.Core.Path.{◌≡◌, sym, ◌∙◌}
use mathlib.Core.Bool.{true, ◌&&◌, ◌||◌, not}
use lib.Dec.{eqb, ltb, leb}
use borrow.Author.Tests.{le-ltb}
use Rattle.record.specs.declared.events.Event.{Event}
use Rattle.model.specs.Trace.{thread, location, has_thread?, has_location?, threads, locations, stretch, begin?}
use Rattle.model.specs.Trace.{source, issue?, commit?, load?, drained?, skip_on?, skip_off?, wait?, open?, close?}
use Rattle.model.specs.Trace.{outcome, new?}
use Rattle.model.specs.Machine.{queued, source_fits, signalled, skipping, opened}
use Rattle.model.specs.Rules.{begin_fits, rules, refusal, Accepted}
use Rattle.model.specs.Embedding.{Naming, Embedding, Apart, SameEvent, SameBegin}
use Rattle.model.proofs.Acceptance.{event_bound}
use Rattle.model.proofs.Ranges.{commit_has_thread, drained_has_thread, skip_on_has_thread, skip_off_has_thread}
use Rattle.model.proofs.Ranges.{open_has_thread, close_has_thread}
use Rattle.model.proofs.Numberings.{number_zero, kept_le, number_below, number_eqb_zero, number_ltb}
use Rattle.model.proofs.EmbeddedTrace.{by_role, stretch_kept, stretch_store, issues_at, commits_before_at}
use Rattle.model.proofs.EmbeddedTrace.{skipping_kept, opened_kept}
use Rattle.model.proofs.EmbeddedMachine.{source_fits_at}

module _
    {threads_by locations_by : Naming} {part whole : ℕ → Event} (via : Embedding threads_by locations_by part whole)
    (apart : Apart via) (begins : SameBegin threads_by locations_by part whole) where
  module _ (n e : ℕ) (same : SameEvent via n e) where
    at_store : via.stores.kept n ≡ e
    at_store = rw same.as_store at (via.stores.kept_number e)

    at_load : via.loads.kept n ≡ e
    at_load = rw same.as_load at (via.loads.kept_number e)

    at_commit : via.commits.kept n ≡ e
    at_commit = rw same.as_commit at (via.commits.kept_number e)

    stretch_same : stretch whole n ≡ stretch part e
    stretch_same = stretch_kept via n ∙ rw at_store

    thread_rule_lem :
        (has_thread? whole n && leb (threads whole) (thread whole n))
        ≡ (has_thread? part e && leb (threads part) (thread part e))
    thread_rule_lem =
        by_role (has_thread? part e)
        (λ has.
        rw (same.kind_same, same.thread_same has, begins.thread_still_fits (thread part e) (same.thread_own has)))
        (λ has_none. rw (same.kind_same, has_none))

    location_rule :
        (has_location? whole n && leb (locations whole) (location whole n))
        ≡ (has_location? part e && leb (locations part) (location part e))
    location_rule =
        by_role (has_location? part e)
        (λ has.
        rw (same.kind_same, same.location_same has, begins.location_fits (location part e) (same.location_own has)))
        (λ has_none. rw (same.kind_same, has_none))

    load_rule_lem : (load? whole n && not (source_fits whole n)) ≡ (load? part e && not (source_fits part e))
    load_rule_lem =
        by_role (load? part e)
        (λ loads.
        let fits : source_fits whole n ≡ source_fits part e = rw same.as_load at (source_fits_at via apart e loads) in
        rw (same.kind_same, fits))
        (λ other. rw (same.kind_same, other))

    queued_same : has_thread? part e ≡ true → queued whole n ≡ queued part e
    queued_same has =
        rw (
          issues_at via n e (same.thread_same has) (same.thread_own has) stretch_same at_store,
          commits_before_at via n e (same.thread_same has) (same.thread_own has) stretch_same at_commit,
        )

    commit_rule_lem :
        (commit? whole n && not (queued whole n || issue? whole n))
        ≡ (commit? part e && not (queued part e || issue? part e))
    commit_rule_lem =
        by_role (commit? part e)
        (λ it. rw (queued_same (commit_has_thread part {c = e} (record { test = it })), same.kind_same))
        (λ other. rw (same.kind_same, other))

    drained_rule : (drained? whole n && queued whole n) ≡ (drained? part e && queued part e)
    drained_rule =
        by_role (drained? part e) (λ it. rw (queued_same (drained_has_thread part e it), same.kind_same))
        (λ other. rw (same.kind_same, other))

    skipping_same : has_thread? part e ≡ true → skipping whole n (thread whole n) ≡ skipping part e (thread part e)
    skipping_same has =
        rw (same.thread_same has) (skipping_kept via n (thread part e) (same.thread_own has) ∙ rw at_store)

    skip_on_rule :
        (skip_on? whole n && skipping whole n (thread whole n)) ≡ (skip_on? part e && skipping part e (thread part e))
    skip_on_rule =
        by_role (skip_on? part e) (λ it. rw (skipping_same (skip_on_has_thread part e it), same.kind_same))
        (λ other. rw (same.kind_same, other))

    skip_off_rule :
        (skip_off? whole n && not (skipping whole n (thread whole n)))
        ≡ (skip_off? part e && not (skipping part e (thread part e)))
    skip_off_rule =
        by_role (skip_off? part e) (λ it. rw (skipping_same (skip_off_has_thread part e it), same.kind_same))
        (λ other. rw (same.kind_same, other))

    opened_same : has_thread? part e ≡ true → opened whole n (thread whole n) ≡ opened part e (thread part e)
    opened_same has =
        rw (same.thread_same has) (opened_kept via n (thread part e) (same.thread_own has) ∙ rw at_load)

    open_rule_lem : (open? whole n && opened whole n (thread whole n)) ≡ (open? part e && opened part e (thread part e))
    open_rule_lem =
        by_role (open? part e) (λ it. rw (opened_same (open_has_thread part e it), same.kind_same))
        (λ other. rw (same.kind_same, other))

    close_rule_lem :
        (close? whole n && not (opened whole n (thread whole n)))
        ≡ (close? part e && not (opened part e (thread part e)))
    close_rule_lem =
        by_role (close? part e) (λ it. rw (opened_same (close_has_thread part e it), same.kind_same))
        (λ other. rw (same.kind_same, other))

    outcome_rule : (close? whole n && ltb 1 (outcome whole n)) ≡ (close? part e && ltb 1 (outcome part e))
    outcome_rule =
        by_role (close? part e)
        (λ it.
        let there : outcome whole n ≡ outcome part e = rw same.as_load at (via.outcome_same e it) in
        rw (there, same.kind_same))
        (λ other. rw (same.kind_same, other))

    signalled_same : wait? part e ≡ true → signalled whole n ≡ signalled part e
    signalled_same waits =
        let s = source part e in
        let from_s : source whole n ≡ via.stores.number s = rw same.as_store at (via.wait_source e waits) in
        let early : ltb (via.stores.number s) n ≡ ltb s e = rw same.as_store at (number_ltb via.stores s e) in
        rw (from_s, via.signalling.same s, early, stretch_store via s, stretch_same)

    wait_rule_lem : (wait? whole n && not (signalled whole n)) ≡ (wait? part e && not (signalled part e))
    wait_rule_lem =
        by_role (wait? part e) (λ waits. rw (signalled_same waits, same.kind_same))
        (λ other. rw (same.kind_same, other))

    first_same : eqb n 0 ≡ eqb e 0
    first_same = rw same.as_store at (number_eqb_zero via.stores e)

    later_same : ltb 0 n ≡ ltb 0 e
    later_same = rw (same.as_store, number_zero via.stores) at (number_ltb via.stores 0 e)

    new_rule_lem : new? whole n ≡ new? part e
    new_rule_lem = rw (begins.version_same, same.kind_same, later_same)

    begin_rule_lem : (begin? whole n && not (begin_fits whole n)) ≡ (begin? part e && not (begin_fits part e))
    begin_rule_lem =
        by_role (begin? part e) (λ begin. rw (same.begin_still_fits begin, same.kind_same))
        (λ other. rw (same.kind_same, other))

    -- an event that is not past the limit meets the same refusal in both traces
    pub refusal_same : n ≤ 2048 → refusal whole n ≡ refusal part e
    unfolding rules
    refusal_same inside =
        let limit_same : ltb 2048 n ≡ ltb 2048 e =
        le-ltb 2048 n inside ∙ sym (le-ltb 2048 e (omega (arith, kept_le via.stores n, at_store)))
        in
        rw (
          new_rule_lem,
          begin_rule_lem,
          thread_rule_lem,
          location_rule,
          drained_rule,
          load_rule_lem,
          commit_rule_lem,
          skip_on_rule,
          skip_off_rule,
          wait_rule_lem,
          outcome_rule,
          open_rule_lem,
          close_rule_lem,
          first_same,
          later_same,
          limit_same,
          same.kind_same,
          stretch_same,
        )

  -- an accepted trace has an accepted part, if each event of that is one event of the trace
  pub accepted_part :
      ((e : ℕ) → SameEvent via (via.loads.number e) e) → (N : ℕ) → Accepted whole N
      → Accepted part (via.loads.kept N)
  accepted_part one_event N accepted = record { passes = passes }
    where
      passes : (e : ℕ) → e < via.loads.kept N → refusal part e ≡ 0
      passes e inside =
          let below = number_below via.loads e N inside in
          let bounded = event_bound whole N accepted (via.loads.number e) below in
          sym (refusal_same (via.loads.number e) e (one_event e) bounded)
          ∙ accepted.passes (via.loads.number e) below
