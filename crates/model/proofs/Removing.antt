-- Events that play no role, taken out of a list (specs/Flushes.antt): an accepted trace without them is accepted, and a
-- ruling is exact of it exactly if, with its event numbers carried over, it is exact of the whole trace. The fault of
-- two stores is carried over alike. What stays of the list is a part of it (specs/Embedding.antt): an accepted load's
-- source is a store or event 0, and both stay.
-- In order: the embedding; what follows from it.
use Prim.Native.Nat.{ℕ, suc, ◌≤◌, ◌<◌}
use mathlib.Core.Path.{◌≡◌, refl, sym, ◌∙◌, ap}
use mathlib.Core.Bool.{Bool, true, false}
use mathlib.Core.List.{List}
use mathlib.Core.Logic.{◌⊎◌, inl, inr, ◌≢◌, ◌↔◌}
use lib.ListN.{length, get_or-eq_default}
use Rattle.record.specs.declared.events.Event.{Event}
use Rattle.record.specs.declared.events.Event.TheVariants.{Crash}
use Rattle.model.specs.Trace.{trace_of, source, issue?, commit?, load?, begin?, skip_on?, skip_off?, crash?}
use Rattle.model.specs.Trace.{signal?, wait?, open?, close?}
use Rattle.model.specs.Trace as trace
use Rattle.model.specs.Machine.{committed}
use Rattle.model.specs.Rules.{Accepted}
use Rattle.model.specs.Choice.{Ruling, finished, Exact}
use Rattle.model.specs.Answers.{fault_of}
use Rattle.model.specs.Flushes.{carry, shifted_fault, kept, number, without}
use Rattle.model.specs.Embedding.{Numbering, everything, Role, Embedding, Finds, Apart, SameEvent, SameBegin}
use Rattle.model.specs.Embedding.{Cover}
use Rattle.model.proofs.Searching.{same?, less?, test, false_true, excluded}
use Rattle.model.proofs.Roles.{Quiet}
use Rattle.model.proofs.Acceptance.{begins}
use Rattle.model.proofs.Moving.{Renumbered, moved_is, no_source_lem}
use Rattle.model.proofs.AcceptedLists.{accepted_finds}
use Rattle.model.proofs.Taking.{kept_none, number_kept, Inside, taking, event_there, length_kept}
use Rattle.model.proofs.Numberings.{number_zero, number_injective}
use Rattle.model.proofs.EmbeddedMachine.{committed_at_lem}
use Rattle.model.proofs.EmbeddedRules.{accepted_part}
use Rattle.model.proofs.EmbeddedChoices.{finished_kept}
use Rattle.model.proofs.EmbeddedRuling.{exact_both}
use Rattle.model.proofs.EmbeddedWindows.{fault_at}

-- ---- the embedding

module _
    (es : List Event) (accepted : Accepted (trace_of es) (length es))
    (out? : ℕ → Bool) (quiet : (n : ℕ) → out? n ≡ true → Quiet (trace_of es) n) where
  -- the trace, and the trace without those records
  abbrev whole : ℕ → Event
  whole = trace_of es

  abbrev short : ℕ → Event
  short = trace_of (without out? es)

  -- past the end there are crashes
  pub inside : Inside out? es
  inside n past =
      excluded (out? n) (crash? whole n) (λ out. (quiet n out).no_crash) (rw (get_or-eq_default es Crash past))

  -- so does event 0, a begin if there is any event
  pub first_stays : out? 0 ≡ false
  first_stays = by_length (less? 0 (length es))
    where
      by_length : (0 < length es) ⊎ (length es ≤ 0) → out? 0 ≡ false
      by_length (inl some_event) =
          excluded (out? 0) (begin? whole 0) (λ out. (quiet 0 out).no_begin)
          (begins whole (length es) accepted some_event)
      by_length (inr none) = inside 0 none

  whole_finds : Finds whole
  whole_finds = accepted_finds es accepted

  -- the source of an event stays: it is a store, a signal, or event 0
  source_stays : (n : ℕ) → out? (source whole n) ≡ false
  source_stays n = by_source (same? (source whole n) 0) (test (load? whole n)) (test (wait? whole n))
    where
      from_none : source whole n ≡ 0 → out? (source whole n) ≡ false
      from_none none = rw none first_stays

      by_source :
          (source whole n ≡ 0) ⊎ (source whole n ≢ 0) → (load? whole n ≡ true) ⊎ (load? whole n ≡ false)
          → (wait? whole n ≡ true) ⊎ (wait? whole n ≡ false) → out? (source whole n) ≡ false
      by_source (inl none) load wait = from_none none
      by_source (inr some) (inr other) (inr no_wait) =
          from_none (no_source_lem (whole n) (rw (other, no_wait)))
      by_source (inr some) (inr other) (inl waits) =
          excluded (out? (source whole n)) (signal? whole (source whole n))
          (λ out. (quiet (source whole n) out).no_signal) (whole_finds.wait_signal n waits)
      by_source (inr some) (inl loads) wait =
          excluded (out? (source whole n)) (issue? whole (source whole n))
          (λ out. (quiet (source whole n) out).no_issue) (whole_finds.source_store n loads some)

  abbrev pub numbering : Numbering
  numbering = taking out? es inside first_stays

  -- event e of those that stay is the event with its number, renumbered
  pub there : (e : ℕ) → Renumbered (kept out? es) (whole (number out? es e)) (short e)
  there e =
      rw (event_there out? (kept out? es) es e)
      (moved_is (kept out? es) (kept_none out? es) (whole (number out? es e)))

  source_there : (e : ℕ) → source whole (number out? es e) ≡ number out? es (source short e)
  source_there e =
      sym (ap (number out? es) (there e).source_moved
      ∙ number_kept out? es _ (source_stays (number out? es e)))

  role :
      (plays? : (ℕ → Event) → ℕ → Bool) → ((e : ℕ) → plays? whole (number out? es e) ≡ plays? short e)
      → ((n : ℕ) → Quiet whole n → plays? whole n ≡ false) → Role plays? numbering everything short whole
  role plays? same_role none = record {
    same = same_role;
    thread_same = λ e plays. (there e).thread_same;
    thread_own = λ e plays. refl;
    foreign = λ n out plays. false_true (sym (none n (quiet n out)) ∙ plays);
  }

  abbrev embedding : Embedding everything everything short whole
  embedding = record {
    stores = numbering;
    loads = numbering;
    commits = numbering;
    issuing = role issue? (λ e. rw (there e).kind_same) (λ n none. none.no_issue);
    skip_on = role skip_on? (λ e. rw (there e).kind_same) (λ n none. none.no_skip_on);
    skip_off = role skip_off? (λ e. rw (there e).kind_same) (λ n none. none.no_skip_off);
    opening = role open? (λ e. rw (there e).kind_same) (λ n none. none.no_open);
    closing = role close? (λ e. rw (there e).kind_same) (λ n none. none.no_close);
    signalling = role signal? (λ e. rw (there e).kind_same) (λ n none. none.no_signal);
    waiting = role wait? (λ e. rw (there e).kind_same) (λ n none. none.no_wait);
    loading = role load? (λ e. rw (there e).kind_same) (λ n none. none.no_load);
    committing = role commit? (λ e. rw (there e).kind_same) (λ n none. none.no_commit);
    crash_same = λ e. rw (there e).kind_same;
    crash_stays = λ n out. (quiet n out).no_crash;
    store_location = λ e store. (there e).location_same;
    load_location = λ e loads. (there e).location_same;
    location_own = λ e loads. refl;
    source_same = λ e loads. source_there e;
    outcome_same = λ e close. (there e).outcome_same;
    wait_source = λ e waits. source_there e;
    stores_at_load = numbering.kept_number;
    commits_at_load = numbering.kept_number;
    stores_at_commit = λ e.
        numbering.kept_event (number out? es e) (numbering.number_stays e) ∙ ap suc (numbering.kept_number e);
    store_near = λ n. inl refl;
    commit_near = λ n. inl refl;
  }

  short_finds : Finds short
  short_finds = record { commit_finds = commit_finds; source_store = source_store; wait_signal = wait_signal }
    where
      store_there : (p : ℕ) → issue? whole (number out? es p) ≡ true → issue? short p ≡ true
      store_there p store = rw (there p).kind_same at store

      commit_finds : (e : ℕ) → commit? short e ≡ true → issue? short (committed short e) ≡ true
      commit_finds e commits =
          store_there (committed short e)
          (rw (committed_at_lem embedding e commits) at
          (whole_finds.commit_finds (number out? es e) (rw (there e).kind_same commits)))

      source_store : (e : ℕ) → load? short e ≡ true → source short e ≢ 0 → issue? short (source short e) ≡ true
      source_store e loads some =
          let some_there : source whole (number out? es e) ≢ 0 =
          λ none. some (number_injective numbering _ 0 (sym (source_there e) ∙ none ∙ sym (number_zero numbering)))
          in
          store_there (source short e)
          (rw (source_there e) at
          (whole_finds.source_store (number out? es e) (rw (there e).kind_same loads) some_there))

      wait_signal : (e : ℕ) → wait? short e ≡ true → signal? short (source short e) ≡ true
      wait_signal e waits =
          let there_signals : signal? whole (number out? es (source short e)) ≡ true =
          rw (source_there e) at (whole_finds.wait_signal (number out? es e) (rw (there e).kind_same waits))
          in
          rw (there (source short e)).kind_same at there_signals

  apart : Apart embedding
  apart = record {
    store_apart = λ n out store. false_true (sym (quiet n out).no_issue ∙ store);
    commit_apart = λ n out commits. false_true (sym (quiet n out).no_commit ∙ commits);
    finds = short_finds;
  }

  cover : Cover embedding embedding
  cover = record {
    each_store = λ p store. inl (excluded (out? p) (issue? whole p) (λ out. (quiet p out).no_issue) store);
    each_load = λ l loads. inl (excluded (out? l) (load? whole l) (λ out. (quiet l out).no_load) loads);
    each_thread = λ u. inl refl;
  }

  same_event : (e : ℕ) → SameEvent embedding (number out? es e) e
  same_event e = record {
    as_store = refl;
    as_load = refl;
    as_commit = refl;
    kind_same = (there e).kind_same;
    thread_same = λ has. (there e).thread_same;
    thread_own = λ has. refl;
    location_same = λ has. (there e).location_same;
    location_own = λ has. refl;
    begin_still_fits = λ begin. rw ((there e).version_same, (there e).threads_same, (there e).locations_same);
  }

  same_begin : SameBegin everything everything short whole
  same_begin = record {
    version_same = rw (number_zero numbering) at (there 0).version_same;
    thread_still_fits = λ t own. rw (rw (number_zero numbering) at (there 0).threads_same);
    location_fits = λ x own. rw (rw (number_zero numbering) at (there 0).locations_same);
  }

  -- ---- what follows from it

  length_short : kept out? es (length es) ≡ length (without out? es)
  length_short = length_kept out? (kept out? es) es

  -- the trace without those events is accepted
  pub removed_accepted : Accepted (trace_of (without out? es)) (length (without out? es))
  removed_accepted = rw length_short at (accepted_part embedding apart same_begin same_event (length es) accepted)

  -- and has the same exact ruling, apart from event numbers
  pub removed_exact :
      (v : Ruling)
      → Exact (trace_of (without out? es)) (length (without out? es)) v
      ↔ Exact (trace_of es) (length es) (carry (number out? es) v)
  removed_exact v = rw length_short at (exact_both embedding apart cover (length es) v)

  -- and in each finished stretch the same commits of each thread
  pub removed_finished :
      (j t : ℕ)
      → finished (trace_of es) (length es) j t ≡ finished (trace_of (without out? es)) (length (without out? es)) j t
  removed_finished j t = rw length_short at (finished_kept embedding (length es) j t refl)

  -- and two of its stores have the same fault, apart from event numbers
  pub removed_fault :
      (p q : ℕ) → trace.Issue (trace_of (without out? es)) p → trace.Issue (trace_of (without out? es)) q
      → fault_of (trace_of es) (number out? es p) (number out? es q)
      ≡ shifted_fault (number out? es) (fault_of (trace_of (without out? es)) p q)
  removed_fault = fault_at embedding (λ e. refl)
