-- A locked operation replaced by its three records (specs/Locked.antt): the longer trace is accepted, while the event
-- limit holds. An event but for record k is one event in both traces, and so meets the same refusal; the three pass as
-- record k does: the same thread, location and source, and at the commit its store waits.
-- In order: the other events; the three; the longer trace, `replaced_accepted`; two-byte fields.
use Prim.Native.Nat.{ℕ, suc, ◌+◌, ◌≤◌, ◌<◌}
use native.Mathlib.Omega.{arith}
use mathlib.Core.Path.{◌≡◌, refl, sym, ◌∙◌, ap}
use mathlib.Core.Bool.{true, false}
use mathlib.Core.List.{List}
use mathlib.Core.Logic.{◌≢◌}
use lib.Dec.{leb}
use lib.ListN.{length}
use borrow.Author.Tests.{ne_eqb, lt-ltb, le-ltb, lt-leb}
use Rattle.record.specs.declared.events.Event.{Event}
use Rattle.record.specs.Table.{row_of}
use Rattle.record.specs.Fields.{fields_of, TwoByte}
use Rattle.model.specs.Trace.{trace_of, kind, thread, location, source, threads, locations, issue?, load?}
use Rattle.model.specs.Trace.{stretch, issues, commits}
use Rattle.model.specs.Machine.{source_fits, queued}
use Rattle.model.specs.Rules.{answer, rules, refusal, Accepted}
use Rattle.model.specs.Embedding.{everything, Embedding, SameEvent, SameBegin}
use Rattle.model.specs.Locked.{locked?, spread, as_store, replaced}
use Rattle.model.proofs.Counting.{count_it}
use Rattle.model.proofs.Acceptance.{fitting}
use Rattle.model.proofs.Limits.{thread_below, location_below}
use Rattle.model.proofs.Committed.{commits_below_issues}
use Rattle.model.proofs.EmbeddedTrace.{stretch_commits, issues_kept, commits_kept}
use Rattle.model.proofs.EmbeddedMachine.{source_fits_at}
use Rattle.model.proofs.EmbeddedRules.{refusal_same}
use Rattle.model.proofs.Spreading.{kept_at, kept_low, kept_high, spread_low, spread_here, spread_alike}
use Rattle.model.proofs.Spreading.{spread_below, Place, other, at_load, at_store, at_commit, place}
use Rattle.model.proofs.Moving.{Renumbered, fields_two_byte, moved_two_byte}
use Rattle.model.proofs.AcceptedLists.{source_two_byte}
use Rattle.model.proofs.Encoding.{AllTwoByte}
use Rattle.model.proofs.Replacing.{Three, length_replaced, of_kind, later, there, three, embedding, apart}

module _
    (es : List Event) (accepted : Accepted (trace_of es) (length es)) (k : ℕ) (inside : k < length es)
    (locked : locked? (trace_of es k) ≡ true) where
  -- the trace, and the longer one
  abbrev part : ℕ → Event
  part = trace_of es

  abbrev whole : ℕ → Event
  whole = trace_of (replaced k es)

  abbrev via : Embedding everything everything part whole
  via = embedding es accepted k inside locked

  -- ---- the other events

  same_event : (e : ℕ) → e ≢ k → SameEvent via (spread 0 k e) e
  same_event e differs =
      let is = there es accepted k inside locked 0 e differs in
      record {
        as_store = spread_alike 1 0 k e differs;
        as_load = refl;
        as_commit = spread_alike 2 0 k e differs;
        kind_same = sym is.kind_same;
        thread_same = λ has. sym is.thread_same;
        thread_own = λ has. refl;
        location_same = λ has. sym is.location_same;
        location_own = λ has. refl;
        begin_still_fits = λ begin. rw (is.version_same, is.threads_same, is.locations_same);
      }

  -- the begin is one of them
  begin_there : Renumbered (as_store k) (part 0) (whole 0)
  begin_there =
      let before = later es accepted k inside locked in
      rw (spread_low 0 k 0 before) at (there es accepted k inside locked 0 0 (λ is. omega arith))

  same_begin : SameBegin everything everything part whole
  same_begin = record {
    version_same = sym begin_there.version_same;
    thread_still_fits = λ t own. rw begin_there.threads_same;
    location_fits = λ x own. rw begin_there.locations_same;
  }

  other_passes : (e : ℕ) → e ≢ k → e < length es → spread 0 k e ≤ 2048 → refusal whole (spread 0 k e) ≡ 0
  other_passes e differs below bounded =
      refusal_same via (apart es accepted k inside locked) same_begin (spread 0 k e) e (same_event e differs) bounded
      ∙ accepted.passes e below

  -- ---- the three

  abbrev as_three : Three whole (k + 0) (k + 1) (k + 2) (thread part k) (location part k) (as_store k (source part k))
  as_three = three es accepted k inside locked

  is_12 : kind part k ≡ 12
  is_12 = of_kind es accepted k inside locked

  thread_still_fits : leb (threads whole) (thread part k) ≡ false
  unfolding row_of
  thread_still_fits =
      rw (← begin_there.threads_same)
      (lt-leb (threads part) (thread part k) (thread_below part (length es) accepted k inside (rw is_12 refl)))

  location_fits : leb (locations whole) (location part k) ≡ false
  unfolding row_of
  location_fits =
      rw (← begin_there.locations_same)
      (lt-leb (locations part) (location part k) (location_below part (length es) accepted k inside (rw is_12 refl)))

  source_fits_lem : source_fits whole (k + 0) ≡ true
  source_fits_lem =
      let loads : load? part k ≡ true = rw is_12 in
      (rw (spread_here 0 k) at (source_fits_at via (apart es accepted k inside locked) k loads))
      ∙ fitting part (length es) accepted k inside (record { test = loads })

  module _ (room : length es + 2 ≤ 2049) where
    load_passes : refusal whole (k + 0) ≡ 0
    unfolding rules row_of answer
    load_passes =
        let first = later es accepted k inside locked in
        rw (
          source_fits_lem,
          ap (λ x. (fields_of x).thread) as_three.loads,
          ap (λ x. (fields_of x).location) as_three.loads,
          as_three.loads,
          ne_eqb (k + 0) 0 (λ is_0. omega arith),
          lt-ltb 0 (k + 0) (omega arith),
          le-ltb 2048 (k + 0) (omega arith),
          thread_still_fits,
          location_fits,
        )

    store_passes : refusal whole (k + 1) ≡ 0
    unfolding rules row_of answer
    store_passes =
        rw (
          ap (λ x. (fields_of x).thread) as_three.stores,
          ap (λ x. (fields_of x).location) as_three.stores,
          as_three.stores,
          ne_eqb (k + 1) 0 (λ is_0. omega arith),
          lt-ltb 0 (k + 1) (omega arith),
          le-ltb 2048 (k + 1) (omega arith),
          thread_still_fits,
          location_fits,
        )

    -- at the commit the store waits
    store_queued : queued whole (k + 2) ≡ true
    store_queued =
        rw (
          commit_stretch,
          ap (λ x. (fields_of x).thread) as_three.commits,
          issues_kept via (k + 2) (stretch part k) (thread part k) refl,
          commits_kept via (k + 2) (stretch part k) (thread part k) refl,
          stores_there,
          commits_there,
          ne_eqb _ _ more_issues,
        )
      where
        stores_there : kept_at 1 k (k + 2) ≡ suc k
        stores_there = omega (arith, kept_high 1 k (k + 2) (omega arith))

        commits_there : kept_at 2 k (k + 2) ≡ k
        commits_there = omega (arith, kept_low 2 k (k + 2) (omega arith))

        commit_stretch : stretch whole (k + 2) ≡ stretch part k
        commit_stretch = stretch_commits via (k + 2) ∙ rw commits_there

        more_issues :
            issues part (suc k) (stretch part k) (thread part k) ≢ commits part k (stretch part k) (thread part k)
        more_issues same =
            omega (
              arith,
              count_it part (issue? part) k (stretch part k) (thread part k) (rw is_12) refl refl,
              commits_below_issues part (length es) accepted k (stretch part k) (thread part k) (omega arith),
            )

    commit_passes : refusal whole (k + 2) ≡ 0
    unfolding rules row_of answer
    commit_passes =
        rw (
          store_queued,
          ap (λ x. (fields_of x).thread) as_three.commits,
          as_three.commits,
          ne_eqb (k + 2) 0 (λ is_0. omega arith),
          lt-ltb 0 (k + 2) (omega arith),
          le-ltb 2048 (k + 2) (omega arith),
          thread_still_fits,
        )

    -- ---- the longer trace

    passes : {n : ℕ} → Place k n → n < length es + 2 → refusal whole n ≡ 0
    passes (other e differs) below =
        other_passes e differs (spread_below k e (length es) inside differs below) (omega arith)
    passes at_load below = load_passes
    passes at_store below = store_passes
    passes at_commit below = commit_passes

    -- THE LONGER TRACE IS ACCEPTED
    pub replaced_accepted : Accepted (trace_of (replaced k es)) (length (replaced k es))
    replaced_accepted =
        rw (length_replaced es k inside) (record { passes = λ n. passes (place k n) })

    -- ---- two-byte fields

    -- the fields are those of the shorter trace, but for the sources, and those of an accepted trace are below 2,049
    pub replaced_two_byte : AllTwoByte es → AllTwoByte (replaced k es)
    replaced_two_byte small = record { two_byte = λ n. by_place (place k n) }
      where
        source_there : (n : ℕ) → n < length (replaced k es) → source whole n < 65536
        source_there = source_two_byte (replaced k es) replaced_accepted

        by_place : {n : ℕ} → Place k n → n < length (replaced k es) → TwoByte (fields_of (whole n))
        by_place (other e differs) below =
            let below_2 : spread 0 k e < length es + 2 = rw (length_replaced es k inside) at below in
            moved_two_byte (there es accepted k inside locked 0 e differs) (source_there _ below)
            (small.two_byte e (spread_below k e (length es) inside differs below_2))
        by_place at_load below =
            let (t, (x, rest)) = (small.two_byte k inside).small in
            rw as_three.loads
            (fields_two_byte t x (rw (ap (λ y. (fields_of y).source) as_three.loads) at (source_there _ below)))
        by_place at_store below =
            let (t, (x, rest)) = (small.two_byte k inside).small in
            rw as_three.stores (fields_two_byte t x (omega arith))
        by_place at_commit below =
            let (t, rest) = (small.two_byte k inside).small in
            rw as_three.commits (fields_two_byte t (omega arith) (omega arith))
