-- The machine of specs/Machine.antt, for a part of a trace and the whole (specs/Embedding.antt): each search looks for
-- stores or commits of the part's threads, or at its locations, and so finds the same event. Searches by thread need
-- the embedding alone, searches by location also that locations stay apart.
-- In order: stores and commits that are searched for by thread; by location; the load rule; which loads count.
use Prim.Native.Nat.{ℕ, zero, suc}
use mathlib.Core.Path.{◌≡◌, refl, sym, ◌∙◌}
use mathlib.Core.Bool.{Bool, true, false, cond, ◌&&◌, not}
use mathlib.Core.List.{List, [], ◌∷◌, map}
use mathlib.Core.Logic.{◌⊎◌, inl, inr, ◌≢◌}
use lib.Dec.{eqb, leb}
use Rattle.record.specs.declared.events.Event.{Event}
use Rattle.model.specs.Search.{any, member, last}
use Rattle.model.specs.Trace.{thread, location, source, issue?, commit?, load?, close?, stretch, commits, place}
use Rattle.model.specs.Machine.{commits_before, committed, commit_of, waiting, commits_here, current, past}
use Rattle.model.specs.Machine.{source_fits, skipping, opened, countable, held, confirms?, counting, counts}
use Rattle.model.specs.Choice.{Counted}
use Rattle.model.specs.Embedding.{Naming, Role, Embedding, Apart}
use Rattle.model.proofs.Searching.{third_fails, same?, test, false_true, parts, last_is}
use Rattle.model.proofs.StorePlaces.{fails}
use Rattle.model.proofs.LoadRule.{committed_zero}
use Rattle.model.proofs.Acceptance.{countable_crosses}
use Rattle.model.proofs.Holding.{Held, held_closed}
use Rattle.model.proofs.CountedLoads.{CountsBy, itself, at_close, counts_by}
use Rattle.model.proofs.Numberings.{into_eqb, not_own, number_zero, kept_lt, number_below, number_eqb}
use Rattle.model.proofs.Numberings.{number_eqb_zero, Carried, kept_same, last_kept}
use Rattle.model.proofs.EmbeddedTrace.{by_role, stretch_store, stretch_load, stretch_commit, search_kept}
use Rattle.model.proofs.EmbeddedTrace.{commits_kept, place_at, commits_before_commit, commits_before_load}
use Rattle.model.proofs.EmbeddedTrace.{of_thread_lem, skipping_kept, opened_kept}

module _
    {threads_by locations_by : Naming} {part whole : ℕ → Event} (via : Embedding threads_by locations_by part whole) where
  -- ---- by thread

  pub committed_at_lem :
      (e : ℕ) → commit? part e ≡ true
      → committed whole (via.commits.number e) ≡ via.stores.number (committed part e)
  unfolding committed
  committed_at_lem e commits =
      let here = via.commits.number e in
      search_kept via via.issuing (via.committing.thread_same e commits) (via.committing.thread_own e commits)
      (stretch_store via) (stretch_commit via e) (λ b p. b && eqb (place whole p) (commits_before whole here))
      (λ b p. b && eqb (place part p) (commits_before part e)) (λ p. refl) (λ p. refl)
      (λ b p store. rw (place_at via p store, commits_before_commit via e commits)) (suc here) (suc e)
      (via.stores_at_commit e)

  -- the commit of a store, among those before a load
  pub commit_of_at :
      (l p : ℕ) → issue? part p ≡ true
      → commit_of whole (via.loads.number l) (via.stores.number p) ≡ via.commits.number (commit_of part l p)
  unfolding commit_of
  commit_of_at l p store =
      search_kept via via.committing (via.issuing.thread_same p store) (via.issuing.thread_own p store)
      (stretch_commit via) (stretch_store via p)
      (λ b c. b && eqb (commits_before whole c) (place whole (via.stores.number p)))
      (λ b c. b && eqb (commits_before part c) (place part p)) (λ c. refl) (λ c. refl)
      (λ b c commits. rw (place_at via p store, commits_before_commit via c commits)) (via.loads.number l) l
      (via.commits_at_load l)

  waiting_at :
      (l : ℕ) → load? part l ≡ true → waiting whole (via.loads.number l) ≡ via.stores.number (waiting part l)
  unfolding waiting
  waiting_at l loads =
      search_kept via via.issuing (via.loading.thread_same l loads) (via.loading.thread_own l loads)
      (stretch_store via) (stretch_load via l)
      (λ b p. b && eqb (location whole p) (location whole here) && leb (commits_before whole here) (place whole p))
      (λ b p. b && eqb (location part p) (location part l) && leb (commits_before part l) (place part p))
      (λ p. refl) (λ p. refl) more_same here l (via.stores_at_load l)
    where
      here : ℕ
      here = via.loads.number l

      more_same :
          (b : Bool) (p : ℕ) → issue? part p ≡ true
          → (b && eqb (location whole (via.stores.number p)) (location whole here)
          && leb (commits_before whole here) (place whole (via.stores.number p)))
          ≡ (b && eqb (location part p) (location part l) && leb (commits_before part l) (place part p))
      more_same b p store =
          rw (
            place_at via p store,
            commits_before_load via l loads,
            via.store_location p store,
            via.load_location l loads,
            into_eqb locations_by (location part p) (location part l),
          )

module _
    {threads_by locations_by : Naming} {part whole : ℕ → Event} (via : Embedding threads_by locations_by part whole)
    (apart : Apart via) where
  -- ---- by location

  module _ (l : ℕ) (loads : load? part l ≡ true) where
    -- the event of the whole that loads as event l of the part does
    abbrev here : ℕ
    here = via.loads.number l

    last_commit_at : last here (commits_here whole here) ≡ via.commits.number (last l (commits_here part l))
    last_commit_at = rw (via.commits_at_load l) at (last_kept via.commits carried here)
      where
        no_commit : (c : ℕ) → via.commits.gap? c ≡ true → commits_here whole here c ≡ false
        no_commit c gap =
            rw (via.load_location l loads)
            (third_fails _ _ _
            (λ commits. not_own locations_by _ _ (apart.commit_apart c gap commits) (via.location_own l loads)))

        same_commit : (c : ℕ) → commits_here whole here (via.commits.number c) ≡ commits_here part l c
        same_commit c =
            by_role (commit? part c)
            (λ commits.
            rw (
              committed_at_lem via c commits,
              via.store_location (committed part c) (apart.finds.commit_finds c commits),
              via.load_location l loads,
              into_eqb locations_by (location part (committed part c)) (location part l),
              via.committing.same c,
              stretch_commit via c,
              stretch_load via l,
            ))
            (λ other. rw (via.committing.same c, other))

        carried : Carried via.commits (commits_here whole here) (commits_here part l)
        carried = record { gap_fails = no_commit; event_same = same_commit }

    current_at : current whole here ≡ via.stores.number (current part l)
    unfolding current
    current_at = rw last_commit_at (by_found (same? found 0))
      where
        found : ℕ
        found = last l (commits_here part l)

        by_found :
            (found ≡ 0) ⊎ (found ≢ 0)
            → committed whole (via.commits.number found) ≡ via.stores.number (committed part found)
        by_found (inl none) =
            rw (none, number_zero via.commits, committed_zero whole, committed_zero part)
            (sym (number_zero via.stores))
        by_found (inr some) =
            let passes = (last_is l (commits_here part l) some).1 in
            let in_stretch = (parts (commit? part found && eqb (stretch part found) (stretch part l)) _ passes).0 in
            committed_at_lem via found (parts (commit? part found) _ in_stretch).0

    past_at : (s : ℕ) → past whole here (via.stores.number s) ≡ past part l s
    past_at s =
        by_role (issue? part s)
        (λ store.
        rw (
          place_at via s store,
          via.issuing.same s,
          via.store_location s store,
          via.load_location l loads,
          into_eqb locations_by (location part s) (location part l),
          via.issuing.thread_same s store,
          stretch_store via s,
          stretch_load via l,
          commits_kept via here (stretch part s) (thread part s) (via.issuing.thread_own s store),
          via.commits_at_load l,
        ))
        (λ other. rw (via.issuing.same s, other))

    -- ---- the load rule

    pub source_fits_at : source_fits whole here ≡ source_fits part l
    unfolding source_fits
    source_fits_at =
        let s = source part l in
        rw (
          waiting_at via l loads,
          current_at,
          via.source_same l loads,
          number_eqb_zero via.stores (waiting part l),
          number_eqb_zero via.stores (current part l),
          number_eqb_zero via.stores s,
          number_eqb via.stores s (waiting part l),
          number_eqb via.stores s (current part l),
          past_at s,
        )

    -- ---- which loads count

    skipping_load : skipping whole here (thread whole here) ≡ skipping part l (thread part l)
    skipping_load =
        rw (via.loading.thread_same l loads)
        (skipping_kept via here (thread part l) (via.loading.thread_own l loads) ∙ rw (via.stores_at_load l))

    countable_same : countable whole here ≡ countable part l
    unfolding countable
    countable_same =
        rw (
          waiting_at via l loads,
          current_at,
          via.loading.same l,
          number_eqb_zero via.stores (waiting part l),
          number_eqb_zero via.stores (current part l),
          skipping_load,
        )

  -- a load that may count is one role more
  counting_role : Role countable via.loads threads_by part whole
  unfolding countable
  counting_role = record {
    same = λ e. by_role (load? part e) (countable_same e) (λ other. rw (via.loading.same e, other));
    thread_same = λ e it. via.loading.thread_same e (loads_part e it);
    thread_own = λ e it. via.loading.thread_own e (loads_part e it);
    foreign = λ n gap it. via.loading.foreign n gap (countable_crosses whole n it).loads.test;
  }
    where
      loads_part : (e : ℕ) → countable part e ≡ true → load? part e ≡ true
      loads_part e it = (countable_crosses part e it).loads.test

  -- a thread holds the same loads in both
  held_kept :
      (n t : ℕ) → threads_by.own? (threads_by.into t) ≡ true
      → held whole n (threads_by.into t) ≡ map via.loads.number (held part (via.loads.kept n) t)
  unfolding held
  held_kept zero t own = rw via.loads.kept_none
  held_kept (suc n) t own = by_gap (test (via.loads.gap? n)) (held_kept n t own)
    where
      number : ℕ → ℕ
      number = via.loads.number

      e : ℕ
      e = via.loads.kept n

      loads_of_t :
          Carried via.loads (λ n. countable whole n && eqb (thread whole n) (threads_by.into t))
          (λ e. countable part e && eqb (thread part e) t)
      loads_of_t = of_thread_lem via counting_role {t = t} refl own

      none_more :
          (o : Bool) → opened part e t ≡ o
          → cond o (map number (held part e t)) [] ≡ map number (held part e t)
      none_more true is = refl
      none_more false is = rw (held_closed part e t is)

      one_more :
          (o c : Bool) (hs : List ℕ) → number e ≡ n
          → cond o (cond c (n ∷ map number hs) (map number hs)) [] ≡ map number (cond o (cond c (e ∷ hs) hs) [])
      one_more false c hs is = refl
      one_more true false hs is = refl
      one_more true true hs is = rw is

      by_gap :
          (via.loads.gap? n ≡ true) ⊎ (via.loads.gap? n ≡ false)
          → held whole n (threads_by.into t) ≡ map number (held part e t)
          → held whole (suc n) (threads_by.into t) ≡ map number (held part (via.loads.kept (suc n)) t)
      by_gap (inl gap) earlier =
          rw (
            opened_kept via (suc n) t own,
            via.loads.kept_gap n gap,
            loads_of_t.gap_fails n gap,
            earlier,
          ) (none_more (opened part e t) refl)
      by_gap (inr event) earlier =
          rw (
            opened_kept via (suc n) t own,
            via.loads.kept_event n event,
            kept_same via.loads loads_of_t n event,
            earlier,
          )
          (one_more (opened part (suc e) t) (countable part e && eqb (thread part e) t) (held part e t)
          (via.loads.number_kept n event))

  -- as of an event count, in the whole, the loads that count as of it in the part
  counting_at : (e : ℕ) → counting whole (via.loads.number e) ≡ map via.loads.number (counting part e)
  unfolding counting
  counting_at e = rw (confirms_at, once_at) (by_tests (confirms? part e) refl (once part e))
    where
      n : ℕ
      n = via.loads.number e

      once : (ℕ → Event) → ℕ → Bool
      once ev n = countable ev n && not (opened ev n (thread ev n))

      confirms_at : confirms? whole n ≡ confirms? part e
      confirms_at =
          by_role (close? part e) (λ close. rw (via.outcome_same e close, via.closing.same e))
          (λ other. rw (via.closing.same e, other))

      once_at : once whole n ≡ once part e
      once_at =
          by_role (countable part e)
          (λ it.
          rw (
            counting_role.same e,
            counting_role.thread_same e it,
            opened_kept via n (thread part e) (counting_role.thread_own e it),
            via.loads.kept_number e,
          ))
          (λ other. rw (counting_role.same e, other))

      all_held_lem :
          close? part e ≡ true
          → held whole n (thread whole n) ≡ map via.loads.number (held part e (thread part e))
      all_held_lem close =
          rw (via.closing.thread_same e close)
          (held_kept n (thread part e) (via.closing.thread_own e close) ∙ rw (via.loads.kept_number e))

      by_tests :
          (confirms : Bool) → confirms? part e ≡ confirms → (now : Bool)
          → cond confirms (held whole n (thread whole n)) (cond now (n ∷ []) [])
          ≡ map via.loads.number (cond confirms (held part e (thread part e)) (cond now (e ∷ []) []))
      by_tests true is now = all_held_lem (parts (close? part e) _ is).0
      by_tests false is true = refl
      by_tests false is false = refl

  member_numbered : (l : ℕ) (ls : List ℕ) → member (via.loads.number l) (map via.loads.number ls) ≡ member l ls
  unfolding any
  member_numbered l [] = refl
  member_numbered l (k ∷ ks) = rw (number_eqb via.loads l k, member_numbered l ks)

  counts_at : (e l : ℕ) → counts whole (via.loads.number e) (via.loads.number l) ≡ counts part e l
  counts_at e l = rw (counting_at e) (member_numbered l (counting part e))

  pub counted_at : {N l : ℕ} → Counted part (via.loads.kept N) l → Counted whole N (via.loads.number l)
  counted_at {N} {l} it = record {
    as_of = via.loads.number it.as_of;
    inside = number_below via.loads it.as_of N it.inside;
    here = counts_at it.as_of l ∙ it.here;
  }

  pub counted_kept :
      {N l : ℕ} → via.loads.gap? l ≡ false → Counted whole N l
      → Counted part (via.loads.kept N) (via.loads.kept l)
  counted_kept {N} {l} load it =
      let event = by_case (counts_by whole it.as_of l it.here) in
      record {
        as_of = via.loads.kept it.as_of;
        inside = kept_lt via.loads it.as_of N event it.inside;
        here =
            sym (counts_at (via.loads.kept it.as_of) (via.loads.kept l))
            ∙ rw (via.loads.number_kept it.as_of event, via.loads.number_kept l load) it.here;
      }
    where
      -- a gap that closes is of a thread that is not the part's, and so is what it held
      own_thread :
          Held whole it.as_of (thread whole it.as_of) l → threads_by.own? (thread whole it.as_of) ≡ true
      own_thread held_there =
          let k = via.loads.kept l in
          let is_l : via.loads.number k ≡ l = via.loads.number_kept l load in
          let plays : countable part k ≡ true =
          sym (counting_role.same k) ∙ rw is_l held_there.is_countable
          in
          let thread_is : thread whole l ≡ threads_by.into (thread part k) =
          rw is_l at (counting_role.thread_same k plays)
          in
          rw (← held_there.by_t, thread_is) (counting_role.thread_own k plays)

      by_case : CountsBy whole it.as_of l → via.loads.gap? it.as_of ≡ false
      by_case (itself is_e counts) = rw (← is_e) load
      by_case (at_close close held_there) =
          fails _
          (λ gap. false_true (sym (via.closing.foreign it.as_of gap close) ∙ own_thread held_there))
