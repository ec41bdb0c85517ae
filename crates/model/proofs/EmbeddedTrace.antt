-- A part of a trace and the whole (specs/Embedding.antt): the stretches are the same, and so are, for the part's
-- threads, counts, places and switches, since a gap that plays a role is of another thread.
-- In order: stretches; events of a role, a thread and a stretch, which are counted and searched for; counts and places;
-- switches. A lemma _kept speaks of the first n events of the whole; a lemma _at, or one that is named after a role, of
-- an event of the part, at its number in the whole.
use Prim.Native.Nat.{ℕ, zero, suc, ◌+◌}
use native.Mathlib.Omega.{arith}
use mathlib.Core.Path.{◌≡◌, refl, sym, ◌∙◌}
use mathlib.Core.Bool.{Bool, true, false, ◌&&◌, and-true}
use mathlib.Core.Logic.{◌⊎◌, inl, inr}
use lib.Dec.{eqb}
use Rattle.record.specs.declared.events.Event.{Event}
use Rattle.model.specs.Search.{bit, last}
use Rattle.model.specs.Trace.{thread, issue?, commit?, load?, crash?, stretch, count, issues, commits, place}
use Rattle.model.specs.Machine.{commits_before, switched, skipping, opened}
use Rattle.model.specs.Embedding.{Numbering, Naming, Role, Near, Embedding}
use Rattle.model.proofs.Searching.{third_fails, test}
use Rattle.model.proofs.Counting.{stretch_else}
use Rattle.model.proofs.Numberings.{into_eqb, not_own, Carried, kept_same, last_kept}

-- what is equal where a test passes and where it fails
pub by_role : {A : Type 0} {x y : A} (r : Bool) → (r ≡ true → x ≡ y) → (r ≡ false → x ≡ y) → x ≡ y
by_role true passes fails = passes refl
by_role false passes fails = fails refl

near_stretch : (ev : ℕ → Event) (m n : ℕ) → Near ev m n → stretch ev m ≡ stretch ev n
near_stretch ev m n (inl same) = rw same
near_stretch ev m n (inr (one_more, no_crash)) = rw one_more (stretch_else ev n no_crash)

module _
    {threads_by locations_by : Naming} {part whole : ℕ → Event} (via : Embedding threads_by locations_by part whole) where
  -- ---- stretches

  crash_kept : (n : ℕ) → via.stores.gap? n ≡ false → crash? whole n ≡ crash? part (via.stores.kept n)
  crash_kept n event = rw (via.stores.number_kept n event) at (via.crash_same (via.stores.kept n))

  pub stretch_kept : (n : ℕ) → stretch whole n ≡ stretch part (via.stores.kept n)
  unfolding stretch
  stretch_kept zero = rw via.stores.kept_none
  stretch_kept (suc n) = by_gap (test (via.stores.gap? n)) (stretch_kept n)
    where
      by_gap :
          (via.stores.gap? n ≡ true) ⊎ (via.stores.gap? n ≡ false)
          → stretch whole n ≡ stretch part (via.stores.kept n)
          → stretch whole n + bit (crash? whole n) ≡ stretch part (via.stores.kept (suc n))
      by_gap (inl gap) earlier = rw (via.stores.kept_gap n gap, via.crash_stays n gap) (omega arith)
      by_gap (inr event) earlier = rw (via.stores.kept_event n event, crash_kept n event, earlier)

  pub stretch_store : (e : ℕ) → stretch whole (via.stores.number e) ≡ stretch part e
  stretch_store e = stretch_kept (via.stores.number e) ∙ rw (via.stores.kept_number e)

  -- and for loads and commits
  pub stretch_loads : (n : ℕ) → stretch whole n ≡ stretch part (via.loads.kept n)
  stretch_loads n = stretch_kept n ∙ sym (near_stretch part _ _ (via.store_near n))

  pub stretch_load : (e : ℕ) → stretch whole (via.loads.number e) ≡ stretch part e
  stretch_load e = stretch_loads (via.loads.number e) ∙ rw (via.loads.kept_number e)

  pub stretch_commits : (n : ℕ) → stretch whole n ≡ stretch part (via.commits.kept n)
  stretch_commits n = stretch_loads n ∙ near_stretch part _ _ (via.commit_near n)

  pub stretch_commit : (e : ℕ) → stretch whole (via.commits.number e) ≡ stretch part e
  stretch_commit e = stretch_commits (via.commits.number e) ∙ rw (via.commits.kept_number e)

  -- ---- events of a role and a thread

  -- of thread u in the whole, t in the part
  module _
      {plays? : (ℕ → Event) → ℕ → Bool} {by : Numbering} (role : Role plays? by threads_by part whole)
      {u t : ℕ} (same_thread : u ≡ threads_by.into t) (own : threads_by.own? (threads_by.into t) ≡ true) where
    foreign_thread : (n : ℕ) → by.gap? n ≡ true → plays? whole n ≡ true → eqb (thread whole n) u ≡ false
    foreign_thread n gap plays = not_own threads_by _ u (role.foreign n gap plays) (rw same_thread own)

    carried_thread : (e : ℕ) → plays? part e ≡ true → eqb (thread whole (by.number e)) u ≡ eqb (thread part e) t
    carried_thread e plays = rw (role.thread_same e plays, same_thread) (into_eqb threads_by (thread part e) t)

    pub of_thread_lem :
        Carried by (λ n. plays? whole n && eqb (thread whole n) u) (λ e. plays? part e && eqb (thread part e) t)
    of_thread_lem = record {
      gap_fails = λ n gap.
          by_role (plays? whole n) (λ plays. rw (plays, foreign_thread n gap plays)) (λ other. rw other);
      event_same = λ e.
          by_role (plays? part e) (λ plays. rw (role.same e, carried_thread e plays))
          (λ other. rw (role.same e, other));
    }

    -- and of a stretch: k in the whole, j in the part
    module _
        (in_stretch : (e : ℕ) → stretch whole (by.number e) ≡ stretch part e) {k j : ℕ} (same_stretch : k ≡ j) where
      abbrev there : ℕ → Bool
      there n = plays? whole n && eqb (stretch whole n) k && eqb (thread whole n) u

      abbrev here : ℕ → Bool
      here e = plays? part e && eqb (stretch part e) j && eqb (thread part e) t

      of_stretch : Carried by there here
      of_stretch = record {
        gap_fails = λ n gap. third_fails _ _ _ (foreign_thread n gap);
        event_same = λ e.
            by_role (plays? part e)
            (λ plays. rw (role.same e, in_stretch e, same_stretch, carried_thread e plays))
            (λ other. rw (role.same e, other));
      }

      -- a search by a test that asks for such an event, and for more
      pub search_kept :
          (f g : Bool → ℕ → Bool) → ((n : ℕ) → f false n ≡ false) → ((e : ℕ) → g false e ≡ false)
          → ((b : Bool) (e : ℕ) → plays? part e ≡ true → f b (by.number e) ≡ g b e)
          → (N n : ℕ) → by.kept N ≡ n → last N (λ m. f (there m) m) ≡ by.number (last n (λ e. g (here e) e))
      search_kept f g f_asks g_asks more_same N n at_n = rw at_n at (last_kept by carried N)
        where
          carried : Carried by (λ m. f (there m) m) (λ e. g (here e) e)
          carried = record {
            gap_fails = λ m gap. rw (of_stretch.gap_fails m gap) (f_asks m);
            event_same = λ e.
                rw (of_stretch.event_same e)
                (by_role (plays? part e) (more_same (here e) e) (λ other. rw other (f_asks _ ∙ sym (g_asks e))));
          }

      count_kept : (n : ℕ) → count whole (plays? whole) n k u ≡ count part (plays? part) (by.kept n) j t
      unfolding count
      count_kept zero = rw by.kept_none
      count_kept (suc n) = by_gap (test (by.gap? n)) (count_kept n)
        where
          by_gap :
              (by.gap? n ≡ true) ⊎ (by.gap? n ≡ false)
              → count whole (plays? whole) n k u ≡ count part (plays? part) (by.kept n) j t
              → count whole (plays? whole) n k u + bit (there n) ≡ count part (plays? part) (by.kept (suc n)) j t
          by_gap (inl gap) earlier = rw (by.kept_gap n gap, of_stretch.gap_fails n gap) (omega arith)
          by_gap (inr event) earlier = rw (by.kept_event n event, kept_same by of_stretch n event, earlier)

  -- ---- counts and places

  pub issues_kept :
      (n j t : ℕ) → threads_by.own? (threads_by.into t) ≡ true
      → issues whole n j (threads_by.into t) ≡ issues part (via.stores.kept n) j t
  issues_kept n j t own = count_kept via.issuing refl own stretch_store refl n

  pub commits_kept :
      (n j t : ℕ) → threads_by.own? (threads_by.into t) ≡ true
      → commits whole n j (threads_by.into t) ≡ commits part (via.commits.kept n) j t
  commits_kept n j t own = count_kept via.committing refl own stretch_commit refl n

  -- event n of the whole is of the thread and the stretch of event e of the part
  module _
      (n e : ℕ) (same_thread : thread whole n ≡ threads_by.into (thread part e))
      (own : threads_by.own? (threads_by.into (thread part e)) ≡ true)
      (same_stretch : stretch whole n ≡ stretch part e) where
    pub issues_at :
        via.stores.kept n ≡ e
        → issues whole n (stretch whole n) (thread whole n) ≡ issues part e (stretch part e) (thread part e)
    issues_at at_e = count_kept via.issuing same_thread own stretch_store same_stretch n ∙ rw at_e

    pub commits_before_at : via.commits.kept n ≡ e → commits_before whole n ≡ commits_before part e
    commits_before_at at_e = count_kept via.committing same_thread own stretch_commit same_stretch n ∙ rw at_e

  pub place_at : (p : ℕ) → issue? part p ≡ true → place whole (via.stores.number p) ≡ place part p
  place_at p store =
      issues_at (via.stores.number p) p (via.issuing.thread_same p store) (via.issuing.thread_own p store)
      (stretch_store p) (via.stores.kept_number p)

  pub commits_before_commit :
      (e : ℕ) → commit? part e ≡ true → commits_before whole (via.commits.number e) ≡ commits_before part e
  commits_before_commit e commits =
      commits_before_at (via.commits.number e) e (via.committing.thread_same e commits)
      (via.committing.thread_own e commits) (stretch_commit e) (via.commits.kept_number e)

  pub commits_before_load :
      (l : ℕ) → load? part l ≡ true → commits_before whole (via.loads.number l) ≡ commits_before part l
  commits_before_load l loads =
      commits_before_at (via.loads.number l) l (via.loading.thread_same l loads) (via.loading.thread_own l loads)
      (stretch_load l) (via.commits_at_load l)

  -- ---- crashes, by the numbers of stores and of loads

  record Crashing (by : Numbering) : Type 0 where
    pub there : (n : ℕ) → by.gap? n ≡ false → crash? whole n ≡ crash? part (by.kept n)
    pub gap_none : (n : ℕ) → by.gap? n ≡ true → crash? whole n ≡ false

  store_crashes : Crashing via.stores
  store_crashes = record { there = crash_kept; gap_none = via.crash_stays }

  -- an event that has loaded, but not yet stored, is no crash: no crash is divided
  load_crashes : Crashing via.loads
  load_crashes = record {
    there = λ n event. here n event (test (via.stores.gap? n)) (via.store_near n) (via.store_near (suc n));
    gap_none = λ n gap. none n gap (test (via.stores.gap? n)) (via.store_near n) (via.store_near (suc n));
  }
    where
      here :
          (n : ℕ) → via.loads.gap? n ≡ false → (via.stores.gap? n ≡ true) ⊎ (via.stores.gap? n ≡ false)
          → Near part (via.loads.kept n) (via.stores.kept n)
          → Near part (via.loads.kept (suc n)) (via.stores.kept (suc n))
          → crash? whole n ≡ crash? part (via.loads.kept n)
      here n event (inr stored) (inl same) next = rw same (crash_kept n stored)
      here n event (inr stored) (inr (one_more, none)) (inl same) =
          absurd (omega (arith, via.loads.kept_event n event, via.stores.kept_event n stored))
      here n event (inr stored) (inr (one_more, none)) (inr (again, none_again)) =
          crash_kept n stored ∙ none ∙ sym (rw (via.stores.kept_event n stored, ← one_more) at none_again)
      here n event (inl gap) (inl same) (inl next_same) =
          absurd (omega (arith, via.loads.kept_event n event, via.stores.kept_gap n gap))
      here n event (inl gap) (inl same) (inr (one_more, none)) =
          via.crash_stays n gap ∙ sym (rw (via.stores.kept_gap n gap, ← same) at none)
      here n event (inl gap) (inr (one_more, none)) next =
          absurd (by_next next)
        where
          by_next : Near part (via.loads.kept (suc n)) (via.stores.kept (suc n)) → ⊥
          by_next (inl same) = omega (arith, via.loads.kept_event n event, via.stores.kept_gap n gap)
          by_next (inr (again, none_again)) =
              omega (arith, via.loads.kept_event n event, via.stores.kept_gap n gap)

      none :
          (n : ℕ) → via.loads.gap? n ≡ true → (via.stores.gap? n ≡ true) ⊎ (via.stores.gap? n ≡ false)
          → Near part (via.loads.kept n) (via.stores.kept n)
          → Near part (via.loads.kept (suc n)) (via.stores.kept (suc n)) → crash? whole n ≡ false
      none n gap (inl stores_gap) near next = via.crash_stays n stores_gap
      none n gap (inr stored) (inr (one_more, no_crash)) next = crash_kept n stored ∙ no_crash
      none n gap (inr stored) (inl same) next = absurd (by_next next)
        where
          by_next : Near part (via.loads.kept (suc n)) (via.stores.kept (suc n)) → ⊥
          by_next (inl next_same) = omega (arith, via.loads.kept_gap n gap, via.stores.kept_event n stored)
          by_next (inr (again, none_again)) =
              omega (arith, via.loads.kept_gap n gap, via.stores.kept_event n stored)

  -- ---- switches

  module _
      {by : Numbering} (crashes : Crashing by) {on? off? : (ℕ → Event) → ℕ → Bool}
      (on : Role on? by threads_by part whole) (off : Role off? by threads_by part whole) where
    switched_kept :
        (n t : ℕ) → threads_by.own? (threads_by.into t) ≡ true
        → switched whole (on? whole) (off? whole) n (threads_by.into t)
        ≡ switched part (on? part) (off? part) (by.kept n) t
    unfolding switched
    switched_kept zero t own = rw by.kept_none
    switched_kept (suc n) t own = by_gap (test (by.gap? n)) (switched_kept n t own)
      where
        by_gap :
            (by.gap? n ≡ true) ⊎ (by.gap? n ≡ false)
            → switched whole (on? whole) (off? whole) n (threads_by.into t)
            ≡ switched part (on? part) (off? part) (by.kept n) t
            → switched whole (on? whole) (off? whole) (suc n) (threads_by.into t)
            ≡ switched part (on? part) (off? part) (by.kept (suc n)) t
        by_gap (inl gap) earlier =
            rw (
              by.kept_gap n gap,
              crashes.gap_none n gap,
              (of_thread_lem on {t = t} refl own).gap_fails n gap,
              (of_thread_lem off {t = t} refl own).gap_fails n gap,
            ) (and-true _ ∙ earlier)
        by_gap (inr event) earlier =
            rw (
              by.kept_event n event,
              kept_same by (of_thread_lem on {t = t} refl own) n event,
              kept_same by (of_thread_lem off {t = t} refl own) n event,
              crashes.there n event,
              earlier,
            )

  pub skipping_kept :
      (n t : ℕ) → threads_by.own? (threads_by.into t) ≡ true
      → skipping whole n (threads_by.into t) ≡ skipping part (via.stores.kept n) t
  skipping_kept = switched_kept store_crashes via.skip_on via.skip_off

  pub opened_kept :
      (n t : ℕ) → threads_by.own? (threads_by.into t) ≡ true
      → opened whole n (threads_by.into t) ≡ opened part (via.loads.kept n) t
  opened_kept = switched_kept load_crashes via.opening via.closing
