-- A trace as a part of a larger one. `whole` has the events of `part`, in order, with other numbers for events, threads
-- and locations. An event of the part may be several of the whole: it has a number as a store, one as a load and one as
-- a commit. What else stands in the whole, the gaps, plays no role, or plays it for threads that are not the part's.
-- A trace without its flushes is a part of that trace: one number for all roles, all threads and locations its own. A
-- trace with a locked operation is a part of that with the three records in its place: it has three numbers there.
-- In order: numbers of events; of threads and locations; the relation; what stays apart; events that are one in both;
-- two parts that cover the whole; choices.
use Rattle.std.specs.Prelude.{ℕ, suc, ◌≡◌, refl, Bool, true, false, cond, ◌⊎◌, ◌≢◌, leb}
use Rattle.record.specs.declared.events.Event.{Event}
use Rattle.model.specs.Trace.{kind, thread, location, source, outcome, has_thread?, has_location?}
use Rattle.model.specs.Trace.{version, threads, locations, open?, close?}
use Rattle.model.specs.Trace.{begin?, issue?, commit?, load?, crash?, skip_on?, skip_off?, signal?, wait?}
use Rattle.model.specs.Machine.{committed}
use Rattle.model.specs.Rules.{begin_fits}
use Rattle.model.specs.Choice.{Choice}

-- ---- numbers of events

-- which numbers of the whole are gaps, and where the numbers of the part are among the others
pub record Numbering : Type 0 where
  -- number n of the whole is a gap
  pub gap? : ℕ → Bool
  -- the number in the whole of event e of the part
  pub number : ℕ → ℕ
  -- how many of the first n numbers of the whole are no gaps
  pub kept : ℕ → ℕ
  pub kept_none : kept 0 ≡ 0
  pub kept_gap : (n : ℕ) → gap? n ≡ true → kept (suc n) ≡ kept n
  pub kept_event : (n : ℕ) → gap? n ≡ false → kept (suc n) ≡ suc (kept n)
  pub number_kept : (n : ℕ) → gap? n ≡ false → number (kept n) ≡ n
  pub kept_number : (e : ℕ) → kept (number e) ≡ e
  pub number_stays : (e : ℕ) → gap? (number e) ≡ false
  pub first_stays : gap? 0 ≡ false

-- ---- numbers of threads, and of locations

-- which numbers of the whole are the part's, and what the part calls them
pub record Naming : Type 0 where
  pub own? : ℕ → Bool
  pub into : ℕ → ℕ
  pub back : ℕ → ℕ
  pub back_into : (t : ℕ) → back (into t) ≡ t
  pub into_back : (u : ℕ) → own? u ≡ true → into (back u) ≡ u

-- all numbers are the part's, and stay
abbrev pub everything : Naming
everything = record {
  own? = λ u. true;
  into = λ t. t;
  back = λ u. u;
  back_into = λ t. refl;
  into_back = λ u own. refl;
}

-- ---- the relation

-- event n of the whole is foreign: its thread is none of the part's
abbrev pub Foreign : Naming → (ℕ → Event) → ℕ → Type 0
Foreign threads_by whole n = threads_by.own? (thread whole n) ≡ false

-- a role and its numbers: event e of the part plays it exactly if its number does in the whole, and for the same
-- thread; a gap that plays it is foreign
pub record Role
    (plays? : (ℕ → Event) → ℕ → Bool) (by : Numbering) (threads_by : Naming) (part whole : ℕ → Event) : Type 0 where
  pub same : (e : ℕ) → plays? whole (by.number e) ≡ plays? part e
  pub thread_same : (e : ℕ) → plays? part e ≡ true → thread whole (by.number e) ≡ threads_by.into (thread part e)
  pub thread_own : (e : ℕ) → plays? part e ≡ true → threads_by.own? (threads_by.into (thread part e)) ≡ true
  pub foreign : (n : ℕ) → by.gap? n ≡ true → plays? whole n ≡ true → Foreign threads_by whole n

-- m is n, or one more, past event n, which is no crash
abbrev pub Near : (ℕ → Event) → ℕ → ℕ → Type 0
Near ev m n = (m ≡ n) ⊎ ((m ≡ suc n) × (crash? ev n ≡ false))

pub record Embedding (threads_by locations_by : Naming) (part whole : ℕ → Event) : Type 0 where
  -- the numbers of events as stores; as loads, and as opens and closes, which hold and count loads; as commits
  pub stores : Numbering
  pub loads : Numbering
  pub commits : Numbering
  pub issuing : Role issue? stores threads_by part whole
  pub skip_on : Role skip_on? stores threads_by part whole
  pub skip_off : Role skip_off? stores threads_by part whole
  pub signalling : Role signal? stores threads_by part whole
  pub waiting : Role wait? stores threads_by part whole
  pub loading : Role load? loads threads_by part whole
  pub opening : Role open? loads threads_by part whole
  pub closing : Role close? loads threads_by part whole
  pub committing : Role commit? commits threads_by part whole
  pub crash_same : (e : ℕ) → crash? whole (stores.number e) ≡ crash? part e
  pub crash_stays : (n : ℕ) → stores.gap? n ≡ true → crash? whole n ≡ false
  pub store_location :
      (e : ℕ) → issue? part e ≡ true → location whole (stores.number e) ≡ locations_by.into (location part e)
  pub load_location :
      (e : ℕ) → load? part e ≡ true → location whole (loads.number e) ≡ locations_by.into (location part e)
  pub location_own : (e : ℕ) → load? part e ≡ true → locations_by.own? (locations_by.into (location part e)) ≡ true
  pub source_same : (e : ℕ) → load? part e ≡ true → source whole (loads.number e) ≡ stores.number (source part e)
  pub outcome_same : (e : ℕ) → close? part e ≡ true → outcome whole (loads.number e) ≡ outcome part e
  pub wait_source : (e : ℕ) → wait? part e ≡ true → source whole (stores.number e) ≡ stores.number (source part e)
  -- before an event loads, the stores and commits of the earlier events are there, no others; when it commits, its own
  -- store is there too
  pub stores_at_load : (e : ℕ) → stores.kept (loads.number e) ≡ e
  pub commits_at_load : (e : ℕ) → commits.kept (loads.number e) ≡ e
  pub stores_at_commit : (e : ℕ) → stores.kept (suc (commits.number e)) ≡ suc e
  -- the first n events of the whole may end inside an event of the part, which then has loaded, but not yet stored or
  -- committed; no crash is divided so
  pub store_near : (n : ℕ) → Near part (loads.kept n) (stores.kept n)
  pub commit_near : (n : ℕ) → Near part (loads.kept n) (commits.kept n)

-- ---- what stays apart

-- every commit makes a store take effect, every load's source that is not 0 is a store, and every wait's a signal: so
-- it is in an accepted trace
pub record Finds (ev : ℕ → Event) : Type 0 where
  pub commit_finds : (e : ℕ) → commit? ev e ≡ true → issue? ev (committed ev e) ≡ true
  pub source_store : (e : ℕ) → load? ev e ≡ true → source ev e ≢ 0 → issue? ev (source ev e) ≡ true
  pub wait_signal : (e : ℕ) → wait? ev e ≡ true → signal? ev (source ev e) ≡ true

module _
    {threads_by locations_by : Naming} {part whole : ℕ → Event}
    (via : Embedding threads_by locations_by part whole) where
  -- no store of a gap, and none that a gap commits, is at the part's locations
  pub record Apart : Type 0 where
    pub store_apart :
        (n : ℕ) → via.stores.gap? n ≡ true → issue? whole n ≡ true → locations_by.own? (location whole n) ≡ false
    pub commit_apart :
        (n : ℕ) → via.commits.gap? n ≡ true → commit? whole n ≡ true
        → locations_by.own? (location whole (committed whole n)) ≡ false
    pub finds : Finds part

  -- ---- events that are one in both traces

  -- event n of the whole is all of event e of the part
  pub record SameEvent (n e : ℕ) : Type 0 where
    pub as_store : via.stores.number e ≡ n
    pub as_load : via.loads.number e ≡ n
    pub as_commit : via.commits.number e ≡ n
    pub kind_same : kind whole n ≡ kind part e
    pub thread_same : has_thread? part e ≡ true → thread whole n ≡ threads_by.into (thread part e)
    pub thread_own : has_thread? part e ≡ true → threads_by.own? (threads_by.into (thread part e)) ≡ true
    pub location_same : has_location? part e ≡ true → location whole n ≡ locations_by.into (location part e)
    pub location_own : has_location? part e ≡ true → locations_by.own? (locations_by.into (location part e)) ≡ true
    pub begin_still_fits : begin? part e ≡ true → begin_fits whole n ≡ begin_fits part e

-- by the begins, the version is the same, and the same of the part's threads and locations are there
pub record SameBegin (threads_by locations_by : Naming) (part whole : ℕ → Event) : Type 0 where
  pub version_same : version whole ≡ version part
  pub thread_still_fits :
      (t : ℕ) → threads_by.own? (threads_by.into t) ≡ true
      → leb (threads whole) (threads_by.into t) ≡ leb (threads part) t
  pub location_fits :
      (x : ℕ) → locations_by.own? (locations_by.into x) ≡ true
      → leb (locations whole) (locations_by.into x) ≡ leb (locations part) x

-- ---- two parts that cover the whole

-- each store, each load and each thread is one of a part's
pub record Cover
    {left_threads left_locations right_threads right_locations : Naming} {first second whole : ℕ → Event}
    (left : Embedding left_threads left_locations first whole)
    (right : Embedding right_threads right_locations second whole) : Type 0 where
  pub each_store :
      (p : ℕ) → issue? whole p ≡ true → (left.stores.gap? p ≡ false) ⊎ (right.stores.gap? p ≡ false)
  pub each_load :
      (l : ℕ) → load? whole l ≡ true → (left.loads.gap? l ≡ false) ⊎ (right.loads.gap? l ≡ false)
  pub each_thread : (u : ℕ) → (left_threads.own? u ≡ true) ⊎ (right_threads.own? u ≡ true)

-- ---- choices

-- what a choice of the whole gives the part's threads
abbrev pub restricted : Naming → Choice → Choice
restricted threads_by c j t = cond (threads_by.own? (threads_by.into t)) (c j (threads_by.into t)) 0
