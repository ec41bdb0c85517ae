-- A locked operation replaced by its load, issue and commit (specs/Locked.antt): the trace is a part of the longer one
-- (specs/Embedding.antt), in which record k has three numbers, one for each of its roles.
-- In order: the events of the longer list; the embedding; the example of specs/Locked.antt.
use Prim.Native.Nat.{ℕ, zero, suc, ◌+◌, ◌≤◌, ◌<◌}
use native.Mathlib.Omega.{arith}
use mathlib.Core.Path.{◌≡◌, refl, sym, ◌∙◌, ap}
use mathlib.Core.Bool.{Bool, true, false, ◌||◌}
use mathlib.Core.List.{List, [], ◌∷◌, map}
use mathlib.Core.Logic.{◌⊎◌, inl, inr, ◌≢◌}
use lib.Dec.{eqb}
use lib.ListN.{length, length-map}
use borrow.Author.Tests.{eqb-true}
use Rattle.record.specs.declared.events.Event.{Event}
use Rattle.record.specs.declared.events.Event.TheVariants.{Begin, Issue, Commit, Load, Crash, Locked}
use Rattle.record.specs.Events.{kind_of}
use Rattle.record.specs.Fields.{event_of, fields_of}
use Rattle.model.specs.Trace.{trace_of, kind, thread, location, source, issue?, commit?, load?, wait?, crash?}
use Rattle.model.specs.Trace.{close?}
use Rattle.model.specs.Rules.{Accepted}
use Rattle.model.specs.Flushes.{moved}
use Rattle.model.specs.Embedding.{everything, Role, Embedding, Apart, Cover}
use Rattle.model.specs.Locked.{locked?, spread, as_store, replacing, replaced}
use Rattle.model.proofs.Searching.{same?, less?, false_true, excluded}
use Rattle.model.proofs.Acceptance.{begins}
use Rattle.model.proofs.Moving.{Renumbered, moved_is, moved_there}
use Rattle.model.proofs.AcceptedLists.{accepted_finds}
use Rattle.model.proofs.Spreading.{Gap, gap_is, spread_low, spread_here, spread_high, numbering}
use Rattle.model.proofs.Spreading.{kept_number, past_number, kept_near}

-- ---- the events of the longer list

length_replacing : (k : ℕ) (es : List Event) → k < length es → length (replacing k es) ≡ suc (suc (length es))
unfolding replacing
length_replacing k [] inside = absurd (omega arith)
length_replacing zero (e ∷ es) inside = refl
length_replacing (suc k) (e ∷ es) inside = ap suc (length_replacing k es (omega arith))

event_low :
    (k : ℕ) (es : List Event) → k < length es → (n : ℕ) → n < k → trace_of (replacing k es) n ≡ trace_of es n
unfolding replacing
event_low k [] inside n less = absurd (omega arith)
event_low zero (e ∷ es) inside n less = absurd (omega arith)
event_low (suc k) (e ∷ es) inside zero less = refl
event_low (suc k) (e ∷ es) inside (suc n) less = event_low k es (omega arith) n (omega arith)

event_high :
    (k : ℕ) (es : List Event) → k < length es
    → (n : ℕ) → k < n → trace_of (replacing k es) (suc (suc n)) ≡ trace_of es n
unfolding replacing
event_high k [] inside n more = absurd (omega arith)
event_high k (e ∷ es) inside zero more = absurd (omega arith)
event_high zero (e ∷ es) inside (suc n) more = refl
event_high (suc k) (e ∷ es) inside (suc n) more = event_high k es (omega arith) n (omega arith)

-- the load, the issue and the commit, of thread t, at location x and from source s, at three numbers
pub record Three (ev : ℕ → Event) (first second third t x s : ℕ) : Type 0 where
  pub loads : ev first ≡ Load t x s
  pub stores : ev second ≡ Issue t x
  pub commits : ev third ≡ Commit t

event_three :
    (k : ℕ) (es : List Event) → k < length es
    → Three (trace_of (replacing k es)) k (suc k) (suc (suc k)) (thread (trace_of es) k) (location (trace_of es) k)
    (source (trace_of es) k)
unfolding replacing
event_three k [] inside = absurd (omega arith)
event_three zero (e ∷ es) inside = record { loads = refl; stores = refl; commits = refl }
event_three (suc k) (e ∷ es) inside =
    let rest = event_three k es (omega arith) in
    record { loads = rest.loads; stores = rest.stores; commits = rest.commits }

module _ (es : List Event) (k : ℕ) (inside : k < length es) where
  -- the events, with their sources renumbered
  abbrev moves : List Event
  moves = map (moved (as_store k)) es

  moves_inside : k < length moves
  moves_inside = rw (length-map es (moved (as_store k))) inside

  pub length_replaced : length (replaced k es) ≡ length es + 2
  length_replaced = omega (arith, length_replacing k moves moves_inside, length-map es (moved (as_store k)))

  -- an event but for k, at whichever of its numbers
  pub other_there :
      (d e : ℕ) → e ≢ k → trace_of (replaced k es) (spread d k e) ≡ moved (as_store k) (trace_of es e)
  other_there d e differs = by_order (less? e k)
    where
      by_order : (e < k) ⊎ (k ≤ e) → trace_of (replaced k es) (spread d k e) ≡ moved (as_store k) (trace_of es e)
      by_order (inl less) =
          rw (spread_low d k e less) (event_low k moves moves_inside e less ∙ moved_there (as_store k) es e)
      by_order (inr more) =
          let behind : spread d k e ≡ suc (suc e) = omega (arith, spread_high d k e (omega arith)) in
          rw behind (event_high k moves moves_inside e (omega arith) ∙ moved_there (as_store k) es e)

  pub three_there :
      Three (trace_of (replaced k es)) (k + 0) (k + 1) (k + 2) (thread (trace_of moves) k) (location (trace_of moves) k)
      (source (trace_of moves) k)
  three_there =
      let first : k + 0 ≡ k = omega arith in
      let second : k + 1 ≡ suc k = omega arith in
      let third : k + 2 ≡ suc (suc k) = omega arith in
      rw (first, second, third) (event_three k moves moves_inside)

module _
    (es : List Event) (accepted : Accepted (trace_of es) (length es)) (k : ℕ) (inside : k < length es)
    (locked : locked? (trace_of es k) ≡ true) where
  -- the trace, and the longer one
  abbrev part : ℕ → Event
  part = trace_of es

  abbrev whole : ℕ → Event
  whole = trace_of (replaced k es)

  pub of_kind : kind part k ≡ 12
  of_kind = eqb-true (kind part k) 12 locked

  -- the first event is a begin
  pub later : 0 < k
  later = by_zero (same? k 0)
    where
      by_zero : (k ≡ 0) ⊎ (k ≢ 0) → 0 < k
      by_zero (inr differs) = omega arith
      by_zero (inl is) =
          let begun = begins part (length es) accepted (omega arith) in
          let begin_kind : kind part 0 ≡ 1 = eqb-true (kind part 0) 1 begun in
          let locked_kind : kind part 0 ≡ 12 = rw is at of_kind in
          absurd (omega arith)

  renumbered : (e : ℕ) → Renumbered (as_store k) (part e) (moved (as_store k) (part e))
  renumbered e = moved_is (as_store k) (spread_low 1 k 0 later) (part e)

  pub there : (d e : ℕ) → e ≢ k → Renumbered (as_store k) (part e) (whole (spread d k e))
  there d e differs = rw (other_there es k inside d e differs) (renumbered e)

  pub three : Three whole (k + 0) (k + 1) (k + 2) (thread part k) (location part k) (as_store k (source part k))
  three =
      let is : Renumbered (as_store k) (part k) (trace_of (moves es k inside) k) =
      rw (moved_there (as_store k) es k) (renumbered k)
      in
      rw (is.thread_same, is.location_same, ← is.source_moved) (three_there es k inside)

  -- ---- the embedding

  -- an equation between each event and its number d, from those at k and at other events
  pub at_number :
      {A : Type 0} (d : ℕ) (f g : Event → A) → f (whole (k + d)) ≡ g (part k)
      → ((e : ℕ) → Renumbered (as_store k) (part e) (whole (spread d k e)) → f (whole (spread d k e)) ≡ g (part e))
      → (e : ℕ) → f (whole (spread d k e)) ≡ g (part e)
  at_number d f g here_same else_same e = by_place (same? e k)
    where
      by_place : (e ≡ k) ⊎ (e ≢ k) → f (whole (spread d k e)) ≡ g (part e)
      by_place (inl is) = rw (is, spread_here d k) here_same
      by_place (inr differs) = else_same e (there d e differs)

  -- the gaps are those of the three that are not at k + d
  gap_fails :
      (plays? : ℕ → Bool) (d : ℕ) → (d ≢ 0 → plays? (k + 0) ≡ false) → (d ≢ 1 → plays? (k + 1) ≡ false)
      → (d ≢ 2 → plays? (k + 2) ≡ false) → (n : ℕ) → Gap d k n → plays? n ≡ false
  gap_fails plays? d first second third n gap = by_place (same? n (k + 0)) (same? n (k + 1))
    where
      by_place : (n ≡ k + 0) ⊎ (n ≢ k + 0) → (n ≡ k + 1) ⊎ (n ≢ k + 1) → plays? n ≡ false
      by_place (inl is) either = rw is (first (λ same. omega (arith, gap.other)))
      by_place (inr no_first) (inl is) = rw is (second (λ same. omega (arith, gap.other)))
      by_place (inr no_first) (inr no_second) =
          let is : n ≡ k + 2 = omega (arith, gap.from, gap.to) in
          rw is (third (λ same. omega (arith, gap.other)))

  pub store_gap : (n : ℕ) → Gap 1 k n → issue? whole n ≡ false
  store_gap =
      gap_fails (issue? whole) 1 (λ _. rw three.loads) (λ no. absurd (no refl)) (λ _. rw three.commits)

  pub load_gap : (n : ℕ) → Gap 0 k n → load? whole n ≡ false
  load_gap = gap_fails (load? whole) 0 (λ no. absurd (no refl)) (λ _. rw three.stores) (λ _. rw three.commits)

  pub commit_gap : (n : ℕ) → Gap 2 k n → commit? whole n ≡ false
  commit_gap =
      gap_fails (commit? whole) 2 (λ _. rw three.loads) (λ _. rw three.stores) (λ no. absurd (no refl))

  -- none of the three is of another kind
  pub other_fails :
      (d : ℕ) (passes? : ℕ → Bool) → passes? 2 ≡ false → passes? 3 ≡ false → passes? 4 ≡ false
      → (n : ℕ) → Gap d k n → passes? (kind whole n) ≡ false
  other_fails d passes? issues commits loads =
      gap_fails (λ n. passes? (kind whole n)) d (λ _. rw three.loads loads) (λ _. rw three.stores issues)
      (λ _. rw three.commits commits)

  pub role :
      (d : ℕ) (small : d ≤ 2) (passes? : ℕ → Bool) → passes? (kind whole (k + d)) ≡ passes? (kind part k)
      → thread whole (k + d) ≡ thread part k → ((n : ℕ) → Gap d k n → passes? (kind whole n) ≡ false)
      → Role (λ ev e. passes? (kind ev e)) (numbering d k small later) everything part whole
  role d small passes? same_here thread_here fails = record {
    same = at_number d (λ x. passes? (kind_of x)) (λ x. passes? (kind_of x)) same_here (λ e is. rw is.kind_same);
    thread_same = λ e plays.
        at_number d (λ x. (fields_of x).thread) (λ x. (fields_of x).thread) thread_here (λ e is. sym is.thread_same) e;
    thread_own = λ e plays. refl;
    foreign = λ n gap plays. false_true (sym (fails n (gap_is d k n gap)) ∙ plays);
  }

  pub store_thread : thread whole (k + 1) ≡ thread part k
  store_thread = ap (λ x. (fields_of x).thread) three.stores

  abbrev pub embedding : Embedding everything everything part whole
  embedding = record {
    stores = numbering 1 k (omega arith) later;
    loads = numbering 0 k (omega arith) later;
    commits = numbering 2 k (omega arith) later;
    issuing =
        role 1 (omega arith) (λ c. eqb c 2 || eqb c 12) (rw (three.stores, of_kind)) store_thread store_gap;
    skip_on =
        role 1 (omega arith) (λ c. eqb c 10) (rw (three.stores, of_kind)) store_thread
        (other_fails 1 (λ c. eqb c 10) refl refl refl);
    skip_off =
        role 1 (omega arith) (λ c. eqb c 11) (rw (three.stores, of_kind)) store_thread
        (other_fails 1 (λ c. eqb c 11) refl refl refl);
    signalling =
        role 1 (omega arith) (λ c. eqb c 13) (rw (three.stores, of_kind)) store_thread
        (other_fails 1 (λ c. eqb c 13) refl refl refl);
    waiting =
        role 1 (omega arith) (λ c. eqb c 14) (rw (three.stores, of_kind)) store_thread
        (other_fails 1 (λ c. eqb c 14) refl refl refl);
    loading =
        role 0 (omega arith) (λ c. eqb c 4 || eqb c 12) (rw (three.loads, of_kind))
        (ap (λ x. (fields_of x).thread) three.loads) load_gap;
    opening =
        role 0 (omega arith) (λ c. eqb c 15) (rw (three.loads, of_kind))
        (ap (λ x. (fields_of x).thread) three.loads) (other_fails 0 (λ c. eqb c 15) refl refl refl);
    closing =
        role 0 (omega arith) (λ c. eqb c 16) (rw (three.loads, of_kind))
        (ap (λ x. (fields_of x).thread) three.loads) (other_fails 0 (λ c. eqb c 16) refl refl refl);
    committing =
        role 2 (omega arith) (λ c. eqb c 3 || eqb c 12) (rw (three.commits, of_kind))
        (ap (λ x. (fields_of x).thread) three.commits) commit_gap;
    crash_same =
        at_number 1 (λ x. eqb (kind_of x) 9) (λ x. eqb (kind_of x) 9) (rw (three.stores, of_kind))
        (λ e is. rw is.kind_same);
    crash_stays = λ n gap. other_fails 1 (λ c. eqb c 9) refl refl refl n (gap_is 1 k n gap);
    store_location = λ e store.
        at_number 1 (λ x. (fields_of x).location) (λ x. (fields_of x).location)
        (ap (λ x. (fields_of x).location) three.stores) (λ e is. sym is.location_same) e;
    load_location = λ e loads.
        at_number 0 (λ x. (fields_of x).location) (λ x. (fields_of x).location)
        (ap (λ x. (fields_of x).location) three.loads) (λ e is. sym is.location_same) e;
    location_own = λ e loads. refl;
    source_same = λ e loads.
        at_number 0 (λ x. (fields_of x).source) (λ x. as_store k (fields_of x).source)
        (ap (λ x. (fields_of x).source) three.loads) (λ e is. is.source_moved) e;
    outcome_same = λ e close. sym (there 0 e (λ is_k. not_close (rw is_k at close))).outcome_same;
    wait_source = λ e waits. (there 1 e (λ is_k. not_wait (rw is_k at waits))).source_moved;
    stores_at_load = λ e. kept_number 0 1 k (omega arith) (omega arith) e (omega arith);
    commits_at_load = λ e. kept_number 0 2 k (omega arith) (omega arith) e (omega arith);
    stores_at_commit = λ e. past_number 2 1 k (omega arith) (omega arith) e (omega arith);
    store_near = λ n. kept_near 0 1 k (omega arith) (omega arith) part n (omega arith) no_crash;
    commit_near = λ n. kept_near 0 2 k (omega arith) (omega arith) part n (omega arith) no_crash;
  }
    where
      no_crash : crash? part k ≡ false
      no_crash = rw of_kind

      not_wait : wait? part k ≡ true → ⊥
      not_wait waits = omega (arith, of_kind, eqb-true (kind part k) 14 waits)

      not_close : close? part k ≡ true → ⊥
      not_close close = omega (arith, of_kind, eqb-true (kind part k) 16 close)

  pub apart : Apart embedding
  apart = record {
    store_apart = λ n gap store. false_true (sym (store_gap n (gap_is 1 k n gap)) ∙ store);
    commit_apart = λ n gap commits. false_true (sym (commit_gap n (gap_is 2 k n gap)) ∙ commits);
    finds = accepted_finds es accepted;
  }

  pub cover : Cover embedding embedding
  cover = record {
    each_store = λ p store.
        inl (excluded (embedding.stores.gap? p) (issue? whole p) (λ gap. store_gap p (gap_is 1 k p gap)) store);
    each_load = λ l loads.
        inl (excluded (embedding.loads.gap? l) (load? whole l) (λ gap. load_gap l (gap_is 0 k l gap)) loads);
    each_thread = λ u. inl refl;
  }

-- ---- the example of specs/Locked.antt

abbrev before : List Event
before = Begin 1 2 1 ∷ Issue 0 0 ∷ Commit 0 ∷ Locked 1 0 1 ∷ Crash ∷ Load 0 0 3 ∷ []

abbrev after : List Event
after = Begin 1 2 1 ∷ Issue 0 0 ∷ Commit 0 ∷ Load 1 0 1 ∷ Issue 1 0 ∷ Commit 1 ∷ Crash ∷ Load 0 0 4 ∷ []

example_replaced : replaced 3 before ≡ after
unfolding replacing spread moved event_of
example_replaced = refl
