-- Happens-before and what loads observe and forbid, for a part of a trace and the whole (specs/Embedding.antt). What
-- happens before a store or a signal of the part is a store of the part; so is what its loads observe and forbid.
-- In order: what is no gap; loads among stores; happens-before; stores that are in; what loads observe and forbid. A
-- lemma _at starts from events of the part, a lemma _kept from events of the whole.
use Prim.Native.Nat.{ℕ, ◌≤◌, ◌<◌}
use native.Mathlib.Omega.{arith}
use mathlib.Core.Path.{◌≡◌, sym, ◌∙◌, ap}
use mathlib.Core.Bool.{Bool, true, false}
use mathlib.Core.Logic.{◌⊎◌, inl, inr, ◌≢◌, ◌↔◌}
use Rattle.record.specs.declared.events.Event.{Event}
use Rattle.model.specs.Trace.{thread, location, source, issue?, load?, Issue, Signal, stretch}
use Rattle.model.specs.Machine.{commit_of}
use Rattle.model.specs.HappensBefore.{Precedes, own, read, handed, chain, Before, AtOrBefore}
use Rattle.model.specs.Choice.{Choice, In, Observes, Newer, Forbids, Observed, Forbidden}
use Rattle.model.specs.Embedding.{Numbering, Naming, Role, Embedding, Apart, restricted}
use Rattle.model.proofs.Searching.{same?, less?, test, false_true, excluded}
use Rattle.model.proofs.CountedLoads.{counted_is_load}
use Rattle.model.proofs.Numberings.{into_injective, number_zero, kept_mono, kept_lt, number_below, number_mono}
use Rattle.model.proofs.Numberings.{number_lt, number_le, number_injective}
use Rattle.model.proofs.EmbeddedTrace.{stretch_kept, stretch_store, stretch_loads, stretch_load, place_at}
use Rattle.model.proofs.EmbeddedMachine.{commit_of_at, counted_at}

module _
    {threads_by locations_by : Naming} {part whole : ℕ → Event} (via : Embedding threads_by locations_by part whole) where
  -- ---- what is no gap

  module _ {plays? : (ℕ → Event) → ℕ → Bool} {by : Numbering} (role : Role plays? by threads_by part whole) (n : ℕ) where
    role_kept : by.gap? n ≡ false → plays? whole n ≡ true → plays? part (by.kept n) ≡ true
    role_kept stays plays = (rw (by.number_kept n stays) at (sym (role.same (by.kept n)))) ∙ plays

    thread_kept :
        by.gap? n ≡ false → plays? part (by.kept n) ≡ true
        → thread whole n ≡ threads_by.into (thread part (by.kept n))
    thread_kept stays plays = rw (by.number_kept n stays) at (role.thread_same (by.kept n) plays)

  -- event e of the whole is an event of the part, as a store, of which P holds there
  pub record Numbered (P : ℕ → Type 0) (e : ℕ) : Type 0 where
    pub stays : via.stores.gap? e ≡ false
    pub holds : P (via.stores.kept e)

  pub store_at_lem : {p : ℕ} → Issue part p → Issue whole (via.stores.number p)
  store_at_lem {p} store = record { test = via.issuing.same p ∙ store.test }

  pub store_kept : {p : ℕ} → via.stores.gap? p ≡ false → Issue whole p → Issue part (via.stores.kept p)
  store_kept {p} stays store = record { test = role_kept via.issuing p stays store.test }

  -- event s of the whole is event e of the part
  numbered : (e s : ℕ) → s ≡ via.stores.number e → Numbered (λ q. e ≡ q) s
  numbered e s is =
      rw is (record { stays = via.stores.number_stays e; holds = sym (via.stores.kept_number e) })

  -- so is the source of a load of the part
  source_kept :
      (l : ℕ) → load? part l ≡ true → (s : ℕ) → source whole (via.loads.number l) ≡ s
      → Numbered (λ q. source part l ≡ q) s
  source_kept l loads s from = numbered (source part l) s (sym from ∙ via.source_same l loads)

  -- ---- loads among stores

  store_load : (p l : ℕ) → p < l → via.stores.number p < via.loads.number l
  store_load p l earlier = number_below via.stores p (via.loads.number l) (rw (via.stores_at_load l) earlier)

  load_store : (l n : ℕ) → l ≤ n → via.loads.number l ≤ via.stores.number n
  load_store l n early = by_order (less? (via.stores.number n) (via.loads.number l))
    where
      by_order :
          (via.stores.number n < via.loads.number l) ⊎ (via.loads.number l ≤ via.stores.number n)
          → via.loads.number l ≤ via.stores.number n
      by_order (inr holds) = holds
      by_order (inl before) =
          absurd (omega (
            arith,
            kept_lt via.stores (via.stores.number n) (via.loads.number l) (via.stores.number_stays n) before,
            via.stores.kept_number n,
            via.stores_at_load l,
          ))

  -- ---- happens-before

  -- the thread of event n of the part, which is a store or a signal, in the whole
  abbrev ThreadAt : ℕ → Type 0
  ThreadAt n = thread whole (via.stores.number n) ≡ threads_by.into (thread part n)

  -- events of that thread
  of_thread_lem :
      {plays? : (ℕ → Event) → ℕ → Bool} {by : Numbering} (role : Role plays? by threads_by part whole)
      (m n : ℕ) → plays? part m ≡ true → ThreadAt n → thread part m ≡ thread part n
      → thread whole (by.number m) ≡ thread whole (via.stores.number n)
  of_thread_lem role m n plays last by_thread =
      role.thread_same m plays ∙ ap threads_by.into by_thread ∙ sym last

  precedes_at :
      {p n : ℕ} → ThreadAt n → Precedes part p n → Precedes whole (via.stores.number p) (via.stores.number n)
  precedes_at last (own {p} {n} store in_stretch by_thread earlier) =
      own (store_at_lem store) (stretch_store via p ∙ in_stretch ∙ sym (stretch_store via n))
      (of_thread_lem via.issuing p n store.test last by_thread) (number_mono via.stores p n earlier)
  precedes_at last (read {p} {n} l store in_stretch load from_p by_thread load_in_stretch after_p not_after_n) =
      read (via.loads.number l) (store_at_lem store) (stretch_store via p ∙ in_stretch ∙ sym (stretch_store via n))
      (record { test = via.loading.same l ∙ load.test })
      (via.source_same l load.test ∙ ap via.stores.number from_p)
      (of_thread_lem via.loading l n load.test last by_thread)
      (stretch_load via l ∙ load_in_stretch ∙ sym (stretch_store via n)) (store_load p l after_p)
      (load_store l n not_after_n)
  precedes_at last (handed {p} {n} s w signal in_stretch before waits from by_thread wait_in_stretch after early) =
      handed (via.stores.number s) (via.stores.number w) (record { test = via.signalling.same s ∙ signal.test })
      (stretch_store via s ∙ in_stretch ∙ sym (stretch_store via n))
      (precedes_at (via.signalling.thread_same s signal.test) before)
      (record { test = via.waiting.same w ∙ waits.test })
      (via.wait_source w waits.test ∙ ap via.stores.number from)
      (of_thread_lem via.waiting w n waits.test last by_thread)
      (stretch_store via w ∙ wait_in_stretch ∙ sym (stretch_store via n)) (number_mono via.stores s w after)
      (number_le via.stores w n early)
  precedes_at last (chain {p} {q} {n} store first second) =
      chain (store_at_lem store) (precedes_at (via.issuing.thread_same q store.test) first) (precedes_at last second)

  pub before_at : {p q : ℕ} → Before part p q → Before whole (via.stores.number p) (via.stores.number q)
  before_at {p} {q} before = record {
    store = store_at_lem before.store;
    precedes = precedes_at (via.issuing.thread_same q before.store.test) before.precedes;
  }

  -- and what happens before a signal
  pub handed_at :
      {p s : ℕ} → Signal part s → Precedes part p s → Precedes whole (via.stores.number p) (via.stores.number s)
  handed_at {p} {s} signal = precedes_at (via.signalling.thread_same s signal.test)

  -- event n of the whole is an event of the part, with one of the part's threads
  record OwnEvent (n : ℕ) : Type 0 where
    event : via.stores.gap? n ≡ false
    same : thread whole n ≡ threads_by.into (thread part (via.stores.kept n))
    own : threads_by.own? (threads_by.into (thread part (via.stores.kept n))) ≡ true

  -- so is one that is numbered as a store and plays a role
  own_event :
      {plays? : (ℕ → Event) → ℕ → Bool} (role : Role plays? via.stores threads_by part whole) (n : ℕ)
      → via.stores.gap? n ≡ false → plays? whole n ≡ true → OwnEvent n
  own_event role n event plays =
      let here = role_kept role n event plays in
      record { event = event; same = thread_kept role n event here; own = role.thread_own (via.stores.kept n) here }

  -- an event m of the whole that plays a role for the thread of event n of the part
  module _
      {plays? : (ℕ → Event) → ℕ → Bool} {by : Numbering} (role : Role plays? by threads_by part whole)
      (m n : ℕ) (plays : plays? whole m ≡ true) (by_thread : thread whole m ≡ thread whole n) (last : OwnEvent n) where
    beside_stays : by.gap? m ≡ false
    beside_stays =
        excluded (by.gap? m) (threads_by.own? (thread whole m)) (λ gap. role.foreign m gap plays)
        (rw (by_thread, last.same) last.own)

    beside_thread : thread part (by.kept m) ≡ thread part (via.stores.kept n)
    beside_thread =
        into_injective threads_by _ _
        (sym (thread_kept role m beside_stays (role_kept role m beside_stays plays)) ∙ by_thread ∙ last.same)

  -- what happens before event n of the part is a store of the part, and does so there
  precedes_kept :
      {p n : ℕ} → OwnEvent n → Precedes whole p n → Numbered (λ q. Precedes part q (via.stores.kept n)) p
  precedes_kept last (own {p} {n} store in_stretch by_thread earlier) =
      let stays = beside_stays via.issuing p n store.test by_thread last in
      record {
        stays = stays;
        holds =
            own (store_kept stays store) (sym (stretch_kept via p) ∙ in_stretch ∙ stretch_kept via n)
            (beside_thread via.issuing p n store.test by_thread last)
            (kept_lt via.stores p n stays earlier);
      }
  precedes_kept last (read {p} {n} l store in_stretch load from_p by_thread load_in_stretch after early) =
      let load_stays = beside_stays via.loading l n load.test by_thread last in
      let loads = role_kept via.loading l load_stays load.test in
      let from : Numbered (λ q. source part (via.loads.kept l) ≡ q) p =
      source_kept (via.loads.kept l) loads p (rw (via.loads.number_kept l load_stays) from_p)
      in
      let same_load : via.stores.kept l ≡ via.loads.kept l =
      rw (via.loads.number_kept l load_stays) at (via.stores_at_load (via.loads.kept l))
      in
      record {
        stays = from.stays;
        holds =
            read (via.loads.kept l) (store_kept from.stays store)
            (sym (stretch_kept via p) ∙ in_stretch ∙ stretch_kept via n) (record { test = loads }) from.holds
            (beside_thread via.loading l n load.test by_thread last)
            (sym (stretch_loads via l) ∙ load_in_stretch ∙ stretch_kept via n)
            (omega (arith, kept_lt via.stores p l from.stays after, same_load))
            (omega (arith, kept_mono via.stores l n early, same_load));
      }
  precedes_kept last (handed {p} {n} s w signal in_stretch before waits from by_thread wait_in_stretch after early) =
      let wait_stays = beside_stays via.waiting w n waits.test by_thread last in
      let waits_here = role_kept via.waiting w wait_stays waits.test in
      let is_s : s ≡ via.stores.number (source part (via.stores.kept w)) =
      sym from ∙ rw (via.stores.number_kept w wait_stays) at (via.wait_source (via.stores.kept w) waits_here)
      in
      let of_s = numbered (source part (via.stores.kept w)) s is_s in
      let sooner = precedes_kept (own_event via.signalling s of_s.stays signal.test) before in
      record {
        stays = sooner.stays;
        holds =
            handed (via.stores.kept s) (via.stores.kept w)
            (record { test = role_kept via.signalling s of_s.stays signal.test })
            (sym (stretch_kept via s) ∙ in_stretch ∙ stretch_kept via n) sooner.holds
            (record { test = waits_here }) of_s.holds
            (beside_thread via.waiting w n waits.test by_thread last)
            (sym (stretch_kept via w) ∙ wait_in_stretch ∙ stretch_kept via n)
            (kept_lt via.stores s w of_s.stays after) (kept_mono via.stores w n early);
      }
  precedes_kept last (chain {p} {q} {n} store first second) =
      let later = precedes_kept last second in
      let sooner = precedes_kept (own_event via.issuing q later.stays store.test) first in
      record {
        stays = sooner.stays;
        holds = chain (store_kept later.stays store) sooner.holds later.holds;
      }

  pub before_kept :
      {p q : ℕ} → via.stores.gap? q ≡ false → Before whole p q → Numbered (λ r. Before part r (via.stores.kept q)) p
  before_kept {p} {q} event before =
      let inside = precedes_kept (own_event via.issuing q event before.store.test) before.precedes in
      record {
        stays = inside.stays;
        holds = record { store = store_kept event before.store; precedes = inside.holds };
      }

  pub handed_kept :
      {p s : ℕ} → via.stores.gap? s ≡ false → Signal whole s → Precedes whole p s
      → Precedes part (via.stores.kept p) (via.stores.kept s)
  handed_kept {p} {s} event signal precedes =
      (precedes_kept (own_event via.signalling s event signal.test) precedes).holds

  pub at_or_before_at :
      {p q : ℕ} → AtOrBefore part p q → AtOrBefore whole (via.stores.number p) (via.stores.number q)
  at_or_before_at (inl same) = inl (ap via.stores.number same)
  at_or_before_at (inr before) = inr (before_at before)

  pub at_or_before_kept :
      {p q : ℕ} → via.stores.gap? q ≡ false → AtOrBefore whole p q
      → AtOrBefore part (via.stores.kept p) (via.stores.kept q)
  at_or_before_kept event (inl same) = inl (ap via.stores.kept same)
  at_or_before_kept event (inr before) = inr (before_kept event before).holds

  -- ---- stores that are in

  -- a store of the part is in a choice of the whole exactly if it is in what that gives the part
  pub in_at :
      (c : Choice) (p : ℕ) → Issue part p → In whole c (via.stores.number p) ↔ In part (restricted threads_by c) p
  in_at c p store =
      rw (
        place_at via p store.test,
        stretch_store via p,
        via.issuing.thread_same p store.test,
        via.issuing.thread_own p store.test,
      ) (λ inside. inside, λ inside. inside)

module _
    {threads_by locations_by : Naming} {part whole : ℕ → Event} (via : Embedding threads_by locations_by part whole)
    (apart : Apart via) where
  -- ---- what loads observe and forbid

  module _ (l : ℕ) (loads : load? part l ≡ true) where
    -- the event of the whole that loads as event l of the part does
    abbrev here : ℕ
    here = via.loads.number l

    pub observes_at_lem : (s : ℕ) → Observes part l s → Observes whole here (via.stores.number s)
    observes_at_lem s observes = record {
      from = via.source_same l loads ∙ ap via.stores.number observes.from;
      some_store =
          λ none. observes.some_store (number_injective via.stores s 0 (none ∙ sym (number_zero via.stores)));
    }

    newer_at : (p : ℕ) → issue? part p ≡ true → Newer whole here (via.stores.number p) ↔ Newer part l p
    newer_at p store = by_source (same? (source part l) 0)
      where
        -- what the whole says, in terms of the part
        NumberedNewer : Type 0
        NumberedNewer =
            (via.stores.number (source part l) ≡ 0)
            ⊎ ((stretch part (source part l) < stretch part p)
            ⊎ ((stretch part (source part l) ≡ stretch part p)
            × (via.commits.number (commit_of part l (source part l)) < via.commits.number (commit_of part l p))))

        to_part : NumberedNewer → Newer part l p
        to_part (inl none) = inl (number_injective via.stores _ 0 (none ∙ sym (number_zero via.stores)))
        to_part (inr (inl later)) = inr (inl later)
        to_part (inr (inr (in_stretch, after))) = inr (inr (in_stretch, number_lt via.commits _ _ after))

        to_whole : Newer part l p → NumberedNewer
        to_whole (inl none) = inl (ap via.stores.number none ∙ number_zero via.stores)
        to_whole (inr (inl later)) = inr (inl later)
        to_whole (inr (inr (in_stretch, after))) = inr (inr (in_stretch, number_mono via.commits _ _ after))

        by_source :
            (source part l ≡ 0) ⊎ (source part l ≢ 0) → Newer whole here (via.stores.number p) ↔ Newer part l p
        by_source (inl none) = (
          λ newer. inl none,
          λ newer. inl (via.source_same l loads ∙ ap via.stores.number none ∙ number_zero via.stores),
        )
        by_source (inr some) =
            rw (
              via.source_same l loads,
              stretch_store via (source part l),
              stretch_store via p,
              commit_of_at via l (source part l) (apart.finds.source_store l loads some),
              commit_of_at via l p store,
            ) (to_part, to_whole)

    pub forbids_at_lem : (p : ℕ) → Forbids part l p → Forbids whole here (via.stores.number p)
    forbids_at_lem p forbids = record {
      store = store_at_lem via forbids.store;
      to_it =
          via.store_location p forbids.store.test ∙ ap locations_by.into forbids.to_it
          ∙ sym (via.load_location l loads);
      earlier = omega (arith, forbids.earlier, stretch_store via p, stretch_load via l);
      newer = (newer_at p forbids.store.test).1 forbids.newer;
    }

    -- and back: what a load of the part observes, and what it forbids, are stores of the part
    pub observes_kept : (s : ℕ) → Observes whole here s → Numbered via (Observes part l) s
    observes_kept s observes =
        let from = source_kept via l loads s observes.from in
        record {
          stays = from.stays;
          holds = record {
            from = from.holds;
            some_store = λ none.
                observes.some_store
                (sym (via.stores.number_kept s from.stays) ∙ ap via.stores.number none
                ∙ number_zero via.stores);
          };
        }

    pub forbids_kept : (p : ℕ) → Forbids whole here p → Numbered via (Forbids part l) p
    forbids_kept p forbids = by_gap (test (via.stores.gap? p))
      where
        own_location : locations_by.own? (location whole p) ≡ true
        own_location = rw (forbids.to_it, via.load_location l loads) (via.location_own l loads)

        at_number : (q : ℕ) → Forbids whole here (via.stores.number q) → Forbids part l q
        at_number q it =
            let store : issue? part q ≡ true = sym (via.issuing.same q) ∙ it.store.test in
            record {
              store = record { test = store };
              to_it =
                  into_injective locations_by _ _
                  (sym (via.store_location q store) ∙ it.to_it ∙ via.load_location l loads);
              earlier = omega (arith, it.earlier, stretch_store via q, stretch_load via l);
              newer = (newer_at q store).0 it.newer;
            }

        by_gap :
            (via.stores.gap? p ≡ true) ⊎ (via.stores.gap? p ≡ false) → Numbered via (Forbids part l) p
        by_gap (inl gap) = false_true (sym (apart.store_apart p gap forbids.store.test) ∙ own_location)
        by_gap (inr stays) = record {
          stays = stays;
          holds = at_number (via.stores.kept p) (rw (via.stores.number_kept p stays) forbids);
        }

  pub observed_at : {N s : ℕ} → Observed part (via.loads.kept N) s → Observed whole N (via.stores.number s)
  observed_at {N} {s} (l, counts, observes) =
      (via.loads.number l, counted_at via apart counts, observes_at_lem l (counted_is_load part counts) s observes)

  pub forbidden_at : {N p : ℕ} → Forbidden part (via.loads.kept N) p → Forbidden whole N (via.stores.number p)
  forbidden_at {N} {p} (l, counts, forbids) =
      (via.loads.number l, counted_at via apart counts, forbids_at_lem l (counted_is_load part counts) p forbids)
