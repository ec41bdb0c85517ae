-- Windows (specs/Windows.antt), for a part of a trace and the whole (specs/Embedding.antt), where the part has all
-- threads and locations, and each of its events has one number, as a store and as a load. Then each thread has the same
-- window in both, its places shifted (specs/Flushes.antt): no store, load or wait of the whole is a gap, since that
-- would be foreign, and numbers keep their order.
-- In order: what is no gap; stores, loads and waits, at their numbers; what brings a store; the two places; the window;
-- the fault, `fault_at`. A lemma _at starts from events of the part, a lemma _kept from events of the whole.
use Prim.Native.Nat.{ℕ, suc, ◌-◌}
use native.Mathlib.Omega.{arith}
use mathlib.Core.Path.{◌≡◌, refl, sym, ◌∙◌}
use mathlib.Core.Bool.{Bool, true, false}
use mathlib.Core.List.{List, map}
use lib.Dec.{eqb}
use Rattle.record.specs.declared.events.Event.{Event}
use Rattle.model.specs.Trace.{thread, location, source, line, load?, Issue, Load, Signal, Wait}
use Rattle.model.specs.HappensBefore.{Precedes, AtOrBefore}
use Rattle.model.specs.Windows.{Places, none, between, ComesBy, by_load, by_wait, Brings, FirstBrings}
use Rattle.model.specs.Windows.{FirstPlace, LastPlace, Window, WindowIs, window_of}
use Rattle.model.specs.Windows as windows
use Rattle.model.specs.Answers.{tabulate, fault_of}
use Rattle.model.specs.Embedding.{Numbering, everything, Role, Embedding}
use Rattle.model.specs.Flushes.{shifted_places, shifted_fault}
use Rattle.model.proofs.Searching.{excluded}
use Rattle.model.proofs.Tabulating.{tabulate_same, tabulate_map}
use Rattle.model.proofs.Faults.{by_kind}
use Rattle.model.proofs.WindowPlaces.{window_is, window_unique}
use Rattle.model.proofs.Numberings.{number_mono, number_lt, number_eqb}
use Rattle.model.proofs.EmbeddedTrace.{stretch_store}
use Rattle.model.proofs.EmbeddedLoads.{store_at_lem, at_or_before_at, at_or_before_kept, handed_at, handed_kept}

module _
    {part whole : ℕ → Event} (via : Embedding everything everything part whole)
    (one_number : (e : ℕ) → via.loads.number e ≡ via.stores.number e) where
  -- the number in the whole of event e of the part
  abbrev there : ℕ → ℕ
  there e = via.stores.number e

  -- ---- what is no gap

  -- an event that plays a role: there is no foreign thread
  stays :
      {plays? : (ℕ → Event) → ℕ → Bool} {by : Numbering} → Role plays? by everything part whole
      → (n : ℕ) → plays? whole n ≡ true → by.gap? n ≡ false
  stays {plays?} {by} role n plays = excluded (by.gap? n) true (λ gap. role.foreign n gap plays) refl

  -- each store, and each load or wait, of the whole is an event of the part
  store_of : (n : ℕ) → Issue whole n → (e : ℕ) × (there e ≡ n)
  store_of n store = (via.stores.kept n, via.stores.number_kept n (stays via.issuing n store.test))

  bringing_of : {p : ℕ} (n : ℕ) → ComesBy whole p n → (e : ℕ) × (there e ≡ n)
  bringing_of n (by_load loads order) = (
    via.loads.kept n,
    sym (one_number (via.loads.kept n)) ∙ via.loads.number_kept n (stays via.loading n loads.test),
  )
  bringing_of n (by_wait waits signal precedes) =
      (via.stores.kept n, via.stores.number_kept n (stays via.waiting n waits.test))

  -- ---- stores, loads and waits, at their numbers

  store_kept : {p : ℕ} → Issue whole (there p) → Issue part p
  store_kept {p} store = record { test = sym (via.issuing.same p) ∙ store.test }

  store_thread : {p : ℕ} → Issue part p → thread whole (there p) ≡ thread part p
  store_thread {p} store = via.issuing.thread_same p store.test

  store_location : {p : ℕ} → Issue part p → location whole (there p) ≡ location part p
  store_location {p} store = via.store_location p store.test

  order_kept : {p q : ℕ} → AtOrBefore whole (there p) (there q) → AtOrBefore part p q
  order_kept {p} {q} order =
      rw (via.stores.kept_number p, via.stores.kept_number q) at
      (at_or_before_kept via (via.stores.number_stays q) order)

  load_same : (l : ℕ) → load? whole (there l) ≡ load? part l
  load_same l = rw (one_number l) at (via.loading.same l)

  load_kept : {l : ℕ} → Load whole (there l) → Load part l
  load_kept {l} loads = record { test = sym (load_same l) ∙ loads.test }

  load_source : {l : ℕ} → Load part l → source whole (there l) ≡ there (source part l)
  load_source {l} loads = rw (one_number l) at (via.source_same l loads.test)

  wait_source : {l : ℕ} → Wait part l → source whole (there l) ≡ there (source part l)
  wait_source {l} waits = via.wait_source l waits.test

  -- ---- what brings a store

  comes_at : {p l : ℕ} → ComesBy part p l → ComesBy whole (there p) (there l)
  comes_at {p} {l} (by_load loads order) =
      by_load (record { test = load_same l ∙ loads.test }) (rw (load_source loads) (at_or_before_at via order))
  comes_at {p} {l} (by_wait waits signal precedes) =
      by_wait (record { test = via.waiting.same l ∙ waits.test })
      (record { test = rw (wait_source waits) (via.signalling.same (source part l) ∙ signal.test) })
      (rw (wait_source waits) (handed_at via signal precedes))

  comes_kept : {p l : ℕ} → ComesBy whole (there p) (there l) → ComesBy part p l
  comes_kept {p} {l} (by_load loads order) =
      let loads_here = load_kept loads in
      by_load loads_here (order_kept (rw (load_source loads_here) at order))
  comes_kept {p} {l} (by_wait waits signal precedes) =
      let waits_here : Wait part l = record { test = sym (via.waiting.same l) ∙ waits.test } in
      let s = source part l in
      let signal_there : Signal whole (there s) = rw (wait_source waits_here) at signal in
      let precedes_there : Precedes whole (there p) (there s) = rw (wait_source waits_here) at precedes in
      by_wait waits_here (record { test = sym (via.signalling.same s) ∙ signal_there.test })
      (rw (via.stores.kept_number p, via.stores.kept_number s) at
      (handed_kept via (via.stores.number_stays s) signal_there precedes_there))

  brings_at : {p l : ℕ} → Brings part p l → Brings whole (there p) (there l)
  brings_at {p} {l} it = record {
    in_stretch = stretch_store via l ∙ it.in_stretch ∙ sym (stretch_store via p);
    comes = comes_at it.comes;
  }

  brings_kept : {p l : ℕ} → Brings whole (there p) (there l) → Brings part p l
  brings_kept {p} {l} it = record {
    in_stretch = sym (stretch_store via l) ∙ it.in_stretch ∙ stretch_store via p;
    comes = comes_kept it.comes;
  }

  -- by an event of the same thread
  bringing_thread : {p l : ℕ} → ComesBy part p l → thread whole (there l) ≡ thread part l
  bringing_thread {p} {l} (by_load loads order) = rw (one_number l) at (via.loading.thread_same l loads.test)
  bringing_thread {p} {l} (by_wait waits signal precedes) = via.waiting.thread_same l waits.test

  module _ (p t : ℕ) where
    first_brings_at : (l : ℕ) → FirstBrings part p t l → FirstBrings whole (there p) t (there l)
    first_brings_at l it = record {
      by_t = bringing_thread it.brings.comes ∙ it.by_t;
      brings = brings_at it.brings;
      none_earlier = λ n earlier by_t brings.
          let (e, is_n) = bringing_of n brings.comes in
          let brings_here : Brings part p e = brings_kept (rw is_n brings) in
          it.none_earlier e (number_lt via.stores e l (rw is_n earlier))
          (sym (bringing_thread brings_here.comes) ∙ rw is_n by_t) brings_here;
    }

    first_brings_kept : (l : ℕ) → FirstBrings whole (there p) t (there l) → FirstBrings part p t l
    first_brings_kept l it =
        let brings_here = brings_kept it.brings in
        record {
          by_t = sym (bringing_thread brings_here.comes) ∙ it.by_t;
          brings = brings_here;
          none_earlier = λ n earlier by_t brings.
              it.none_earlier (there n) (number_mono via.stores n l earlier)
              (bringing_thread brings.comes ∙ by_t) (brings_at brings);
        }

  -- ---- the two places

  module _ (p t : ℕ) (store : Issue part p) where
    -- the first place is one behind an event, and that has its number
    first_at :
        (from : ℕ) → FirstPlace part p t from
        → (e : ℕ) × (suc e ≡ from) × FirstPlace whole (there p) t (suc (there e))
    first_at from (windows.own is_own) = (p, refl, windows.own (is_own ∙ sym (store_thread store)))
    first_at from (windows.brought l differs it) = (
      l,
      refl,
      windows.brought (there l) (λ is_own. differs (is_own ∙ store_thread store)) (first_brings_at p t l it),
    )

    first_kept :
        (from : ℕ) → FirstPlace whole (there p) t from
        → (e : ℕ) × (suc (there e) ≡ from) × FirstPlace part p t (suc e)
    first_kept from (windows.own is_own) = (p, refl, windows.own (is_own ∙ store_thread store))
    first_kept from (windows.brought l differs it) =
        let (e, is_l) = bringing_of l it.brings.comes in (
          e,
          rw is_l,
          windows.brought e (λ is_own. differs (is_own ∙ sym (store_thread store)))
              (first_brings_kept p t e (rw is_l it)),
        )

  module _ (q t : ℕ) where
    last_at : (e : ℕ) → LastPlace part q t e → LastPlace whole (there q) t (there e)
    last_at e it = record {
      by_t = store_thread it.store ∙ it.by_t;
      store = store_at_lem via it.store;
      order = at_or_before_at via it.order;
      none_later = λ n later by_t store order.
          let (m, is_n) = store_of n store in
          let store_there : Issue part m = store_kept (rw is_n store) in
          it.none_later m (number_lt via.stores e m (rw is_n later))
          (sym (store_thread store_there) ∙ rw is_n by_t) store_there (order_kept (rw is_n order));
    }

    last_kept : (e : ℕ) → LastPlace whole (there q) t (there e) → LastPlace part q t e
    last_kept e it =
        let store_here = store_kept it.store in
        record {
          by_t = sym (store_thread store_here) ∙ it.by_t;
          store = store_here;
          order = order_kept it.order;
          none_later = λ n later by_t store order.
              it.none_later (there n) (number_mono via.stores e n later) (store_thread store ∙ by_t)
              (store_at_lem via store) (at_or_before_at via order);
        }

  -- ---- the window

  module _ (p q : ℕ) (p_store : Issue part p) (q_store : Issue part q) where
    window_kept :
        (t from to : ℕ) → Window whole (there p) (there q) t from to → (a b : ℕ) × Window part p q t a b
    window_kept t from to it =
        let (a, is_from, starts) = first_kept p t p_store from it.starts in
        let (b, is_to) = store_of to it.ends.store in
        let order = it.in_order in (
          suc a,
          b,
          record {
            starts = starts;
            ends = last_kept q t b (rw is_to it.ends);
            in_order = number_lt via.stores a b (omega arith);
          },
        )

    window_at :
        (t : ℕ) (w : Places) → WindowIs part p q t w → WindowIs whole (there p) (there q) t (shifted_places there w)
    window_at t none no_window = λ from to it. let (a, b, kept) = window_kept t from to it in no_window a b kept
    window_at t (between from to) it =
        let (e, is_from, starts) = first_at p t p_store from it.starts in
        let is_e : from - 1 ≡ e = omega arith in
        let order = it.in_order in
        rw is_e
        (record {
          starts = starts;
          ends = last_at q t to it.ends;
          in_order = number_mono via.stores e to (omega arith);
        })

    window_of_at : (t : ℕ) → window_of whole (there p) (there q) t ≡ shifted_places there (window_of part p q t)
    window_of_at t =
        window_unique whole (there p) (there q) t _ _
        (window_is whole (there p) (there q) t (store_at_lem via p_store) (store_at_lem via q_store))
        (window_at t (window_of part p q t) (window_is part p q t p_store q_store))

    -- ---- the fault

    -- GAPS MOVE NO FAULT, APART FROM EVENT NUMBERS
    pub fault_at : fault_of whole (there p) (there q) ≡ shifted_fault there (fault_of part p q)
    unfolding fault_of
    fault_at =
        rw (
          number_eqb via.stores p q,
          store_thread p_store,
          store_location p_store,
          store_location q_store,
          each_thread,
        )
        (by_kind (λ k. k) (shifted_fault there) refl refl (eqb p q) (eqb (line part p) (line part q)) _ _ refl)
      where
        here : List Places
        here = tabulate 8 (window_of part p q)

        each_thread : tabulate 8 (window_of whole (there p) (there q)) ≡ map (shifted_places there) here
        each_thread =
            tabulate_same 8 _ _ (λ t below. window_of_at t)
            ∙ sym (tabulate_map (shifted_places there) 8 (window_of part p q))
