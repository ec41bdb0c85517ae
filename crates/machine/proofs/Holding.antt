-- The regions under a checksum, from event n to the next. A thread that stays open goes on holding what it held, by the
-- same rows; a crossing load of it in no skip is held in front of these.
-- In order: the rows of held loads; events that are no load; a load.
use mathlib.Core.Path.{◌≡◌, sym, ◌∙◌}
use mathlib.Core.Bool.{true, false, ◌&&◌}
use mathlib.Core.List.{List, [], ◌∷◌}
use mathlib.Core.Logic.{◌⊎◌, inl, inr, ◌≢◌}
use Prim.Native.Nat.{ℕ, suc, ◌≤◌, ◌<◌}
use native.Mathlib.Omega.{arith}
use lib.Dec.{eqb}
use Rattle.record.specs.declared.events.Event.{Event}
use Rattle.model.specs.Search.{any, member}
use Rattle.model.specs.Trace.{thread, load?, crash?, open?, close?, Load}
use Rattle.model.specs.Machine.{countable, held}
use Rattle.model.proofs.Searching.{false_true, same?, or_left, or_right, eqb_same}
use Rattle.model.proofs.Acceptance.{countable_crosses, begins}
use Rattle.model.proofs.Roles.{begin_no_load}
use Rattle.model.proofs.Unchanged.{opened_away, opened_crash}
use Rattle.model.proofs.Holding.{held_is, held_else}
use Rattle.area.specs.Cells.{get_row}
use Rattle.area.specs.Rows.{HeldRow, HeldLinked}
use Rattle.machine.specs.declared.regions.Region.{Region}
use Rattle.machine.specs.Regions.{region_of, closed}
use Rattle.machine.specs.Sim.{Limits, InRegion, Regions}
use Rattle.machine.proofs.Keep.{Spares, spares}

module _ (ev : ℕ → Event) where
  -- ---- the rows of held loads

  -- the row of load e holds in l' what it held in l
  abbrev pub StillHeld : List ℕ → List ℕ → ℕ → Type 0
  StillHeld l l' e = (HeldRow ev l e → HeldRow ev l' e) × (get_row l' e 15 ≡ get_row l e 15)

  -- so do rows whose columns are as they were, but for column 12
  pub still_held :
      (l l' : List ℕ) (e : ℕ) → ((k : ℕ) → k < 16 → k ≢ 12 → get_row l' e k ≡ get_row l e k) → StillHeld l l' e
  still_held l l' e same = (
    λ row. record {
      some_load = row.some_load;
      location_is = same 9 (omega arith) (λ is. omega arith) ∙ row.location_is;
      source_is = same 13 (omega arith) (λ is. omega arith) ∙ row.source_is;
      head_is = same 14 (omega arith) (λ is. omega arith) ∙ row.head_is;
    },
    same 15 (omega arith) (λ is. omega arith),
  )

  pub held_same :
      (l l' : List ℕ) (h : ℕ) (es : List ℕ) → ((e : ℕ) → member e es ≡ true → StillHeld l l' e)
      → HeldLinked ev l h es → HeldLinked ev l' h es
  unfolding any
  held_same l l' h [] same links = links
  held_same l l' h (e ∷ es) same (is_e, row, links) =
      let here = same e (or_left (eqb e e) _ (eqb_same e)) in (
        is_e,
        here.0 row,
        rw here.1
            (held_same l l' (get_row l e 15) es (λ i there. same i (or_right (eqb i e) _ there)) links),
      )

  module _ (n : ℕ) (limits : Limits ev n) where
    -- a load that is held before event n is an earlier event, and not the begin
    pub held_early : (t e : ℕ) → member e (held ev n t) ≡ true → (1 ≤ e) × (e < n) × Load ev e
    held_early t e there =
        let it = held_is ev n t e there in
        let loads = (countable_crosses ev e it.is_countable).loads in
        let not_first : e ≢ 0 =
        λ is_0.
        false_true
        (sym (begin_no_load ev 0 (begins ev n limits.accepted limits.begun))
        ∙ rw is_0 at loads.test)
        in
        (omega arith, it.early, loads)

    module _ (l l' : List ℕ) where
      -- the rows of earlier loads are as they were, but for column 12
      abbrev pub RowsStay : Type 0
      RowsStay = (e k : ℕ) → 1 ≤ e → e < n → Load ev e → k < 16 → k ≢ 12 → get_row l' e k ≡ get_row l e k

      module _ (rows : RowsStay) where
        pub held_there : (t h : ℕ) → HeldLinked ev l h (held ev n t) → HeldLinked ev l' h (held ev n t)
        held_there t h =
            held_same l l' h (held ev n t)
            (λ e there.
            let (from_one, early, loads) = held_early t e there in
            still_held l l' e (λ k. rows e k from_one early loads))

        -- ---- a thread of which the event is no open, no close and no load to be held

        pub region_keep :
            (t : ℕ) (r : Region) → crash? ev n ≡ false → Spares ev n (open? ev) t → Spares ev n (close? ev) t
            → (countable ev n && eqb (thread ev n) t) ≡ false → InRegion ev n t r l → InRegion ev (suc n) t r l'
        region_keep t r no_crash no_open no_close other region =
            let stays = opened_away ev n t no_crash no_open no_close in
            record {
              opened_is = region.opened_is ∙ sym stays;
              held_are = λ is_open.
                  rw (held_else ev n t is_open other)
                  (held_there t r.newest (region.held_are (sym stays ∙ is_open)));
            }

  -- ---- an event that is no load, open or close

  no_load_other : (n t : ℕ) → load? ev n ≡ false → (countable ev n && eqb (thread ev n) t) ≡ false
  unfolding countable
  no_load_other n t no_load = rw no_load

  pub regions_keep :
      (n : ℕ) (tables tables' l l' : List ℕ) → (limits : Limits ev n) → crash? ev n ≡ false → load? ev n ≡ false
      → open? ev n ≡ false → close? ev n ≡ false
      → ((t : ℕ) → t < 8 → region_of tables' t ≡ region_of tables t) → RowsStay n limits l l'
      → Regions ev n tables l → Regions ev (suc n) tables' l'
  regions_keep n tables tables' l l' limits no_crash no_load no_open no_close same rows regions t few =
      rw (same t few)
      (region_keep n limits l l' rows t (region_of tables t) no_crash
      (spares ev n (open? ev) no_open t) (spares ev n (close? ev) no_close t) (no_load_other n t no_load)
      (regions t few))

  -- a crash closes them all
  pub region_crash : (n t : ℕ) (l : List ℕ) → crash? ev n ≡ true → InRegion ev (suc n) t closed l
  region_crash n t l crash = record {
    opened_is = sym (opened_crash ev n t crash);
    held_are = λ is_open. false_true (sym (opened_crash ev n t crash) ∙ is_open);
  }

  -- ---- an open or a close changes the region of its thread alone

  pub regions_with :
      (n : ℕ) (tables tables' l l' : List ℕ) → (limits : Limits ev n) → crash? ev n ≡ false → load? ev n ≡ false
      → ((t : ℕ) → t < 8 → thread ev n ≢ t → region_of tables' t ≡ region_of tables t)
      → RowsStay n limits l l' → InRegion ev (suc n) (thread ev n) (region_of tables' (thread ev n)) l'
      → Regions ev n tables l → Regions ev (suc n) tables' l'
  regions_with n tables tables' l l' limits no_crash no_load same rows own regions t few =
      own_or_other (same? (thread ev n) t)
    where
      own_or_other : (thread ev n ≡ t) ⊎ (thread ev n ≢ t) → InRegion ev (suc n) t (region_of tables' t) l'
      own_or_other (inl is_own) = rw (← is_own) own
      own_or_other (inr other) =
          rw (same t few other)
          (region_keep n limits l l' rows t (region_of tables t) no_crash (λ _. other) (λ _. other)
          (no_load_other n t no_load) (regions t few))
