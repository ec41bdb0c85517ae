-- What an event does to the tables that meets its source, a load from a store of its stretch or a wait for a signal of
-- it: the clock in the source's row joins what its thread has seen, and nothing else changes (`met`).
-- In order: what a load or a wait leaves of the tables; what threads have seen; the tables.
use mathlib.Core.Path.{◌≡◌, sym, ap, ◌∙◌}
use mathlib.Core.List.{List}
use mathlib.Core.Logic.{◌⊎◌, inl, inr, ◌≢◌}
use Prim.Native.Nat.{ℕ, suc, ◌+◌, ◌*◌, ◌%◌, ◌<◌, max}
use native.Mathlib.Omega.{arith}
use lib.ListN.{length, get_or}
use Rattle.record.specs.declared.events.Event.{Event}
use Rattle.model.specs.Trace.{thread, source, stretch}
use Rattle.model.specs.Clocks.{seen}
use Rattle.model.proofs.Searching.{same?}
use Rattle.model.proofs.ClockSteps.{Meets, meets_no_crash}
use Rattle.model.proofs.Unchanged.{seen_away, seen_from_lem}
use Rattle.area.specs.Cells.{row_start, get_row, joined}
use Rattle.area.proofs.Covering.{source_clock}
use Rattle.area.proofs.Joins.{joined_size, joined_leaves, joined_there}
use Rattle.machine.specs.Tables.{thread_cell}
use Rattle.machine.specs.Threads.{of_thread}
use Rattle.machine.specs.Twin.{World}
use Rattle.machine.specs.Sim.{Seen, Sources, Sim}
use Rattle.machine.specs.Regions.{region_of}
use Rattle.machine.proofs.Storing.{Same, Elsewhere}
use Rattle.machine.proofs.TableLaws.{region_same}
use Rattle.machine.proofs.Keep.{sources_keep}

-- a column of a row, by its position
column_at : (l : List ℕ) (e u : ℕ) → u < 16 → get_or l (row_start e + u) 0 ≡ get_row l e u
unfolding get_row
column_at l e u low = let same : u % 16 ≡ u = omega arith in rw same

module _ (ev : ℕ → Event) (n : ℕ) (w : World) where
  -- ---- what a load or a wait leaves of the tables, and how it changes the others

  pub record Brought (tables' : List ℕ) : Type 0 where
    pub size : length tables' ≡ 3008
    pub threads_same : (u : ℕ) → u < 8 → Same (16 * u + 8) (16 * u + 13) w.tables tables'
    pub seen_are : Seen ev (suc n) tables'
    pub sources : Sources ev (suc n) tables'
    pub heads_same : Same 128 384 w.tables tables'
    pub rest_same : Same 640 3008 w.tables tables'

module _
    (ev : ℕ → Event) (n : ℕ) (w : World) (sim : Sim ev n w) (meets : Meets ev n) (early : source ev n < n)
    (in_stretch : stretch ev (source ev n) ≡ stretch ev n) (few : thread ev n < 8) where
  abbrev t : ℕ
  t = thread ev n

  abbrev s : ℕ
  s = source ev n

  abbrev tables : List ℕ
  tables = w.tables

  -- ---- what threads have seen

  -- the clock in the source's row joins what the event's own thread has seen; to other threads nothing comes
  seen_met :
      (tables' : List ℕ)
      → ((u : ℕ) → u < 8 → of_thread tables' t u ≡ max (of_thread tables t u) (get_row w.work s u))
      → ((v : ℕ) → v < 8 → t ≢ v → Same (16 * v) (16 * v + 8) tables tables') → Seen ev (suc n) tables'
  seen_met tables' joins leaves v u few_v few_u = own_or_other (same? t v)
    where
      own_or_other : (t ≡ v) ⊎ (t ≢ v) → of_thread tables' v u ≡ seen ev (suc n) v u
      own_or_other (inl own) =
          rw (
            ← own,
            joins u few_u,
            sim.seen_are t u few few_u,
            source_clock ev n w.work sim.rows n meets early u few_u,
          )
          (sym (seen_from_lem ev n u meets early in_stretch))
      own_or_other (inr other) =
          leaves v few_v other (16 * v + u) (omega arith) (omega arith) ∙ sim.seen_are v u few_v few_u
          ∙ sym (seen_away ev n v u (meets_no_crash ev meets).0 (λ _ same. other same))

  -- ---- the tables

  abbrev met_tables : List ℕ
  met_tables = joined 8 w.work s (thread_cell t 0) tables

  leaves : Elsewhere (16 * t) (16 * t + 8) tables met_tables
  leaves i outside =
      joined_leaves w.work s (thread_cell t 0) tables 8 i (λ low high. outside (omega arith) (omega arith))

  pub met : Brought ev n w met_tables
  met = record {
    size = joined_size w.work s (thread_cell t 0) tables 8 ∙ sim.size;
    threads_same = λ u few_u i from_8 below. leaves i (λ low high. omega arith);
    seen_are =
        seen_met met_tables
        (λ u few_u.
        let at : thread_cell t u ≡ thread_cell t 0 + u = omega arith in
        rw (at, joined_there w.work s (thread_cell t 0) tables 8 u (omega (arith, few, sim.size)) few_u)
        (ap (max (get_or tables (thread_cell t 0 + u) 0)) (column_at w.work s u (omega arith))))
        (λ v few_v other i low high. leaves i (λ low' high'. other (omega arith)));
    sources =
        sources_keep ev n tables met_tables (λ i low high. leaves i (λ low' high'. omega (arith, few))) sim.sources;
    heads_same = λ i low high. leaves i (λ low' high'. omega (arith, few));
    rest_same = λ i low high. leaves i (λ low' high'. omega (arith, few));
  }

  -- the regions are in other columns
  pub met_regions : (u : ℕ) → u < 8 → region_of met_tables u ≡ region_of tables u
  met_regions u few_u = region_same tables met_tables u (λ i from below. leaves i (λ low high. omega arith))
