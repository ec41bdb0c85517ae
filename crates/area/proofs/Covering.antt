-- What the rows of two stores say of their order: a store's clock for its own thread is one more than its place, so the
-- rows' test is the clocks' (`covers_is`), and that one is happens-before; of a load's or wait's source in the store's
-- stretch it is the clock's alone (`source_covers_is`). An event that is no store has no stretch in
-- its row, so no store's row is of the same one (`other_stretch`).
use Prim.Native.Nat.{ℕ, ◌≤◌, ◌<◌}
use native.Mathlib.Omega.{arith}
use mathlib.Core.Path.{◌≡◌, refl, sym, ap₂, ◌∙◌}
use mathlib.Core.Bool.{false, ◌&&◌}
use mathlib.Core.Logic.{◌≢◌}
use mathlib.Core.List.{List}
use lib.Dec.{eqb, ltb}
use borrow.Author.Tests.{eq-eqb}
use Rattle.record.specs.declared.events.Event.{Event}
use Rattle.model.specs.Trace.{thread, source, issue?, Issue, stretch, place}
use Rattle.model.specs.Rules.{Accepted}
use Rattle.model.specs.Clocks.{vc, covers?}
use Rattle.model.proofs.ClockSteps.{Meets, loads_store, waits_signal, vc_own}
use Rattle.model.proofs.Ranges.{issue_has_thread, thread_bound}
use Rattle.model.proofs.StorePlaces.{stretch_some}
use Rattle.area.specs.Cells.{get_row, clock_covers_w, covers_w}
use Rattle.area.specs.Rows.{Rows}

-- the row of what a load reads, or a wait waits for, holds its clock
pub source_clock :
    (ev : ℕ → Event) (N : ℕ) (l : List ℕ) → Rows ev N l → (n : ℕ) → Meets ev n → source ev n < N
    → (u : ℕ) → u < 8 → get_row l (source ev n) u ≡ vc ev (source ev n) u
source_clock ev N l rows n (loads_store loads store) early = (rows.stores (source ev n) early store).clock_is
source_clock ev N l rows n (waits_signal waits signal) early = (rows.signals (source ev n) early signal).clock_is

module _ (ev : ℕ → Event) (N : ℕ) (accepted : Accepted ev N) (l : List ℕ) (rows : Rows ev N l) where
  -- the clock of event q, for the thread of store p: what its row's columns 0 to 7 hold
  clock_covers_is :
      (p q : ℕ) → p < N → Issue ev p → ((u : ℕ) → u < 8 → get_row l q u ≡ vc ev q u)
      → clock_covers_w l p q ≡ ltb (place ev p) (vc ev q (thread ev p))
  clock_covers_is p q p_early p_store q_clock =
      let p_row = rows.stores p p_early p_store in
      let few = thread_bound ev N accepted p p_early (issue_has_thread ev p_store) in
      rw (
        p_row.thread_is,
        p_row.clock_is (thread ev p) few,
        vc_own ev p (thread ev p) p_store refl,
        q_clock (thread ev p) few,
      )
      refl

  pub covers_is :
      (p q : ℕ) → p < N → Issue ev p → q < N → Issue ev q → covers_w l p q ≡ covers? ev p q
  covers_is p q p_early p_store q_early q_store =
      let p_row = rows.stores p p_early p_store in
      let q_row = rows.stores q q_early q_store in
      let one_stretch : eqb (get_row l p 10) (get_row l q 10) ≡ eqb (stretch ev p) (stretch ev q) =
      rw (p_row.stretch_is, q_row.stretch_is) refl
      in
      ap₂ ◌&&◌ one_stretch (clock_covers_is p q p_early p_store q_row.clock_is)

  -- so in one stretch the clock alone says it, of a store that is loaded from and of a signal that is waited for
  pub source_covers_is :
      (p n : ℕ) → p < N → Issue ev p → Meets ev n → source ev n < N → stretch ev p ≡ stretch ev (source ev n)
      → clock_covers_w l p (source ev n) ≡ covers? ev p (source ev n)
  source_covers_is p n p_early p_store meets early in_stretch =
      clock_covers_is p (source ev n) p_early p_store (source_clock ev N l rows n meets early)
      ∙ sym (rw (eq-eqb (stretch ev p) (stretch ev (source ev n)) in_stretch) refl)

  pub other_stretch :
      (n p : ℕ) → 1 ≤ n → n < N → issue? ev n ≡ false → p < N → Issue ev p → get_row l n 10 ≢ get_row l p 10
  other_stretch n p from_1 n_early no_store_lem p_early p_store same =
      omega (
        arith,
        same,
        rows.others n from_1 n_early no_store_lem,
        (rows.stores p p_early p_store).stretch_is,
        stretch_some ev p,
      )
