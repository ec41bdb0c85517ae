-- What the rows of two stores say of their cache lines: a store's row holds its location.
use Prim.Native.Nat.{ℕ, ◌<◌}
use mathlib.Core.Path.{◌≡◌, refl}
use mathlib.Core.List.{List}
use lib.Dec.{eqb}
use Rattle.record.specs.declared.events.Event.{Event}
use Rattle.model.specs.Trace.{line, Issue}
use Rattle.area.specs.Cells.{one_line_w}
use Rattle.area.specs.Rows.{Rows}

pub one_line_is :
    (ev : ℕ → Event) (N : ℕ) (l : List ℕ) → Rows ev N l → (p q : ℕ) → p < N → Issue ev p → q < N → Issue ev q
    → one_line_w l p q ≡ eqb (line ev p) (line ev q)
one_line_is ev N l rows p q p_early p_store q_early q_store =
    rw ((rows.stores p p_early p_store).location_is, (rows.stores q q_early q_store).location_is) refl
