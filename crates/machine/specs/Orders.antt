-- How two stores stand, read off their rows.
use Rattle.std.specs.Prelude.{ℕ, Bool, false, not, List, eqb, ltb}
use Rattle.record.specs.Tests.{◌gives◌else◌}
use Rattle.model.specs.declared.Order.{Order}
use Rattle.model.specs.declared.Order.TheVariants.{Before, After, Same, Neither}
use Rattle.area.specs.Cells.{get_row, covers_w}

-- event p is a store, one of events 1 to n
abbrev pub store_w : List ℕ → ℕ → ℕ → Bool
store_w l n p = eqb p 0 gives false else ltb n p gives false else not (eqb (get_row l p 10) 0)

-- how store p stands to store q
abbrev pub order_w : List ℕ → ℕ → ℕ → Order
order_w l p q =
    eqb p q gives Same else
    covers_w l p q gives Before else
    covers_w l q p gives After else
    Neither
