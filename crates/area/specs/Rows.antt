-- What the rows of stores and signals hold after n events. A store's row holds, by column: 0 to 7 its vector clock; 8
-- its thread; 9 its location; 10 its stretch (0: the event is no store); 12 the next store of its thread in the
-- stretch; once it is committed, 13 where the row of its commit begins and 14 the store committed before it at its
-- location. A signal's row holds in 0 to 7 its vector clock, and in 11 its stretch (0: the event is no signal). A held
-- load's row holds in 9 its location, in 13 its source, in 14 the last store committed at its location before it, and
-- in 15 the load that its thread held before it; a locked operation is a store too, of the same location and link. Of
-- any other event only columns 10 and 11 are written. A row is written when its event comes, and nothing is said of the
-- rows of events to come.
use Rattle.std.specs.Prelude.{ℕ, ◌≤◌, ◌<◌, ◌≡◌, false, ◌≢◌, List, [], ◌∷◌, length}
use Rattle.record.specs.declared.events.Event.{Event}
use Rattle.model.specs.Trace.{thread, location, source, issue?, signal?, Issue, Signal, stretch}
use Rattle.model.specs.Clocks.{vc}
use Rattle.model.specs.Stores.{head_of, landed}
use Rattle.area.specs.Cells.{get_row, committed_at}

-- the links of column 14 from store h on spell the list, and 0 at its end
abbrev pub Linked : List ℕ → ℕ → List ℕ → Type 0
Linked l h [] = h ≡ 0
Linked l h (p ∷ ps) = (h ≡ p) × Linked l (get_row l p 14) ps

-- the stores of the list were committed one before the other, and the first of them before row b begins
abbrev pub Falls : List ℕ → ℕ → List ℕ → Type 0
Falls l b [] = 0 ≤ b
Falls l b (p ∷ ps) = (committed_at l p < b) × Falls l (committed_at l p) ps

module _ (ev : ℕ → Event) where
  -- the row of store p
  pub record StoreRow (l : List ℕ) (p : ℕ) : Type 0 where
    pub clock_is : (u : ℕ) → u < 8 → get_row l p u ≡ vc ev p u
    pub thread_is : get_row l p 8 ≡ thread ev p
    pub location_is : get_row l p 9 ≡ location ev p
    pub stretch_is : get_row l p 10 ≡ stretch ev p

  -- the row of signal s
  pub record SignalRow (l : List ℕ) (s : ℕ) : Type 0 where
    pub clock_is : (u : ℕ) → u < 8 → get_row l s u ≡ vc ev s u
    pub stretch_is : get_row l s 11 ≡ stretch ev s

  -- the row of held load e
  pub record HeldRow (l : List ℕ) (e : ℕ) : Type 0 where
    pub some_load : e ≢ 0
    pub location_is : get_row l e 9 ≡ location ev e
    pub source_is : get_row l e 13 ≡ source ev e
    pub head_is : get_row l e 14 ≡ head_of (landed ev e (location ev e))

  -- the links of column 15 from load h on spell the list of held loads, and 0 at its end
  abbrev pub HeldLinked : List ℕ → ℕ → List ℕ → Type 0
  HeldLinked l h [] = h ≡ 0
  HeldLinked l h (e ∷ es) = (h ≡ e) × HeldRow l e × HeldLinked l (get_row l e 15) es

  -- the rows of the first n events
  pub record Rows (n : ℕ) (l : List ℕ) : Type 0 where
    pub room : 32768 ≤ length l
    pub stores : (p : ℕ) → p < n → Issue ev p → StoreRow l p
    pub others : (p : ℕ) → 1 ≤ p → p < n → issue? ev p ≡ false → get_row l p 10 ≡ 0
    pub signals : (s : ℕ) → s < n → Signal ev s → SignalRow l s
    pub no_signals : (p : ℕ) → 1 ≤ p → p < n → signal? ev p ≡ false → get_row l p 11 ≡ 0
