-- What the marks say after n events. While no pair is found (`Unbroken`), they say what the definitions say of the
-- first n events. Behind a counted load that breaks the trace (`BrokenAt`) they stay those of the events up to it.
use Rattle.std.specs.Prelude.{ℕ, suc, ◌+◌, ◌*◌, ◌≤◌, ◌<◌, ◌≡◌, Bool, true, false, ◌≢◌, List, length, Some, None}
use Rattle.record.specs.declared.events.Event.{Event}
use Rattle.model.specs.Search.{bit, member}
use Rattle.model.specs.Trace.{thread, stretch, place}
use Rattle.model.specs.Rules.{Accepted}
use Rattle.model.specs.Choice.{Choice}
use Rattle.model.specs.Verdict.{observed?, bad?, closure}
use Rattle.model.specs.Stores.{head_of, passed, landed, marked?}
use Rattle.marks.specs.declared.cells.Marks.{Marks}
use Rattle.marks.specs.Marks.{flag_in, cut_in, low_in, last_in, source_in}

-- walks along the stores ps have come to s: those before s are in F, and s, if it is not 0, is one of ps and in O
pub record Reached (F O : ℕ → Bool) (ps : List ℕ) (s : ℕ) : Type 0 where
  pub marked : (p : ℕ) → passed s p ps ≡ true → F p ≡ true
  pub observed : s ≢ 0 → O s ≡ true
  pub stands : s ≢ 0 → member s ps ≡ true

module _ (ev : ℕ → Event) where
  -- m is one more than the place of a store of F in stretch j and thread t
  pub record PlaceOf (F : ℕ → Bool) (j t m : ℕ) : Type 0 where
    pub p : ℕ
    pub in_f : F p ≡ true
    pub in_j : stretch ev p ≡ j
    pub by_t : thread ev p ≡ t
    pub is_it : m ≡ suc (place ev p)

  -- m is one more than a place that is not above store p's
  pub record AtMost (m p : ℕ) : Type 0 where
    pub some : 1 ≤ m
    pub at_most : m ≤ suc (place ev p)

  -- the flags say which stores are forbidden (F) and observed (O), the cut is a choice (C), the lowest places are those
  -- of F; no flag is of the last event that a trace can have
  pub record Says (F O : ℕ → Bool) (C : Choice) (m : Marks) : Type 0 where
    pub cut_size : length m.cut ≡ 64
    pub low_size : length m.low ≡ 64
    pub last_size : length m.last ≡ 256
    pub source_size : length m.source ≡ 256
    pub flags_size : length m.flags ≡ 2048
    pub flags : (e : ℕ) → e ≤ 2048 → flag_in m.flags e ≡ bit (F e) + 2 * bit (O e)
    pub cuts : (j t : ℕ) → 1 ≤ j → j ≤ 7 → t < 8 → cut_in m j t ≡ C j t
    pub lows :
        (j t : ℕ) → 1 ≤ j → j ≤ 7 → t < 8 → low_in m j t ≢ 0
        → PlaceOf F j t (low_in m j t)
    pub lowest :
        (j t : ℕ) → 1 ≤ j → j ≤ 7 → t < 8 → (p : ℕ) → F p ≡ true → stretch ev p ≡ j → thread ev p ≡ t
        → AtMost (low_in m j t) p

  -- they say what the first n events forbid of the committed stores, observe and take into the closure
  abbrev pub Judging : ℕ → Marks → Type 0
  Judging n m = Says (marked? ev n) (observed? ev n) (closure ev n) m

  -- what is noted at location x: the head of the location's chain when k events had been, and a source that walks
  -- along that chain have come to
  pub record Noted (n x : ℕ) (F O : ℕ → Bool) (m : Marks) : Type 0 where
    pub k : ℕ
    pub early : k ≤ n
    pub last_is : last_in m x ≡ head_of (landed ev k x)
    pub reached : Reached F O (landed ev k x) (source_in m x)

  abbrev pub Loads : ℕ → (ℕ → Bool) → (ℕ → Bool) → Marks → Type 0
  Loads n F O m = (x : ℕ) → x < 256 → Noted n x F O m

  -- while no pair is found
  pub record Unbroken (n : ℕ) (m : Marks) : Type 0 where
    pub judging : Judging n m
    pub no_pair : bad? ev n ≡ false
    pub loads : Loads n (marked? ev n) (observed? ev n) m

  -- behind the first load that breaks
  pub record BrokenAt (load : ℕ) (m : Marks) : Type 0 where
    pub accepted : Accepted ev (suc load)
    pub no_pair_before : bad? ev load ≡ false
    pub pair : bad? ev (suc load) ≡ true
    pub judging : Judging (suc load) m

  -- after n events: while no load broke the trace, and then
  pub record MarksMatch (n : ℕ) (m : Marks) : Type 0 where
    pub none_yet : m.broken ≡ None → Unbroken n m
    pub early : (load : ℕ) → m.broken ≡ Some load → load < n
    pub broken_at : (load : ℕ) → m.broken ≡ Some load → BrokenAt load m
