-- Choices of crash points, and what robust and broken mean: document 01, "Happens-before and the choice".
use Rattle.std.specs.Prelude.{ℕ, suc, ◌≤◌, ◌<◌, ◌≡◌, true, cond, ◌⊎◌, ◌≢◌, ltb}
use Rattle.record.specs.declared.events.Event.{Event}
use Rattle.model.specs.Trace.{thread, location, source, Issue, stretch, commits, place}
use Rattle.model.specs.Machine.{counts, commit_of}
use Rattle.model.specs.HappensBefore.{Before, AtOrBefore}

-- "A choice gives each finished stretch and thread a count (the thread's crash point)": stretch, then thread. The type
-- gives every pair of numbers a count; `fits` of `Explains` makes it 0 elsewhere
abbrev pub Choice : Type 0
Choice = ℕ → ℕ → ℕ

-- robust with its least choice; broken with load, missing and observed
pub data Ruling : Type 0 where
  robust : Choice → Ruling
  broken : ℕ → ℕ → ℕ → Ruling

module _ (ev : ℕ → Event) where
  -- "that many of its first stores are in"; "Intervals exclude their upper end."
  abbrev pub In : Choice → ℕ → Type 0
  In c p = place ev p < c (stretch ev p) (thread ev p)

  -- "a crash finishes it": the commits of a thread in a stretch that the first N events finish, and 0 in any other
  unfoldable pub finished : ℕ → Choice
  finished N j t = cond (ltb j (stretch ev N)) (commits ev N j t) 0

  -- "It is closed if each store before one that is in is in too." Of all numbers, but by `fits` of `Explains` only
  -- stores of finished stretches are in: `in_finished_stretch` of proofs/Prefixes.antt
  abbrev pub Closed : Choice → Type 0
  Closed c = (p q : ℕ) → Before ev p q → In c q → In c p

  -- load l counts, as of one of the first N events
  pub record Counted (N l : ℕ) : Type 0 where
    pub as_of : ℕ
    pub inside : as_of < N
    pub here : counts ev as_of l ≡ true

  -- "A counted load with source s observes s (unless s is 0)"; that it counts is said by `Counted`
  pub record Observes (l s : ℕ) : Type 0 where
    pub from : source ev l ≡ s
    pub some_store : s ≢ 0

  -- p is newer than l's source: "in a later stretch than s, or in s's stretch and committed after s; with source 0, all
  -- of them"
  abbrev pub Newer : ℕ → ℕ → Type 0
  Newer l p =
      (source ev l ≡ 0)
      ⊎ ((stretch ev (source ev l) < stretch ev p)
      ⊎ ((stretch ev (source ev l) ≡ stretch ev p) × (commit_of ev l (source ev l) < commit_of ev l p)))

  -- "and forbids every store to its location in earlier stretches that is" newer
  pub record Forbids (l p : ℕ) : Type 0 where
    pub store : Issue ev p
    pub to_it : location ev p ≡ location ev l
    pub earlier : stretch ev p < stretch ev l
    pub newer : Newer l p

  -- "The choice explains the load if the observed store is in and no forbidden one is."
  pub record ExplainsLoad (c : Choice) (l : ℕ) : Type 0 where
    pub observed_are_in : (s : ℕ) → Observes l s → In c s
    pub forbidden_out : (p : ℕ) → Forbids l p → In c p → ⊥

  -- the choice, "at most its commits there", is closed and explains all counted loads of the first N events; "One
  -- choice serves the whole trace"
  pub record Explains (N : ℕ) (c : Choice) : Type 0 where
    pub fits : (j t : ℕ) → c j t ≤ finished N j t
    pub closed : Closed c
    pub loads : (l : ℕ) → Counted N l → ExplainsLoad c l

  -- "Robust: a closed choice explains all counted loads."
  abbrev pub Robust : ℕ → Type 0
  Robust N = (c : Choice) × Explains N c

  -- "The least (every other such choice has at least its count at every place)"
  pub record Least (N : ℕ) (c : Choice) : Type 0 where
    pub explains : Explains N c
    pub least : (d : Choice) → Explains N d → (j t : ℕ) → c j t ≤ d j t

  -- some counted load of the first N events observes s, forbids p
  abbrev pub Observed : ℕ → ℕ → Type 0
  Observed N s = (l : ℕ) × Counted N l × Observes l s

  abbrev pub Forbidden : ℕ → ℕ → Type 0
  Forbidden N p = (l : ℕ) × Counted N l × Forbids l p

  -- "Missing is a store that some counted load of those records forbids, observed one that some counted load there
  -- observes, and they are equal or missing happens before observed"
  pub record Pair (N p q : ℕ) : Type 0 where
    pub missing : Forbidden N p
    pub observed : Observed N q
    pub order : AtOrBefore ev p q

  -- "Broken: no closed choice does. Load is the smallest event number for which records 0 to load, taken as a trace,
  -- have none either. [..] of all such pairs, the smallest missing, then the smallest observed event number." Those
  -- records are the first load + 1 events, whatever follows: `broken_as_trace` of proofs/TakenAsTrace.antt
  pub record Broken (N load missing observed : ℕ) : Type 0 where
    pub inside : load < N
    pub none : ¬ Robust N
    pub none_yet : ¬ Robust (suc load)
    pub first : (n : ℕ) → n ≤ load → Robust n
    pub pair : Pair (suc load) missing observed
    pub lowest : (p q : ℕ) → Pair (suc load) p q → missing ≤ p
    pub then_lowest : (q : ℕ) → Pair (suc load) missing q → observed ≤ q

  -- the ruling of the first N events is exact
  abbrev pub Exact : ℕ → Ruling → Type 0
  Exact N (robust c) = Least N c
  Exact N (broken load missing observed) = Broken N load missing observed
