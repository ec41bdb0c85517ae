-- Demand 3 as a relation over all choices: what the judge's answer to an accepted trace, and the cut buffer afterwards,
-- claim. "the verdict is broken exactly when no choice of crash points explains the loads, and robust otherwise."
use Rattle.std.specs.Prelude.{ℕ, suc, ◌-◌, ◌<◌, ◌≡◌, Bool, ◌≢◌, List, length, get_or}
use Rattle.record.specs.declared.events.Event.{Event}
use Rattle.model.specs.Trace.{thread, line}
use Rattle.model.specs.HappensBefore.{Before}
use Rattle.model.specs.Choice.{Choice, finished, Least, Broken}
use Rattle.model.specs.CacheLines.{CommittedFirst, LinesInOrder, ReadFrom}
use Rattle.model.specs.Windows.{Places, none, between, WindowIs, BringsItself}
use Rattle.model.specs.Answers as answers

-- what a broken answer's kind, with missing p and observed q, claims: document 02, jobs 1, 2 and 5
module _ (ev : ℕ → Event) (p q : ℕ) where
  -- of a flush fault
  pub record FlushClaims (primary : ℕ) (windows : List Places) : Type 0 where
    pub differ : p ≢ q
    pub two_lines : line ev p ≢ line ev q
    -- "p's thread is marked primary"
    pub primary_is : primary ≡ thread ev p
    -- "Each thread gets its window, or none"
    pub threads_0_to_7 : length windows ≡ 8
    pub each : (t : ℕ) → t < 8 → WindowIs ev p q t (get_or windows t none)
    -- "if q's own record is the load that first brings p to its thread, that thread has no window"
    pub observed_none : BringsItself ev p q → get_or windows (thread ev q) none ≡ none
    -- "The thread of q must always have one", but for that
    pub observed_has : ¬ BringsItself ev p q → (from to : ℕ) × (get_or windows (thread ev q) none ≡ between from to)
    -- whichever it is, some thread has one, since the two stores are on two lines
    pub some_has : (t from to : ℕ) × (t < 8) × (get_or windows t none ≡ between from to)

-- likewise, by the first n events
module _ (ev : ℕ → Event) (n p q : ℕ) where
  -- of "A broken pair on one line"
  pub record ImpossibleClaims : Type 0 where
    pub differ : p ≢ q
    pub one_line : line ev p ≡ line ev q
    -- "Stores on one cache line reach memory in commit order", and missing was committed before observed
    pub committed_first : CommittedFirst ev n p q
    -- so what was read comes from no memory that keeps this order, whatever was flushed
    pub no_memory : (reached : ℕ → Bool) → LinesInOrder ev n reached → ¬ ReadFrom ev n reached

  abbrev pub FaultClaims : answers.Fault → Type 0
  -- "Contradictions have none."
  FaultClaims answers.contradiction = p ≡ q
  FaultClaims (answers.flush primary windows) = FlushClaims ev p q primary windows
  -- "It has no windows."
  FaultClaims answers.impossible = ImpossibleClaims

module _ (ev : ℕ → Event) (N : ℕ) (lent after : List ℕ) where
  abbrev pub Claims : answers.Answer → Type 0
  -- an accepted trace, with buffers of the right size, is not refused
  Claims (answers.refused number event) = ⊥
  -- "Robust fills the cut buffer with the least such choice"; so it does for a trace of no records, N = 0
  Claims (answers.robust events share) =
      (c : Choice) × Least ev N c × (after ≡ answers.cut_of c)
      × (events ≡ N - 1) × (share ≡ answers.share_of c (finished ev N))
  -- "Broken leaves that buffer as lent and names the first event [..]; and [..] a store that a counted load forbids and
  -- an observed store which is that store or happens after it"; the kind is claimed of "those records", up to load
  Claims (answers.broken events load missing observed kind) =
      Broken ev N load missing observed × (after ≡ lent)
      × (events ≡ N - 1) × FaultClaims ev (suc load) missing observed kind

-- what the order query's answer about the stores p and q claims, by happens-before itself
abbrev pub Stands : (ℕ → Event) → ℕ → ℕ → answers.Standing → Type 0
Stands ev p q (answers.refused number event) = ⊥
Stands ev p q answers.before = Before ev p q
Stands ev p q answers.after = Before ev q p
Stands ev p q answers.same = p ≡ q
Stands ev p q answers.neither = (p ≢ q) × (Before ev p q → ⊥) × (Before ev q p → ⊥)
