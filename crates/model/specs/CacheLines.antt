-- Stores on one cache line: document 02, job 5. "Stores on one cache line reach memory in commit order, so asking for a
-- flush between them misleads the reader." Here are two stores in commit order, and a memory of which no more is known
-- than this sentence.
use Rattle.std.specs.Prelude.{ℕ, ◌<◌, ◌≡◌, Bool, true, false, ◌≢◌}
use Rattle.record.specs.declared.events.Event.{Event}
use Rattle.model.specs.Trace.{line, Issue, stretch}
use Rattle.model.specs.Machine.{commit_of}
use Rattle.model.specs.Choice.{Observed, Forbidden}

module _ (ev : ℕ → Event) (N : ℕ) where
  -- stores p and q are committed among the first N events, in one stretch, and p first: "the order of commits is the
  -- stretch's store order"; 0 is no commit
  pub record CommittedFirst (p q : ℕ) : Type 0 where
    pub p_store : Issue ev p
    pub q_store : Issue ev q
    pub one_stretch : stretch ev p ≡ stretch ev q
    pub is_committed : commit_of ev N p ≢ 0
    pub first : commit_of ev N p < commit_of ev N q

  -- A memory is told by which stores reached it before the crash that finished their stretch. "Stores on one cache line
  -- reach memory in commit order": with a store, all did that were committed before it on its line, in its stretch
  abbrev pub LinesInOrder : (ℕ → Bool) → Type 0
  LinesInOrder reached =
      (p q : ℕ) → line ev p ≡ line ev q → CommittedFirst p q → reached q ≡ true → reached p ≡ true

  -- the counted loads were read from it: every observed store reached it, and no forbidden one
  pub record ReadFrom (reached : ℕ → Bool) : Type 0 where
    pub observed_reached : (s : ℕ) → Observed ev N s → reached s ≡ true
    pub forbidden_not : (p : ℕ) → Forbidden ev N p → reached p ≡ false
