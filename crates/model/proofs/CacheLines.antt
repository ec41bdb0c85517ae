-- A pair on one line (specs/CacheLines.antt): missing happens before observed, which is committed, so missing is
-- committed too, and earlier, in the same stretch. In a memory whose lines keep commit order it is then there wherever
-- observed is; but a counted load observes the one, and a counted load forbids the other.
use Prim.Native.Nat.{ℕ}
use native.Mathlib.Omega.{arith}
use mathlib.Core.Path.{◌≡◌, sym, ◌∙◌}
use mathlib.Core.Bool.{Bool}
use mathlib.Core.Logic.{◌≢◌}
use Rattle.record.specs.declared.events.Event.{Event}
use Rattle.model.specs.Trace.{line}
use Rattle.model.specs.HappensBefore.{Before}
use Rattle.model.specs.Machine.{commit_of}
use Rattle.model.specs.Rules.{Accepted}
use Rattle.model.specs.Choice.{Pair}
use Rattle.model.specs.CacheLines.{CommittedFirst, LinesInOrder, ReadFrom}
use Rattle.model.proofs.Searching.{false_true}
use Rattle.model.proofs.Acceptance.{first_is_no_store_no_commit}
use Rattle.model.proofs.Ordering.{before_first, before_stretch}
use Rattle.model.proofs.Committed.{Committed, commit_of_lem, before_committed}

module _ (ev : ℕ → Event) (N : ℕ) where
  module _ (accepted : Accepted ev N) where
    -- event 0 is no commit
    commit_not_0 : (p : ℕ) → Committed ev N p → commit_of ev N p ≢ 0
    commit_not_0 p committed is_0 =
        false_true
        (sym (first_is_no_store_no_commit ev N accepted (omega (arith, (commit_of_lem ev N p committed).inside))).1
        ∙ rw is_0 at (commit_of_lem ev N p committed).commits_it_lem.test)

    -- WHAT HAPPENS BEFORE A COMMITTED STORE IS COMMITTED FIRST, IN THEIR STRETCH
    pub committed_first : (p q : ℕ) → Before ev p q → Committed ev N q → CommittedFirst ev N p q
    committed_first p q before q_committed =
        let it = before_committed ev N accepted p q before q_committed in
        record {
          p_store = before_first ev before;
          q_store = before.store;
          one_stretch = before_stretch ev before;
          is_committed = commit_not_0 p it.committed;
          first = it.in_order;
        }

  -- A PAIR ON ONE LINE, COMMITTED IN THAT ORDER, WAS READ FROM NO MEMORY WHOSE LINES KEEP COMMIT ORDER
  pub no_memory :
      (p q : ℕ) → Pair ev N p q → line ev p ≡ line ev q → CommittedFirst ev N p q
      → (reached : ℕ → Bool) → LinesInOrder ev N reached → ¬ ReadFrom ev N reached
  no_memory p q pair one_line first reached in_order read =
      let observed = read.observed_reached q pair.observed in
      false_true (sym (read.forbidden_not p pair.missing) ∙ in_order p q one_line first observed)
