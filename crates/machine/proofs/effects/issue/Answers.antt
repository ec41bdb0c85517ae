-- A queue that is not empty keeps its oldest store.
use mathlib.Core.Path.{◌≡◌, refl}
use mathlib.Core.List.{List}
use Prim.Native.Nat.{ℕ}
use borrow.Author.Tests.{ne_eqb}
use Rattle.machine.specs.Threads.{first_of, issued_t, thread_of, of_thread, KeepsOldest}
use Rattle.machine.specs.declared.threads.Thread.{Thread}
use Rattle.machine.proofs.effects.issue.Goals as goal

issue_keeps :
    (tables : List ℕ) (t e : ℕ) (old new : Thread) → old ≡ thread_of tables t → new ≡ issued_t old e
    → KeepsOldest tables t new.oldest
unfolding thread_of issued_t first_of
issue_keeps tables t e old new old-is new_is some = rw (new_is, old-is, ne_eqb (of_thread tables t 8) 0 some) refl

pub put_issued-requires : goal.put_issued-requires
put_issued-requires c =
    issue_keeps _ _ _ _ _ c.thread_of-old.ensures c.issue-new.ensures
