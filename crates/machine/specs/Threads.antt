-- A thread's state in its row of the tables, and what the methods of it compute.
use Rattle.std.specs.Prelude.{ℕ, zero, suc, ◌+◌, ◌*◌, ◌/◌, ◌%◌, Bool, false, not, List, ◌≡◌, ◌≢◌, eqb, get_or, set}
use Rattle.record.specs.Tests.{◌gives◌else◌}
use Rattle.model.specs.Search.{bit}
use Rattle.area.specs.Cells.{up}
use Rattle.machine.specs.declared.threads.Thread.{Thread}
use Rattle.machine.specs.Tables.{thread_cell}

-- ---- a thread's state by itself

-- a, or b if a is 0
unfoldable pub first_of : ℕ → ℕ → ℕ
first_of a b = eqb a 0 gives b else a

-- store e joins the queue
unfoldable pub issued_t : Thread → ℕ → Thread
issued_t t e =
    record {
      oldest = first_of t.oldest e;
      newest = e;
      issued = up t.issued;
      committed = t.committed;
      skip = t.skip;
    }

-- the oldest store leaves the queue, and `next` is then the oldest
unfoldable pub committed_t : Thread → ℕ → Thread
committed_t t next =
    record {
      oldest = next;
      newest = t.newest;
      issued = t.issued;
      committed = up t.committed;
      skip = t.skip;
    }

-- a skip starts or ends
unfoldable pub skipped_t : Thread → Bool → Thread
skipped_t t on =
    record {
      oldest = t.oldest;
      newest = t.newest;
      issued = t.issued;
      committed = t.committed;
      skip = on;
    }

-- a thread as a stretch starts
abbrev pub fresh : Thread
fresh = record { oldest = 0; newest = 0; issued = 0; committed = 0; skip = false }

-- a crash "drops waiting stores, ends skips and starts counts afresh"
abbrev pub crashed_t : Thread → Thread
crashed_t t = fresh

-- ---- in the tables

-- number k of thread t's row
abbrev pub of_thread : List ℕ → ℕ → ℕ → ℕ
of_thread tables t k = get_or tables (thread_cell t k) 0

-- the tables with v there
abbrev pub put_thread : List ℕ → ℕ → ℕ → ℕ → List ℕ
put_thread tables t k v = set tables (thread_cell t k) v

-- thread t's state; of column 12 it has the skip
unfoldable pub thread_of : List ℕ → ℕ → Thread
thread_of tables t =
    record {
      oldest = of_thread tables t 8;
      newest = of_thread tables t 9;
      issued = of_thread tables t 10;
      committed = of_thread tables t 11;
      skip = not (eqb (of_thread tables t 12 % 2) 0);
    }

-- a queue that is not empty has this oldest store
abbrev pub KeepsOldest : List ℕ → ℕ → ℕ → Type 0
KeepsOldest tables t oldest = of_thread tables t 8 ≢ 0 → oldest ≡ of_thread tables t 8

abbrev pub put_oldest : List ℕ → ℕ → ℕ → List ℕ
put_oldest tables t oldest = put_thread tables t 8 oldest

-- the tables with what an issue changes in thread t's state
unfoldable pub put_issued : List ℕ → ℕ → Thread → List ℕ
put_issued tables t s = put_thread (put_thread (put_oldest tables t s.oldest) t 9 s.newest) t 10 s.issued

-- with what a commit changes
unfoldable pub put_committed : List ℕ → ℕ → Thread → List ℕ
put_committed tables t s = put_thread (put_thread tables t 8 s.oldest) t 11 s.committed

-- column 12 with another skip
abbrev pub skip_set : ℕ → Bool → ℕ
skip_set c skip = skip gives c / 2 * 2 + 1 else c / 2 * 2

-- with what a skip changes
unfoldable pub put_skip : List ℕ → ℕ → Thread → List ℕ
put_skip tables t s = put_thread tables t 12 (skip_set (of_thread tables t 12) s.skip)

-- thread t has seen nothing of threads 0 to u - 1
unfoldable pub unseen : ℕ → List ℕ → ℕ → List ℕ
unseen zero tables t = tables
unseen (suc u) tables t = put_thread (unseen u tables t) t u 0

-- thread t has seen nothing, its state is s, and it is not open: what a crash changes
unfoldable pub restarted : List ℕ → ℕ → Thread → List ℕ
restarted tables t s =
    let with_oldest = put_thread (unseen 8 tables t) t 8 s.oldest in
    let with_newest = put_thread with_oldest t 9 s.newest in
    let with_issued = put_thread with_newest t 10 s.issued in
    put_thread (put_thread with_issued t 11 s.committed) t 12 (bit s.skip)
