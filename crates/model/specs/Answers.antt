-- What the judge's calls answer, in document 01's numbers and values: the share, the cut buffer, and for each enum of
-- the code the answer that each of its cases is.
use Rattle.std.specs.Prelude.{ℕ, zero, suc, ◌+◌, ◌*◌, ◌/◌, ◌%◌, List, [], ◌∷◌, ◌++◌, map, eqb}
use Rattle.std.specs.Prelude.{Option, Some, None, Result, Ok, Err}
use Rattle.record.specs.declared.events.Event.{Event}
use Rattle.record.specs.Tests.{◌gives◌else◌}
use Rattle.model.specs.Trace.{thread, line}
use Rattle.model.specs.Choice.{Choice}
use Rattle.model.specs.Windows.{Places, none, between, window_of}
use Rattle.model.specs.declared.Window.{Window}
use Rattle.model.specs.declared.Windows.{Windows}
use Rattle.model.specs.declared.Kind.{Kind}
use Rattle.model.specs.declared.Kind.TheVariants.{Contradiction, Flush, Impossible}
use Rattle.model.specs.declared.Verdict.{Verdict}
use Rattle.model.specs.declared.Verdict.TheVariants.{Robust, Broken}
use Rattle.model.specs.declared.Refusal.{Refusal}
use Rattle.model.specs.declared.Order.{Order}
use Rattle.model.specs.declared.Order.TheVariants as order

-- ---- the share and the cut

-- f 0 to f (n - 1)
unfoldable pub tabulate : {A : Type 0} → ℕ → (ℕ → A) → List A
tabulate zero f = []
tabulate (suc n) f = tabulate n f ++ (f n ∷ [])

-- "the cut buffer, 56 numbers of two bytes; stretch j, thread t stands at 8 × (j − 1) + t, the rest 0": a choice that
-- explains is 0 where there is no such finished stretch or thread, by `fits`
unfoldable pub cut_of : Choice → List ℕ
cut_of c = tabulate 56 (λ i. c (i / 8 + 1) (i % 8))

unfoldable pub sum : List ℕ → ℕ
sum [] = 0
sum (x ∷ xs) = x + sum xs

-- "the percentage [..] rounded down; 100 if there are none"
abbrev pub percent : ℕ → ℕ → ℕ
percent k zero = 100
percent k (suc n) = 100 * k / suc n

-- "Share: the percentage of stores committed in finished stretches that are in the least choice": of the least choice,
-- and of the choice with all the commits
unfoldable pub share_of : Choice → Choice → ℕ
share_of least all = percent (sum (cut_of least)) (sum (cut_of all))

-- ---- judging

-- "Kind is "contradiction" if they are equal, else "flush"." Document 02, job 5: "A broken pair on one line has the
-- kind "impossible" unless it is a contradiction." A flush fault has a primary thread and the windows of threads 0 to
-- 7; job 1: "Contradictions have none."; job 5, of an impossible pair: "It has no windows."
pub data Fault : Type 0 where
  contradiction : Fault
  flush : ℕ → List Places → Fault
  impossible : Fault

-- "p's thread is marked primary"
unfoldable pub fault_of : (ℕ → Event) → ℕ → ℕ → Fault
fault_of ev missing observed =
    eqb missing observed gives contradiction else
    eqb (line ev missing) (line ev observed) gives impossible else
    flush (thread ev missing) (tabulate 8 (window_of ev missing observed))

pub data Answer : Type 0 where
  -- "Each refusal carries its event number; 14, 15, 16 and 17 carry 0."
  refused : ℕ → ℕ → Answer
  -- events after begin, share
  robust : ℕ → ℕ → Answer
  -- events after begin, load, missing, observed, kind
  broken : ℕ → ℕ → ℕ → ℕ → Fault → Answer

abbrev pub window_answer : Option Window → Places
window_answer None = none
window_answer (Some w) = between w.first w.last

abbrev pub windows_answer : Windows → List Places
windows_answer w = map window_answer w.threads

abbrev pub kind_answer : Kind → Fault
kind_answer Contradiction = contradiction
kind_answer (Flush w) = flush w.primary (windows_answer w)
kind_answer Impossible = impossible

abbrev pub verdict_answer : Result Verdict Refusal → Answer
verdict_answer (Ok (Robust events share)) = robust events share
verdict_answer (Ok (Broken events load missing observed kind)) =
    broken events load missing observed (kind_answer kind)
verdict_answer (Err r) = refused r.number r.event

-- ---- the order query

-- "The order query takes a trace, a work area and two event numbers: before, after, same, neither."
pub data Standing : Type 0 where
  refused : ℕ → ℕ → Standing
  before : Standing
  after : Standing
  same : Standing
  neither : Standing

abbrev pub order_answer : Result Order Refusal → Standing
order_answer (Ok order.Before) = before
order_answer (Ok order.After) = after
order_answer (Ok order.Same) = same
order_answer (Ok order.Neither) = neither
order_answer (Err r) = refused r.number r.event
