-- `order` meets its contract: with too small a work area refusal 14; else what `order_over` answers over its first
-- 32,768 numbers, of which `ordered_as_demanded` says what it claims.
use mathlib.Core.Path.{◌≡◌, refl}
use mathlib.Core.List.{List}
use Prim.Native.Nat.{ℕ}
use native.Mathlib.Omega.{arith}
use borrow.Author.Tests.{lt-ltb, le-ltb}
use lib.ListN.{length}
use Rattle.model.specs.Answers.{order_answer}
use Rattle.model.specs.Judge.{order_of, order_work_after, cleared}
use Rattle.model.proofs.Queries.{ordered_as_demanded}
use Rattle.judge.proofs.order.Goals as goal

pub returns-in_default : goal.returns-in_default
unfolding order_of order_work_after cleared
returns-in_default c =
    let work : List ℕ = c.args.work.now in
    let few = c.in_default.ensures.cases in
    let small = lt-ltb (length work) 32768 few in
    record {
      answer = rw small refl;
      work = rw small refl;
      demand = λ N accepted enough p_store q_store. absurd (omega (arith, few));
    }

pub returns : goal.returns
unfolding order_of order_work_after cleared
returns c =
    let called = c.order_over in
    let work : List ℕ = c.args.work.now in
    let bytes : List ℕ = c.args.trace.now in
    let p : ℕ = c.args.first in
    let q : ℕ = c.args.second in
    let enough = le-ltb (length work) 32768 c.in-Some.ensures.cases.enough in
    let answer : order_answer called.result ≡ order_of bytes (length work) p q =
    rw enough called.ensures.result_value
    in
    record {
      answer = answer;
      work = rw (enough, called.ensures.area_after) refl;
      demand = λ N accepted room p_store q_store.
          rw answer (ordered_as_demanded bytes N (length work) p q accepted room p_store q_store);
    }
