-- `judge` meets its contract: with buffers of the wrong size refusals 14 and 15; else what `judge_over` answers over
-- the work area's first 32,768 numbers, of which `judged_as_demanded` says what it claims.
use mathlib.Core.Path.{◌≡◌, refl, sym, subst}
use mathlib.Core.List.{List}
use Prim.Native.Nat.{ℕ}
use native.Mathlib.Omega.{arith}
use borrow.Author.Tests.{lt-ltb, le-ltb, eq-eqb, ne_eqb}
use lib.ListN.{length, take-append-drop}
use Rattle.model.specs.Answers.{verdict_answer}
use Rattle.model.specs.Demand.{Claims}
use Rattle.model.specs.Reading.{events}
use Rattle.model.specs.Judge.{judge_of, cut_after, work_after, cleared}
use Rattle.model.proofs.Demanded.{judged_as_demanded}
use Rattle.judge.proofs.judge.Goals as goal

pub returns-in_default : goal.returns-in_default
unfolding judge_of cut_after work_after cleared
returns-in_default c =
    let few = c.in_default.ensures.cases in
    let small = lt-ltb (length c.args.work.now) 32768 few in
    record {
      answer = rw small refl;
      cut = rw small refl;
      work = rw small refl;
      demand = λ N accepted enough right_size. absurd (omega (arith, few));
    }

pub returns-in_default-as_mut_array : goal.returns-in_default-as_mut_array
unfolding judge_of cut_after work_after cleared
returns-in_default-as_mut_array c =
    let work : List ℕ = c.args.work.now in
    let room = c.in-Some.ensures.cases in
    let enough = le-ltb (length work) 32768 room.enough in
    let wrong_size = c.in_default-as_mut_array.ensures.cases in
    let wrong = ne_eqb (length c.args.cut.now) 56 wrong_size in
    record {
      answer = rw (enough, wrong) refl;
      cut = rw (enough, wrong) refl;
      work = rw (enough, wrong, room.same) (take-append-drop 32768 work);
      demand = λ N accepted enough right_size. absurd (wrong_size right_size);
    }

pub returns : goal.returns
unfolding judge_of cut_after work_after cleared
returns c =
    let called = c.judge_over in
    let bytes : List ℕ = c.args.trace.now in
    let work : List ℕ = c.args.work.now in
    let cut : List ℕ = c.args.cut.now in
    let whole = c.in-Some-as_mut_array.ensures.cases in
    let enough = le-ltb (length work) 32768 c.in-Some.ensures.cases.enough in
    let right = eq-eqb (length cut) 56 whole.long in
    let answer : verdict_answer called.result ≡ judge_of bytes (length work) (length cut) =
    rw (enough, right) called.ensures.result_value
    in
    let after : called.new.cut ≡ cut_after bytes (length work) cut =
    rw (enough, right, ← whole.same) called.ensures.cut_after
    in
    record {
      answer = answer;
      cut = after;
      work = rw (enough, right, called.ensures.area_after) refl;
      demand = λ N accepted room right_size.
          subst (λ (x : List ℕ). Claims (events bytes) N cut x (verdict_answer called.result)) (sym after)
          (rw answer (judged_as_demanded bytes N accepted (length work) cut room right_size));
    }
