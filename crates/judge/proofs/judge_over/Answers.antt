-- `judge_over` meets its contract: no bytes are robust with a cut of zeros; else what the run answers is what the
-- definitions say. Either way the area is cleared.
use mathlib.Core.Path.{◌≡◌, sym, ◌∙◌}
use mathlib.Core.Logic.{◌≢◌}
use mathlib.Core.List.{List}
use Prim.Native.Nat.{ℕ}
use native.Mathlib.Omega.{arith}
use Rattle.std.proofs.Common.{rules}
use lib.ListN.{length}
use Rattle.model.proofs.NoBytes.{no_bytes_answer, no_bytes_cut, begun_some}
use Rattle.judge.proofs.Endings.{all_cleared}
use Rattle.judge.proofs.judge_over.Goals as goal

pub returns-then-is_empty : goal.returns-then-is_empty
returns-then-is_empty c =
    let bytes : List ℕ = c.args.trace.now in
    let none : length bytes ≡ 0 = search rules in
    record {
      result_value = sym (no_bytes_answer bytes none);
      cut_after =
          all_cleared _ _ 56 c.clear-then-is_empty.ensures (omega arith) ∙ sym (no_bytes_cut bytes none c.args.cut.now);
      area_after = all_cleared _ _ 32768 c.clear.ensures (omega arith);
    }

pub returns : goal.returns
returns c =
    let bytes : List ℕ = c.args.trace.now in
    let some : length bytes ≢ 0 = λ none. search rules in
    let ran = c.run-r in
    record {
      result_value = rw (begun_some bytes some) at ran.ensures.answers_as_defined.answer;
      cut_after = rw (begun_some bytes some) at ran.ensures.cut_after;
      area_after = all_cleared _ _ 32768 c.clear-2.ensures (omega arith);
    }
