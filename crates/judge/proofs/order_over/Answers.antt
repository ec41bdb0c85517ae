-- `order_over` meets its contract: what is answered after the run is what the definitions say (proofs/Endings.antt),
-- and then the area is cleared.
use mathlib.Core.Path.{ap, ◌∙◌}
use native.Mathlib.Omega.{arith}
use Rattle.model.specs.Answers.{order_answer}
use Rattle.judge.proofs.Endings.{all_cleared, standing_is}
use Rattle.judge.proofs.order_over.Goals as goal

pub returns : goal.returns
returns c =
    let ran = c.run-v in record {
      result_value = ap order_answer c.standing-r.ensures
          ∙ standing_is c.args.trace.now ran.result ran.new.work ran.ensures.answers_as_defined c.args.first
          c.args.second;
      area_after = all_cleared _ _ 32768 c.clear.ensures (omega arith);
    }
