-- The next number is the next of the sum.
use Rattle.std.proofs.Common.{◌≡◌, ◌+◌, refl, arith, get_or}
use Rattle.std.proofs.lemmas.Grind.{common_steps}
use Rattle.std.proofs.lemmas.List.{get_or-drop, get_or-take}
use Rattle.model.specs.Answers.{tabulate, sum}
use Rattle.model.proofs.Tabulating.{sum_more}
use Rattle.area.proofs.total.Goals as goal

pub loop-x-init : goal.loop-x-init
unfolding tabulate sum
loop-x-init c = record { is_so = refl; few = omega arith }

pub loop-x-preserved : goal.loop-x-preserved
loop-x-preserved c =
    let numbers = c.args.numbers.now in
    let at = c.args.from in
    let turn = c.loop-x in
    let x_is : c.from-sum.result ≡ get_or numbers (at + turn.x-index) 0 =
    grind (arith, get_or-drop, get_or-take, common_steps)
    in
    record {
      is_so = rw (turn.invariant.is_so, x_is) (sum_more turn.x-index (λ n. get_or numbers (at + n) 0));
      few = omega (arith, turn.invariant.few);
    }
