-- Eight zeros in a row are the definition's eight stores.
use mathlib.Core.Path.{◌≡◌, ◌∙◌}
use Prim.Native.Nat.{◌+◌, ◌-◌, ◌<◌}
use native.Mathlib.Nat.{add-zero}
use native.Mathlib.Omega.{arith}
use Rattle.machine.proofs.Parts.{eight, unseen_is}
use Rattle.machine.proofs.threads.forget_seen.Goals as goal

pub returns : goal.returns
returns c =
    let tables = c.args.tables.now in
    let from = c.thread-from.ensures.0 ∙ add-zero _ in
    let few : c.args.t < 8 = omega (arith, from, c.thread-from.ensures.1) in
    let size : (c.thread-from.result + 8) - c.thread-from.result ≡ 8 = omega arith in
    unseen_is tables c.args.t _ _ _ _ few c.told-tables from size
    (eight tables c.thread-from.result _ size (omega (arith, c.told-tables, from, few)))
    (c.fill.ensures.after (λ y same. same))
