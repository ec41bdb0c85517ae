-- Each turn looks at one record more; at q none is left.
use mathlib.Core.Path.{◌≡◌, ◌∙◌}
use Prim.Native.Nat.{suc, ◌+◌}
use native.Mathlib.Omega.{arith}
use Rattle.windows.proofs.Looking.{none_left, one_more, whole_is}
use Rattle.windows.proofs.records.look.Goals as goal

pub loop-e-preserved : goal.loop-e-preserved
loop-e-preserved c =
    let next : c.loop-e.e + 1 ≡ suc c.loop-e.e = omega arith in
    one_more _ _ _ _ _ _ _ c.loop-e.found.threads c.loop-e.invariant c.loop-e-test.true _
    c.source_at-said.result _ next c.source_at-said.ensures c.note.ensures

pub returns : goal.returns
returns c =
    let next : c.from.result + 1 ≡ suc c.args.p = omega (arith, c.from.ensures) in
    none_left _ _ _ _ _ _ _ c.loop-e.found.threads c.loop-e.invariant (omega arith)
    ∙ whole_is _ _ _ _ _ _ _ next c.place_of-at.ensures.value
