-- A locked operation, kind 12, has what it found in its link; behind any other load it is still the last store of its
-- location.
use mathlib.Core.Path.{ap, ◌∙◌}
use Prim.Native.Nat.{ℕ}
use Rattle.area.specs.Cells.{get_row}
use Rattle.judge.proofs.Judging.{head_stays, head_linked}
use Rattle.judge.proofs.loads.head_found.Goals as goal

pub returns-then-kind-eq12 : goal.returns-then-kind-eq12
returns-then-kind-eq12 c =
    let args = c.args in
    λ ev stepped load at_x.
    c.row_get.ensures
    ∙ (ap (λ (e : ℕ). get_row args.work.now e 14) c.event_at.ensures
    ∙ head_linked ev _ args.kind args.x args.tables.now args.work.now stepped load at_x
    c.if-kind-eq12.true)

pub returns : goal.returns
returns c =
    let args = c.args in
    λ ev stepped load at_x.
    c.last_committed.ensures
    ∙ head_stays ev _ args.kind args.x args.tables.now args.work.now stepped load at_x c.if-kind-eq12.false
