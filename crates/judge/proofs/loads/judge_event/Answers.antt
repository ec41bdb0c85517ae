-- An event as of which nothing counts changes nothing; a close counts what its thread holds, any other load itself.
use mathlib.Core.Path.{ap}
use Rattle.record.specs.declared.events.Fields.{Fields}
use Rattle.judge.proofs.Judging.{match_uncounted, match_itself, match_close}
use Rattle.judge.proofs.loads.judge_event.Goals as goal

pub returns-then-not-counted : goal.returns-then-not-counted
returns-then-not-counted c =
    let args = c.args in
    λ ev stepped fields_are matching.
    match_uncounted ev _ args.kind args.tables.now args.work.now _ matching
    (rw (c.if-not-counted.true) at stepped)

pub returns-then-kind-eq16 : goal.returns-then-kind-eq16
returns-then-kind-eq16 c =
    let args = c.args in
    λ ev stepped fields_are matching.
    match_close ev _ args.kind args.tables.now args.work.now _ matching
    (rw (c.if-not-counted.false) at stepped) args.f fields_are c.if-kind-eq16.true _
    c.newest_held-k.ensures _ c.judge_held.ensures

pub returns : goal.returns
returns c =
    let args = c.args in
    λ ev stepped fields_are matching.
    let counts = rw (c.if-not-counted.false) at stepped in
    match_itself ev _ args.kind args.tables.now args.work.now _ matching counts args.f fields_are
    c.if-kind-eq16.false _
    (c.head_found.ensures ev counts c.if-kind-eq16.false (ap (λ (g : Fields). g.location) fields_are)) _
    c.judge_load.ensures
