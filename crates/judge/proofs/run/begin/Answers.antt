-- `begin` meets its contract: the laws of proofs/Records.antt, for a first record that cannot be read, that is turned
-- away, and that passes.
use mathlib.Core.Path.{sym}
use Rattle.std.proofs.lemmas.Result.{err_from_is_err_and}
use Rattle.machine.specs.Forbidden.{number_of}
use Rattle.machine.proofs.RuleLaws.{number_not_0}
use Rattle.judge.proofs.Records.{first_unread, first_forbidden, first_passes}
use Rattle.judge.proofs.run.begin.Goals as goal

pub returns-in_err-read : goal.returns-in_err-read
returns-in_err-read c =
    let p = err_from_is_err_and c.from_residual.result c.from_residual.ensures.1 in
    rw (p.1, p.2) (first_unread c.args.trace.now _ (sym c.in_err-read.ensures))

pub returns-in_err-begin_refusal : goal.returns-in_err-begin_refusal
returns-in_err-begin_refusal c =
    let called = c.from_residual-in_err-begin_refusal in
    let p = err_from_is_err_and called.result called.ensures.1 in
    let rule = c.in_err-begin_refusal.field-0.0 in
    rw (p.1, p.2)
    (first_forbidden c.args.trace.now (number_of rule) _ _ (sym c.in_ok-read.ensures)
    (rw (sym c.kind_of.ensures, sym c.fields_of-f.ensures) (sym c.in_err-begin_refusal.ensures)) (number_not_0 rule))

pub returns : goal.returns
returns c =
    rw c.fields_of-f.ensures
    (first_passes c.args.trace.now _ _ (sym c.in_ok-read.ensures)
    (rw (sym c.kind_of.ensures, sym c.fields_of-f.ensures) (sym c.in_ok-begin_refusal.ensures)))
