-- The invariant: the text's first bytes are put.
use lib.ListN.{take}
use Rattle.report.specs.Page.{Puts}
use Rattle.report.proofs.page.Page.text.Given as goal

abbrev pub invariant-loop-b : goal.invariant-loop-b
invariant-loop-b l = Puts l.initial.self (take l.b-index l.s) l.b-index l.self
