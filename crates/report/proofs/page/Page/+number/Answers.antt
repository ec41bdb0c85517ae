-- The last digit is put behind those of v / 10, as in the definition.
use Rattle.std.proofs.Common.{rules}
use Rattle.report.proofs.Pages.{only_digit, last_digit}
use Rattle.report.proofs.page.Page.+number.Goals as goal
use Rattle.report.proofs.page.Page.+number.Goals.{then-v-ge10, else-v-ge10}

pub returns : goal.returns
returns t c =
    elim c.if-v-ge10.branch [
      | then-v-ge10 w ↦
          last_digit _ w.if-v-ge10.true (search rules) w.number.ensures (rw w.self-is at c.put.ensures)
      | else-v-ge10 w ↦ only_digit _ w.if-v-ge10.false (rw w.self-is at c.put.ensures)
    ]
