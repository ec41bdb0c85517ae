-- The fields that the kind's row places end within its record.
use native.Mathlib.Omega.{arith}
use Rattle.record.proofs.Rows.{row_within}
use Rattle.record.proofs.reading.read_framed.Goals as goal

pub fields_at-requires : goal.fields_at-requires
fields_at-requires c = row_within _ _ _ c.row_of-row.ensures (omega (arith, c.from.ensures, c.if-from-n.false))
