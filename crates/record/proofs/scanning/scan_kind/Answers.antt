-- The fields that the kind's row places end within its record.
use Rattle.record.proofs.Scans.{row_inside}
use Rattle.record.proofs.scanning.scan_kind.Goals as goal

pub fields_at-requires : goal.fields_at-requires
fields_at-requires c = row_inside c.args.trace.now c.args.at _ _ c.row_of-row.ensures c.requires.2
