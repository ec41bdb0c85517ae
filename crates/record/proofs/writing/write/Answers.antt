-- There is room for length and kind, and for the fields that the kind's row places.
use native.Mathlib.Omega.{arith}
use lib.ListN.{length}
use Rattle.record.proofs.Rows.{row_within}
use Rattle.record.proofs.Shapes.{size_by_table}
use Rattle.record.proofs.writing.write.Goals as goal

pub put_word-requires-2 : goal.put_word-requires-2
put_word-requires-2 c =
    let size = size_by_table c.args.e _ _ _ c.kind_of-kind.ensures c.row_of-row.ensures c.from-size.ensures in
    omega (arith, size.1, c.put_word.auto.out, c.if-out-size.false)

pub put_fields-requires : goal.put_fields-requires
put_fields-requires c =
    row_within _ _ (length c.put_word-2.new.out) c.row_of-row.ensures
    (omega (arith, c.from-size.ensures, c.put_word-2.auto.out, c.put_word.auto.out, c.if-out-size.false))
