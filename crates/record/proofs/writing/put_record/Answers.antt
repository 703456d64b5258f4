-- The pieces are those of the call's record, and there is room for each.
use native.Mathlib.Omega.{arith}
use lib.ListN.{length-take}
use Rattle.table.proofs.Laws.{in_range}
use Rattle.table.proofs.Table.{of_parts}
use Rattle.record.proofs.Writer.{room, record_put}
use Rattle.record.proofs.writing.put_record.Goals as goal

pub put_number-requires : goal.put_number-requires
put_number-requires c = omega (arith, room c.args.call c.fields_of.ensures)

pub put_fields-requires : goal.put_fields-requires
put_fields-requires c = omega (arith, room c.args.call c.fields_of.ensures)

-- the readings are lent with the call
pub slice_bounds-put_bytes-end : goal.slice_bounds-put_bytes-end
slice_bounds-put_bytes-end c =
    let a = c.args in
    omega (arith, length-take c.readings_size.result a.readings.now, c.readings_size.ensures.value, (of_parts a.call).lent a.readings.now (in_range a.call a.readings.now c.requires.0).1)

pub put_bytes-requires : goal.put_bytes-requires
put_bytes-requires c =
    omega (arith, length-take c.readings_size.result c.args.readings.now, c.readings_size.ensures.value, room c.args.call c.fields_of.ensures)

pub returns : goal.returns
returns c =
    let a = c.args in
    let rs = a.readings.now in
    let f = c.fields_of in
    rw (c.put_bytes.ensures, c.readings_size.ensures.value, c.put_fields.ensures, c.put_number.ensures, c.from.ensures)
    (record_put a.call rs a.out.now f.ensures c.requires.1 ((of_parts a.call).lent rs (in_range a.call rs c.requires.0).1))
