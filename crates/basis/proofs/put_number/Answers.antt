use Rattle.std.proofs.Common.{◌≡◌, ◌+◌, arith}
use Rattle.std.proofs.lemmas.List.Edits.{length-between}
use Rattle.basis.specs.Numbers.{bytes_of}
use Rattle.basis.proofs.Numbers.{length-bytes_of, write_more, all_written, put_whole}
use Rattle.basis.proofs.put_number.Goals as goal

pub loop-byte-preserved : goal.loop-byte-preserved
loop-byte-preserved c =
    let a = c.args in
    let l = c.loop-byte in
    let n = length-between a.out.now a.at (a.at + a.width) c.requires in
    write_more l.byte-items l.byte-index a.width a.x l.y (omega arith) (omega arith) l.invariant

pub returns : goal.returns
returns c =
    let a = c.args in
    let l = c.loop-byte in
    let n = length-between a.out.now a.at (a.at + a.width) c.requires in
    let e : l.byte-items ≡ bytes_of a.width a.x = all_written l.byte-items l.byte-index a.width a.x l.y (omega arith) (omega arith) l.invariant in
    put_whole a.out.now a.at a.width l.byte-items (bytes_of a.width a.x) (length-bytes_of a.width a.x) e
