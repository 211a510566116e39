use Rattle.std.proofs.Common.{rules}
use Rattle.std.proofs.lemmas.Result.{err_from_is_err_and}
use Rattle.wire_write.specs.Shortest.{ShortestFault, no_room}
use Rattle.wire_write.proofs.shortest.write_shortest.Goals as goal

pub returns-in_err-len-clause-err : goal.returns-in_err-len-clause-err
returns-in_err-len-clause-err c =
    let p = err_from_is_err_and c.from_residual.result c.from_residual.ensures.1 in
    rw (p.1, p.2) (ShortestFault.fault _ c.in_err-len.ensures.fault)

pub returns-then-len-room-clause-err : goal.returns-then-len-room-clause-err
returns-then-len-room-clause-err c =
    let (fs, decodes, is) = c.in_ok-len.ensures.ok in
    no_room fs _ decodes (search rules) c.if-len-room.true
