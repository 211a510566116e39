use Rattle.std.proofs.Common.{arith}
use Rattle.std.proofs.lemmas.Result.{err_from_is_err_and}
use Rattle.wire_structs.proofs.NextRecord.{next_of_list, no_next}
use Rattle.wire_structs.proofs.refusing.take_next.Goals as goal

pub returns-in_err-merge_to_limit-clause-err : goal.returns-in_err-merge_to_limit-clause-err
returns-in_err-merge_to_limit-clause-err g c =
    let p = err_from_is_err_and c.from_residual.result c.from_residual.ensures.1 in
    rw p.1 (no_next c.records_in_order.ensures g.M.MessageStruct.takes _ _ _ _
    (omega (arith, c.remaining-limit.ensures, c.requires))
    c.in_err-merge_to_limit.ensures.err)

pub returns-clause-ok : goal.returns-clause-ok
returns-clause-ok g c =
    let taken = c.in_ok-merge_to_limit.ensures.ok in
    record {
      charge = taken.charge;
      taken = next_of_list c.records_in_order.ensures g.M.MessageStruct.takes _ _ _ _ _ _ _
          (omega (arith, c.remaining-limit.ensures, c.requires)) taken.taken;
      left = taken.left;
    }
