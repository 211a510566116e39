use Rattle.wire_structs.proofs.message.MessageStruct.read.Goals as goal

pub returns-in-Err-clause-err : goal.returns-in-Err-clause-err
returns-in-Err-clause-err g c = λ z decoded.
    (rw c.zero.ensures.value at c.in-Err.ensures.err) decoded.0 z _ decoded.1
