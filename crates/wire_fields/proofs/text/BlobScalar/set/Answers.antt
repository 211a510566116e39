use Rattle.std.proofs.lemmas.Result.{IfErr-weaker}
use Rattle.wire_fields.proofs.Reading.{no_bytes}
use Rattle.wire_fields.proofs.text.BlobScalar.set.Goals as goal

pub returns-clause-err : goal.returns-clause-err
returns-clause-err g c =
    IfErr-weaker c.merge_bytes.result _ _ (λ e refused other. no_bytes c.one_delimited.ensures
    c.no_delimited_beside_fault.ensures _ _ _ e refused other) c.merge_bytes.ensures.fault
