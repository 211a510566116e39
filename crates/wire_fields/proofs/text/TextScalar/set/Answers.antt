use Rattle.std.proofs.lemmas.Result.{IfErr-weaker}
use Rattle.wire_fields.proofs.Reading.{no_text}
use Rattle.wire_fields.proofs.text.TextScalar.set.Goals as goal

pub returns-clause-err : goal.returns-clause-err
returns-clause-err g c =
    IfErr-weaker c.merge_string.result _ _ (λ e refused other. no_text c.one_delimited.ensures
    c.no_delimited_beside_fault.ensures _ _ _ e refused other) c.merge_string.ensures.fault
