use Rattle.std.proofs.Common.{sym}
use Rattle.wire_tables.proofs.call.CallMessageFields.merge_field.Goals as goal

pub returns-in-Call-clause-err : goal.returns-in-Call-clause-err
returns-in-Call-clause-err g c =
    rw (sym c.replace.ensures.value) c.merge_held-merged.ensures.err
