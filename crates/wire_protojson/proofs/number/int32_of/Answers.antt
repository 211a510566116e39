use Rattle.wire_protojson.proofs.NumberTexts.{fits_wider}
use Rattle.wire_protojson.proofs.number.int32_of.Goals as goal

pub returns-in-None-clause-none : goal.returns-in-None-clause-none
returns-in-None-clause-none c = λ z means.
    c.in-None.ensures.none z (means.0, means.1, means.2, means.3, fits_wider z means.4)
