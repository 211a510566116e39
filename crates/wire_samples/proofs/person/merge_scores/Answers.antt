use Rattle.wire_samples.proofs.person.merge_scores.Goals as goal

pub returns-in-Err-clause-err : goal.returns-in-Err-clause-err
returns-in-Err-clause-err g c =
    λ other. c.in-Err.ensures.err (λ is. other (c.wanting_length.ensures is))
