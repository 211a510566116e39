use Rattle.wire_codec.proofs.decode_options.DecodeOptions.merge.Goals as goal

pub returns-clause-err : goal.returns-clause-err
returns-clause-err g c = λ short. rw (c.context.ensures) at c.merge.ensures.err
