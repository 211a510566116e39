use Rattle.wire_codec.proofs.message.Message.merge_from_slice.Goals as goal

pub returns-clause-err : goal.returns-clause-err
returns-clause-err g c = rw (c.default_context.ensures) at c.merge.ensures.err
