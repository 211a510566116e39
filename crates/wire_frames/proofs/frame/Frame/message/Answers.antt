use Rattle.std.proofs.Common.{◌<◌, ◌≤◌, length, ⊎_elim, refl, ap}
use Rattle.std.proofs.lemmas.Bool.{cases_lt}
use Rattle.wire_frames.specs.declared.message.MessageError.TheVariants.{Decode}
use Rattle.wire_frames.specs.Messages.{too_large, not_decoded}
use Rattle.wire_frames.proofs.frame.Frame.message.Goals as goal

pub returns-in-Err-clause-err : goal.returns-in-Err-clause-err
returns-in-Err-clause-err g c =
    let frame = c.args.self.now in
    let refused = rw c.as_slice.ensures at c.in-Err.ensures.err in
    let past = rw c.as_slice.ensures at c.in-Err.ensures.too_large in
    ⊎_elim
    (λ (large : c.args.options.now.max_message_size < length frame.payload).
    too_large c.if-self.false large (ap Decode (past large)))
    (λ (short : length frame.payload ≤ c.args.options.now.max_message_size).
    not_decoded c.in-Err.error c.if-self.false short (refused short) refl)
    (cases_lt c.args.options.now.max_message_size (length frame.payload))
