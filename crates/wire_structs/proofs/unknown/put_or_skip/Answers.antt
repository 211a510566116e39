use Rattle.std.proofs.Common.{sym, ◌∙◌, refl, subst}
use Rattle.wire_base.specs.Limits.{uncounted}
use Rattle.wire_codec.specs.Writes.{Writes}
use Rattle.wire_structs.proofs.UnknownSizes.{one_text}
use Rattle.wire_structs.proofs.unknown.put_or_skip.Goals as goal

pub returns-then-has-clause-read : goal.returns-then-has-clause-read
returns-then-has-clause-read g c = λ p rest h.
    (c.skip_field_depth.ensures.decoded (uncounted 100) p rest refl h).1

pub returns-clause-written : goal.returns-clause-written
returns-clause-written g c = λ p rest h.
    let other = rw c.field_number.ensures.number at c.has.ensures p ∙ c.if-has.false in
    rw other (subst (λ t. Writes t (g.E.EncodeSink.held c.args.sink.now)
    (g.E.EncodeSink.held c.put_unknown_record.new.sink) c.put_unknown_record.result)
    (sym (one_text _ p)) (c.put_unknown_record.ensures.written p rest h.read))

pub returns-clause-read : goal.returns-clause-read
returns-clause-read g c = λ p rest h. c.put_unknown_record.ensures.read p rest h.read
