use Rattle.wire_base.specs.UnknownFields.{payload_of}
use Rattle.wire_base.proofs.Agreeing.{never_wants_room, keeps_what_is_skipped, refuses_as_skipping, keep_is_short, keep_stays}
use Rattle.wire_base.proofs.unknown_fields.decode.decode_unknown_field.Goals as goal

pub returns-clause-enough : goal.returns-clause-enough
returns-clause-enough g c =
    never_wants_room (λ field. payload_of field.value) _ _ _ _
    (g.B.Buf.unread c.decode_field.new.buf)
    c.decode_field.result
    c.decode_field.ensures.fault

pub returns-clause-skipped : goal.returns-clause-skipped
returns-clause-skipped g c =
    keeps_what_is_skipped (λ field. payload_of field.value) _ _ _ _
    (g.B.Buf.unread c.decode_field.new.buf)
    c.decode_field.result c.decode_field.ensures.ok
    c.decode_field.ensures.fault

pub returns-clause-refused : goal.returns-clause-refused
returns-clause-refused g c =
    refuses_as_skipping (λ field. payload_of field.value) _ _ _ _
    (g.B.Buf.unread c.decode_field.new.buf)
    c.decode_field.result c.decode_field.ensures.ok
    c.decode_field.ensures.fault

pub returns-clause-cut : goal.returns-clause-cut
returns-clause-cut g c =
    keep_is_short (λ field. payload_of field.value) _ _ _ _ (g.B.Buf.unread c.decode_field.new.buf)
    c.decode_field.result c.decode_field.ensures.ok
    c.decode_field.ensures.fault

pub returns-clause-stays : goal.returns-clause-stays
returns-clause-stays g c =
    keep_stays (λ field. payload_of field.value) _ _ _ _ (g.B.Buf.unread c.decode_field.new.buf)
    c.decode_field.result
    c.decode_field.ensures.fault

pub returns-clause-number : goal.returns-clause-number
returns-clause-number g c = c.decode_field.ensures.number

pub returns-clause-in_range : goal.returns-clause-in_range
returns-clause-in_range g c = c.decode_field.ensures.in_range

pub returns-clause-ok : goal.returns-clause-ok
returns-clause-ok g c = c.decode_field.ensures.ok

pub returns-clause-charged : goal.returns-clause-charged
returns-clause-charged g c = c.decode_field.ensures.charged

pub returns-clause-fault : goal.returns-clause-fault
returns-clause-fault g c = c.decode_field.ensures.fault

pub returns-clause-counts : goal.returns-clause-counts
returns-clause-counts g c = c.decode_field.ensures.counts

pub returns-clause-kept : goal.returns-clause-kept
returns-clause-kept g c = c.decode_field.ensures.kept
