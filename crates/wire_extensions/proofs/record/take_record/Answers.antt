use Rattle.std.proofs.Common.{◌≡◌, rules}
use Rattle.std.proofs.lemmas.Result.{err_from_is_err_and, on_ok_weaker, IfErr-weaker}
use Rattle.wire_codec.specs.Text.{record_text}
use Rattle.wire_codec.specs.UnknownFields.{payload_of}
use Rattle.wire_extensions.proofs.OneRecord.{is_record, no_fault, charged, untaken}
use Rattle.wire_extensions.proofs.record.take_record.Goals as goal

pub returns-in_err-tag-clause-err : goal.returns-in_err-tag-clause-err
returns-in_err-tag-clause-err g c =
    let p = err_from_is_err_and c.from_residual-in_err-tag.result
    c.from_residual-in_err-tag.ensures.1 in
    let whole : c.as_slice-buf.result.now ≡ record_text c.args.field.now.number
    (payload_of c.args.field.now.value) = search rules in
    rw (p.1, p.2) (λ other numbered. absurd (no_fault c.records_in_order.ensures _ _ _
    (is_record c.payload_is_field.ensures c.shortest_text_spells.ensures _ _
    c.requires.number c.requires.fitting _ whole numbered) _ c.in_err-tag.ensures.fault))

pub returns-clause-ok : goal.returns-clause-ok
returns-clause-ok g c =
    let whole : c.as_slice-buf.result.now ≡ record_text c.args.field.now.number
    (payload_of c.args.field.now.value) = search rules in
    on_ok_weaker c.merge.result (λ h numbered. charged c.records_in_order.ensures _ _ _
    g.K.Kind.kind.takes _ _ _ _ _ c.in_ok-tag.ensures.ok _ _ _ h
    (is_record c.payload_is_field.ensures c.shortest_text_spells.ensures _ _
    c.requires.number c.requires.fitting _ whole numbered)) c.merge.ensures.ok

pub returns-clause-err : goal.returns-clause-err
returns-clause-err g c =
    let whole : c.as_slice-buf.result.now ≡ record_text c.args.field.now.number
    (payload_of c.args.field.now.value) = search rules in
    IfErr-weaker c.merge.result _ _ (λ e none other numbered. untaken c.records_in_order.ensures
    _ _ _ g.K.Kind.kind.takes _ _ _ _ _ c.in_ok-tag.ensures.ok (none other)
    (is_record c.payload_is_field.ensures c.shortest_text_spells.ensures _ _
    c.requires.number c.requires.fitting _ whole numbered)) c.merge.ensures.err
