use Rattle.std.proofs.lemmas.Result.{err_from_is_err_and}
use Rattle.wire_base.specs.declared.tag.WireType.TheVariants.{EndGroup}
use Rattle.wire_base.specs.Tag.{tag_text}
use Rattle.wire_base.proofs.Sinks.{more, breaks, two_parts}
use Rattle.wire_base.proofs.UnknownFieldsLemmas.{text_of-at}
use Rattle.wire_base.proofs.unknown_fields.+write.Goals as goal

pub UnknownFields::write_group-returns-in_err-put_tag : goal.UnknownFields::write_group-returns-in_err-put_tag
UnknownFields::write_group-returns-in_err-put_tag g t c =
    let p = err_from_is_err_and c.from_residual.result c.from_residual.ensures.1 in
    rw (p.1, p.2) (two_parts.refused _ _ _ _ _ c.in_err-put_tag.ensures)

pub UnknownFields::write_group-returns-in_err-write_fields : goal.UnknownFields::write_group-returns-in_err-write_fields
UnknownFields::write_group-returns-in_err-write_fields g t c =
    let r = c.from_residual-in_err-write_fields in
    let p = err_from_is_err_and r.result r.ensures.1 in
    rw (p.1, p.2) (two_parts.behind _ _ _ _ _ tt _ c.in_ok-put_tag.ensures
    (two_parts.refused _ (tag_text c.args.number EndGroup) _ _ _ c.in_err-write_fields.ensures))

pub UnknownFields::write_group-returns : goal.UnknownFields::write_group-returns
UnknownFields::write_group-returns g t c =
    two_parts.behind _ _ _ _ _ tt _ c.in_ok-put_tag.ensures
    (two_parts.behind _ _ _ _ _ tt _ c.in_ok-write_fields.ensures c.put_tag-2.ensures)

pub UnknownFields::write_fields-returns-in_err-write_record : goal.UnknownFields::write_fields-returns-in_err-write_record
UnknownFields::write_fields-returns-in_err-write_record g t c =
    let p = err_from_is_err_and c.from_residual.result c.from_residual.ensures.1 in
    rw (p.1, p.2) (breaks _ _ _ _ _ _ _ _ c.loop-field.invariant
    (text_of-at _ _ _ c.loop-field-test.true c.field-item.is) c.in_err-write_record.ensures)

pub UnknownFields::write_fields-loop-field-preserved : goal.UnknownFields::write_fields-loop-field-preserved
UnknownFields::write_fields-loop-field-preserved g t c =
    more _ _ _ _ _ _ _ tt c.loop-field.invariant
    (text_of-at _ _ _ c.loop-field-test.true c.field-item.is) c.in_ok-write_record.ensures

pub UnknownField::write_record-returns-in-Fixed64 : goal.UnknownField::write_record-returns-in-Fixed64
UnknownField::write_record-returns-in-Fixed64 g t c =
    rw c.in-Fixed64.is (rw c.tag_as_number-in-Fixed64.ensures at c.put_fixed64.ensures)

pub UnknownField::write_record-returns-in-Fixed32 : goal.UnknownField::write_record-returns-in-Fixed32
UnknownField::write_record-returns-in-Fixed32 g t c =
    rw c.in-Fixed32.is (rw c.tag_as_number-in-Fixed32.ensures at c.put_fixed32.ensures)

pub UnknownField::write_record-returns-in-Group : goal.UnknownField::write_record-returns-in-Group
UnknownField::write_record-returns-in-Group g t c =
    rw c.in-Group.is c.write_group.ensures

pub UnknownField::write_record-returns-in-LengthDelimited : goal.UnknownField::write_record-returns-in-LengthDelimited
UnknownField::write_record-returns-in-LengthDelimited g t c =
    rw c.in-LengthDelimited.is
    (rw (c.tag_as_number-in-LengthDelimited.ensures, c.deref.ensures.value) at
    c.put_delimited.ensures)

pub UnknownField::write_record-returns-in-Varint : goal.UnknownField::write_record-returns-in-Varint
UnknownField::write_record-returns-in-Varint g t c =
    rw c.in-Varint.is (rw c.tag_as_number.ensures at c.put_varints.ensures)
