use Rattle.std.proofs.Common.{◌≡◌, rules, subst}
use Rattle.wire_base.specs.declared.tag.WireType.{WireType}
use Rattle.wire_base.specs.declared.tag.WireType.TheVariants.{EndGroup}
use Rattle.wire_base.specs.Read.{Reads}
use Rattle.wire_base.specs.Tag.{IsTagSpelling}
use Rattle.wire_base.specs.TagView.{tag_number, tag_type}
use Rattle.wire_dump.proofs.Begins.{end_tag, no_tag}
use Rattle.wire_dump.proofs.dump.begins_no_record.Goals as goal

pub returns-in-Ok : goal.returns-in-Ok
returns-in-Ok c = λ yes.
    let tag = c.in-Ok.tag in
    let rest = c.decode.new.buf.now in
    let is : tag_type tag ≡ EndGroup = search rules in
    end_tag c.one_tag.ensures c.args.bytes.now rest (tag_number tag) c.requires
    (subst (λ (w : WireType). Reads c.args.bytes.now (IsTagSpelling (tag_number tag) w) rest) is
    c.in-Ok.ensures.ok)

pub returns-in-Err : goal.returns-in-Err
returns-in-Err c = λ yes.
    no_tag c.no_tag_beside_fault.ensures c.args.bytes.now c.in-Err.field-0 c.requires
    c.in-Err.ensures.fault
