use Rattle.std.proofs.Common.{◌≡◌, rules, refl, sym, ap, ◌∙◌}
use Rattle.std.specs.Prelude.{None}
use Rattle.wire_codec.specs.Field.{varint}
use Rattle.wire_codec.specs.TagView.{tag_number}
use Rattle.wire_codec.specs.ValueMap.{int32}
use Rattle.wire_views.specs.Spans.{span_fields, with_number}
use Rattle.wire_views.proofs.ClosedSpans.{varint_countable}
use Rattle.wire_views.proofs.SpanLaws.{spelled_once, span_kept}
use Rattle.wire_views.proofs.closed_each.keep_number.Goals as goal

pub invariant_of-span : goal.invariant_of-span
invariant_of-span g c = record {
  spelled = spelled_once c.one_payload.ensures _ _ (varint c.args.x) _
      (record { kind = sym c.requires.varint; spelled = c.requires.spelled })
      (varint_countable _ c.args.x refl);
}

pub returns-in_ok-push-in-None-clause-ok : goal.returns-in_ok-push-in-None-clause-ok
returns-in_ok-push-in-None-clause-ok g c =
    let is : g.E.Enumeration.of_number (int32.dec c.args.x) ≡ None = search rules in
    span_kept _ _ _ (varint c.args.x)
    (record { kind = sym c.requires.varint; spelled = c.requires.spelled })
    (c.in_ok-push-in-None).ensures.items
    ∙ sym (ap (with_number (tag_number c.args.tag) c.args.x (span_fields c.args.spans.now.items)) is)
