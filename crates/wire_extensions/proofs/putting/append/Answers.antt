use Rattle.std.proofs.Common.{◌≡◌, rules, arith, refl, sym, ap, ◌∙◌}
use Rattle.std.proofs.lemmas.List.{nil_from_length}
use Rattle.std.specs.Vec.Iter.{into_iter_items}
use Rattle.wire_codec.specs.Field.{joined, push, count_top}
use Rattle.wire_codec.specs.UnknownFields.{payload_of, fields_of}
use Rattle.wire_extensions.proofs.Records.{push_joined, joined_none}
use Rattle.wire_extensions.proofs.Results.{at_err}
use Rattle.wire_extensions.proofs.putting.append.Goals as goal

pub loop-field-init : goal.loop-field-init
loop-field-init c =
    let whole : fields_of (into_iter_items c.into_iter-field-iterator.result) ≡ c.args.more
    = search rules in
    record {
      next = tt;
      finite = tt;
      all = ap (joined c.args.fields.now) whole;
      few = omega (arith, ap count_top whole);
      same = λ h. refl;
    }

pub loop-field-preserved : goal.loop-field-preserved
loop-field-preserved c =
    let rest = fields_of (into_iter_items c.next.new.self) in
    let f = c.in-Some.field in
    let pushed : c.push.new.self ≡ push c.loop-field.fields f.number (payload_of f.value)
    = search rules in
    let one = ap (λ x. count_top (fields_of x)) c.in-Some.ensures.steps.0 in
    record {
      next = tt;
      finite = tt;
      all = ap (λ x. joined x rest) pushed
          ∙ push_joined c.loop-field.fields f.number (payload_of f.value) rest
          ∙ ap (λ x. joined c.loop-field.fields (fields_of x)) (sym c.in-Some.ensures.steps.0)
          ∙ c.loop-field.invariant.all;
      few = omega (arith, one, c.loop-field.invariant.few);
      same = λ h. absurd (omega (arith, one, c.loop-field.invariant.few, h));
    }

pub returns-in_err-map_err-clause-unchanged : goal.returns-in_err-map_err-clause-unchanged
returns-in_err-map_err-clause-unchanged c = λ small.
    let one = ap (λ x. count_top (fields_of x)) c.in-Some.ensures.steps.0 in
    let stays : c.push.new.self ≡ c.loop-field.fields = search rules in
    at_err c.from_residual.result (stays ∙ c.loop-field.invariant.same
    (omega (arith, one, c.loop-field.invariant.few, small)))

pub returns-clause-ok : goal.returns-clause-ok
returns-clause-ok c =
    let it = c.loop-field.field-iterator in
    let end = nil_from_length (into_iter_items it) (sym it.rest.ok.0 ∙ c.in-None.ensures.steps.0) in
    sym (joined_none c.loop-field.fields)
    ∙ ap (λ x. joined c.loop-field.fields (fields_of x)) (sym end) ∙ c.loop-field.invariant.all
