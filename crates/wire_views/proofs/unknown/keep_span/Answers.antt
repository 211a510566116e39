use Rattle.std.proofs.Common.{refl, inl, arith}
use Rattle.std.proofs.lemmas.Result.{err_from_is_err_and}
use Rattle.wire_codec.specs.Charge.{payload_charge}
use Rattle.wire_fields.proofs.Keeping.{not_kept}
use Rattle.wire_views.proofs.SpanLaws.{countable, whole_payload, spelled_once, span_kept}
use Rattle.wire_views.proofs.unknown.keep_span.Goals as goal

pub returns-in_err-pass_unknown_field-clause-err :
    goal.returns-in_err-pass_unknown_field-clause-err
returns-in_err-pass_unknown_field-clause-err c =
    let p = err_from_is_err_and c.from_residual.result c.from_residual.ensures.1 in
    rw (p.1, p.2) (λ other. not_kept c.no_payload_beside_fault.ensures _ _ _ _ _ _
    (inl c.in_err-pass_unknown_field.ensures.fault) other)

pub invariant_of-span : goal.invariant_of-span
invariant_of-span c =
    let passed = c.in_ok-pass_unknown_field.ensures.ok in
    record {
      spelled = spelled_once c.one_payload.ensures _ _ passed.0 _
          (whole_payload _ _ _ _ _ _ passed.1.read c.front_of-payload.ensures)
          (countable passed.0 _ _ _ passed.1.fits c.depth-levels.ensures (omega arith)
          c.remaining_unknown_fields-slots.ensures (omega arith));
    }

pub returns-clause-ok : goal.returns-clause-ok
returns-clause-ok c =
    let passed = c.in_ok-pass_unknown_field.ensures.ok in
    record {
      charge = payload_charge passed.0;
      taken = record {
        payload = passed.0;
        read = passed.1;
        step = (
          refl,
          span_kept _ _ _ _
              (whole_payload _ _ _ _ _ _ passed.1.read c.front_of-payload.ensures)
              c.in_ok-push.ensures.items,
        );
      };
      left = passed.2;
    }
