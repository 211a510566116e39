use Rattle.std.proofs.Common.{◌≡◌, drop, Err, Some, None, refl, sym, ap, ◌∙◌}
use Rattle.std.specs.Prelude.{codes}
use Rattle.wire_json.specs.declared.kind.Kind.TheVariants as kinds
use Rattle.wire_json.specs.Fault.{no_value}
use Rattle.wire_json.specs.Kind.{kind_begun}
use Rattle.wire_json.proofs.Scalars.{word_fault, number_fault, string_fault}
use Rattle.wire_protojson.specs.Reads.{NoScalarHere, is_array, is_object}
use Rattle.wire_protojson.proofs.Refusing.{of_kind, refused_json, refused_value}
use Rattle.wire_protojson.proofs.token.read_token.Goals as goal

pub returns-in-None-clause-err : goal.returns-in-None-clause-err
returns-in-None-clause-err c =
    let old = drop c.args.at c.args.text.now in
    let begun : kind_begun old ≡ None = sym c.kind_at.ensures.kind ∙ c.in-None.is in
    refused_json c.args.text.now old _ c.no_json.result c.no_json.ensures
    (of_kind old None begun (λ h. cc) (λ h. cc)) (no_value begun)

pub returns-in-Err-clause-err : goal.returns-in-Err-clause-err
returns-in-Err-clause-err c =
    let text = c.args.text.now in
    let old = drop c.args.at text in
    let begun : kind_begun old ≡ Some kinds.Null =
    sym c.kind_at.ensures.kind ∙ c.in-Some-Null.is ∙ ap Some c.in-Some-Null.field-0-is in
    refused_json text old c.in-Err.fault c.no_json-in-Err.result c.no_json-in-Err.ensures
    (of_kind old (Some kinds.Null) begun (λ h. cc) (λ h. cc))
    (word_fault text old (codes "null") kinds.Null begun refl (Err c.in-Err.fault) c.in-Err.ensures.answer 0)

pub returns-in-Err-skip_bool-clause-err : goal.returns-in-Err-skip_bool-clause-err
returns-in-Err-skip_bool-clause-err c =
    let text = c.args.text.now in
    let old = drop c.args.at text in
    let begun : kind_begun old ≡ Some kinds.True =
    sym c.kind_at.ensures.kind ∙ c.in-Some-True.is ∙ ap Some c.in-Some-True.field-0-is in
    refused_json text old c.in-Err-skip_bool.fault c.no_json-in-Err-skip_bool.result c.no_json-in-Err-skip_bool.ensures
    (of_kind old (Some kinds.True) begun (λ h. cc) (λ h. cc))
    (word_fault text old (codes "true") kinds.True begun refl (Err c.in-Err-skip_bool.fault) c.in-Err-skip_bool.ensures.answer 0)

pub returns-in-Err-skip_bool-2-clause-err : goal.returns-in-Err-skip_bool-2-clause-err
returns-in-Err-skip_bool-2-clause-err c =
    let text = c.args.text.now in
    let old = drop c.args.at text in
    let begun : kind_begun old ≡ Some kinds.False =
    sym c.kind_at.ensures.kind ∙ c.in-Some-False.is ∙ ap Some c.in-Some-False.field-0-is in
    refused_json text old c.in-Err-skip_bool-2.fault c.no_json-in-Err-skip_bool-2.result c.no_json-in-Err-skip_bool-2.ensures
    (of_kind old (Some kinds.False) begun (λ h. cc) (λ h. cc))
    (word_fault text old (codes "false") kinds.False begun refl (Err c.in-Err-skip_bool-2.fault) c.in-Err-skip_bool-2.ensures.answer 0)

pub returns-in-Err-read_number-clause-err : goal.returns-in-Err-read_number-clause-err
returns-in-Err-read_number-clause-err c =
    let text = c.args.text.now in
    let old = drop c.args.at text in
    let begun : kind_begun old ≡ Some kinds.Number =
    sym c.kind_at.ensures.kind ∙ c.in-Some-Number.is ∙ ap Some c.in-Some-Number.field-0-is in
    refused_json text old c.in-Err-read_number.fault c.no_json-in-Err-read_number.result c.no_json-in-Err-read_number.ensures
    (of_kind old (Some kinds.Number) begun (λ h. cc) (λ h. cc))
    (number_fault text old begun (Err c.in-Err-read_number.fault)
    (c.in-Err-read_number.ensures.fault, c.in-Err-read_number.ensures.kind) 0)

pub returns-in-Err-Refused-clause-err : goal.returns-in-Err-Refused-clause-err
returns-in-Err-Refused-clause-err c =
    let text = c.args.text.now in
    let old = drop c.args.at text in
    let begun : kind_begun old ≡ Some kinds.String =
    sym c.kind_at.ensures.kind ∙ c.in-Some-String.is ∙ ap Some c.in-Some-String.field-0-is in
    refused_json text old c.in-Err-Refused.fault c.no_json-in-Err-Refused.result c.no_json-in-Err-Refused.ensures
    (of_kind old (Some kinds.String) begun (λ h. cc) (λ h. cc))
    (string_fault text old 0 begun (Err c.in-Err-Refused.fault)
    (rw c.in-Err-Refused.field-0-is at c.in-Err-Refused.ensures.fault))

pub returns-in-Some-Array-clause-err : goal.returns-in-Some-Array-clause-err
returns-in-Some-Array-clause-err c =
    let text = c.args.text.now in
    let old = drop c.args.at text in
    refused_value text c.args.at (NoScalarHere old) c.no_value.result c.no_value.ensures
    (is_array (sym c.kind_at.ensures.kind ∙ c.in-Some-Array.is ∙ ap Some c.in-Some-Array.field-0-is))

pub returns-in-Some-Object-clause-err : goal.returns-in-Some-Object-clause-err
returns-in-Some-Object-clause-err c =
    let text = c.args.text.now in
    let old = drop c.args.at text in
    refused_value text c.args.at (NoScalarHere old) c.no_value-in-Some-Object.result c.no_value-in-Some-Object.ensures
    (is_object (sym c.kind_at.ensures.kind ∙ c.in-Some-Object.is ∙ ap Some c.in-Some-Object.field-0-is))
