use Rattle.std.proofs.Common.{sym, ◌∙◌}
use Rattle.std.specs.Prelude.{codes}
use Rattle.std.specs.Float.{binary64}
use Rattle.wire_json.specs.Json.{number, string}
use Rattle.wire_protojson.specs.Trees.{IsFloatTree}
use Rattle.wire_protojson.proofs.Floats.{finite_tree, nan_tree, infinity_tree, minus_infinity_tree, put_tree}
use Rattle.wire_protojson.proofs.PlainNumbers.{spells_plain}
use Rattle.wire_protojson.proofs.write.write_double.Goals as goal

pub returns-then-is_finite-clause-ok : goal.returns-then-is_finite-clause-ok
returns-then-is_finite-clause-ok c =
    let text = c.format_finite.result.now in
    let tree = finite_tree binary64 c.args.value text (sym c.is_finite.ensures.value ∙ c.if-is_finite.true)
    (spells_plain text c.format_finite.ensures.plain) c.format_finite.ensures.parses in
    put_tree (IsFloatTree binary64 c.args.value) (number text) tree c.write_number.result c.args.out.now.items
    c.write_number.new.out.items (rw (← c.as_bytes.ensures.value) c.write_number.ensures.ok)

pub returns-then-is_nan-clause-ok : goal.returns-then-is_nan-clause-ok
returns-then-is_nan-clause-ok c =
    put_tree (IsFloatTree binary64 c.args.value) (string (codes "NaN"))
    (nan_tree binary64 c.args.value (sym c.is_nan.ensures.value ∙ c.if-is_nan.true)) c.write_string.result
    c.args.out.now.items c.write_string.new.out.items c.write_string.ensures.ok

pub returns-then-is_sign_negative-clause-ok : goal.returns-then-is_sign_negative-clause-ok
returns-then-is_sign_negative-clause-ok c =
    put_tree (IsFloatTree binary64 c.args.value) (string (codes "-Infinity"))
    (minus_infinity_tree binary64 c.args.value (sym c.is_finite.ensures.value ∙ c.if-is_finite.false)
    (sym c.is_nan.ensures.value ∙ c.if-is_nan.false)
    (sym c.is_sign_negative.ensures ∙ c.if-is_sign_negative.true))
    c.write_string-then-is_sign_negative.result c.args.out.now.items
    c.write_string-then-is_sign_negative.new.out.items c.write_string-then-is_sign_negative.ensures.ok

pub returns-clause-ok : goal.returns-clause-ok
returns-clause-ok c =
    put_tree (IsFloatTree binary64 c.args.value) (string (codes "Infinity"))
    (infinity_tree binary64 c.args.value (sym c.is_finite.ensures.value ∙ c.if-is_finite.false)
    (sym c.is_nan.ensures.value ∙ c.if-is_nan.false)
    (sym c.is_sign_negative.ensures ∙ c.if-is_sign_negative.false))
    c.write_string-2.result c.args.out.now.items c.write_string-2.new.out.items c.write_string-2.ensures.ok
