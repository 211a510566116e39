use Rattle.std.proofs.Common.{◌≡◌, drop, Some, ap, sym, ◌∙◌}
use Rattle.wire_json.specs.declared.kind.Kind.TheVariants as kinds
use Rattle.wire_json.specs.Fault.{deep_object}
use Rattle.wire_json.specs.Kind.{kind_begun}
use Rattle.wire_jsonfields.specs.Objects.{NoObjectHere, broken, nothing, other_kind}
use Rattle.wire_protojson.proofs.Refusing.{refused_as, refused_value}
use Rattle.wire_jsonfields.proofs.ObjectReads.{passed_up}
use Rattle.wire_jsonfields.proofs.object.read_object.Goals as goal

pub returns-in-None-clause-err : goal.returns-in-None-clause-err
returns-in-None-clause-err c =
    let old = drop c.args.at c.args.text.now in
    refused_as c.args.text.now _ (NoObjectHere c.args.levels old) c.no_json.result c.no_json.ensures
    (nothing (sym c.kind_at.ensures.kind ∙ c.in-None.is))

pub returns-then-levels-eq0-clause-err : goal.returns-then-levels-eq0-clause-err
returns-then-levels-eq0-clause-err c =
    let old = drop c.args.at c.args.text.now in
    let begun : kind_begun old ≡ Some kinds.Object =
    sym c.kind_at.ensures.kind ∙ c.in-Some.is ∙ ap Some c.if-not-is_object.ensures in
    refused_as c.args.text.now _ (NoObjectHere c.args.levels old) c.no_json-then-levels-eq0.result
    c.no_json-then-levels-eq0.ensures (broken _ _ begun (deep_object c.if-levels-eq0.true begun))

pub returns-else-levels-eq0-clause-err : goal.returns-else-levels-eq0-clause-err
returns-else-levels-eq0-clause-err c =
    let old = drop c.args.at c.args.text.now in
    let begun : kind_begun old ≡ Some kinds.Object =
    sym c.kind_at.ensures.kind ∙ c.in-Some.is ∙ ap Some c.if-not-is_object.ensures in
    passed_up c.args.text.now old c.args.levels begun c.if-levels-eq0.false c.read_members.result
    c.read_members.ensures.err

pub returns-then-not-is_object : goal.returns-then-not-is_object
returns-then-not-is_object c =
    let old = drop c.args.at c.args.text.now in
    record {
      ok = tt;
      behind = tt;
      err = refused_value c.args.text.now c.args.at (NoObjectHere c.args.levels old)
          c.no_value.result c.no_value.ensures
          (other_kind c.in-Some.kind (sym c.kind_at.ensures.kind ∙ c.in-Some.is)
          c.if-not-is_object.ensures);
    }
