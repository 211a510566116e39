use Rattle.std.proofs.Common.{◌≡◌, rules, ap, subst}
use Rattle.std.proofs.lemmas.Result.{IfErr-weaker}
use Rattle.std.specs.Prelude.{None}
use Rattle.wire_codec.specs.Limits.{Fits}
use Rattle.wire_codec.specs.ValueMap.{int32}
use Rattle.wire_fields.specs.Closed.{sort_charge}
use Rattle.wire_fields.proofs.closed.sort_number.Goals as goal

pub returns-in-None-clause-err : goal.returns-in-None-clause-err
returns-in-None-clause-err g c =
    let is : g.E.Enumeration.of_number (int32.dec c.args.x) ≡ None = search rules in
    IfErr-weaker c.keep_number.result _ _ (λ e none other fits. none other
    (subst (λ a. Fits a c.args.context.now) (ap sort_charge is) fits)) c.keep_number.ensures.err
