use Rattle.std.proofs.Common.{◌≡◌, rules, subst}
use Rattle.std.proofs.lemmas.Result.{IfErr-weaker}
use Rattle.wire_codec.specs.Ending.{by_input}
use Rattle.wire_codec.specs.Records.{text}
use Rattle.wire_codec.specs.Refusal.{ListRefusal}
use Rattle.wire_extensions.proofs.Storing.{not_stored}
use Rattle.wire_extensions.proofs.putting.stored.Goals as goal

pub returns-clause-err : goal.returns-clause-err
returns-clause-err g c =
    let rs = g.K.Kind.kind.records c.args.number (g.K.Kind.view c.args.held.now) in
    let is : c.deref.result.now ≡ text rs = search rules in
    IfErr-weaker c.decode_from_slice_within.result _ _ (λ e refused other.
    not_stored c.whole_input.ensures c.no_list_beside_fault.ensures rs _ _ e is
    (subst (λ l. ListRefusal l by_input c.deref.result.now e) c.new-context.ensures refused) other)
    c.decode_from_slice_within.ensures.fault
