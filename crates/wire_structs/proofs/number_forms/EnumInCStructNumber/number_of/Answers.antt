use Rattle.std.proofs.Common.{◌≡◌, ap, rules, sym, ◌∙◌}
use Rattle.wire_codec.specs.ValueMap.{int32}
use Rattle.wire_structs.proofs.Writing.{kept_number}
use Rattle.wire_structs.proofs.number_forms.EnumInCStructNumber.number_of.Goals as goal

pub returns-clause-number : goal.returns-clause-number
returns-clause-number g c =
    let is : c.number_of.result ≡ int32.enc c.args.held.now = search rules in
    is ∙ ap int32.enc (sym (kept_number
    g.E.Enumeration.number g.E.Enumeration.of_number g.met.E.Enumeration.keeps_number
    c.args.held.now))
