use Rattle.std.proofs.Common.{rules, ◌≡◌, subst}
use Rattle.wire_dynamic.proofs.Found.{not_number}
use Rattle.std.proofs.Common.{w32, SFits}
use Rattle.std.proofs.lemmas.Int.{to_z-of_z}
use Rattle.wire_dynamic.specs.Fields.{scalar_of}
use Rattle.wire_dynamic.proofs.field.kind_of.Goals as goal

pub returns : goal.returns
returns c =
    let t = c.args.descriptor.now.type_ in
    let fits : SFits w32 t = search rules in
    rw (not_number t 10 c.if-number-eq-TYPE_GROUP.false, not_number t 11 c.if-number-eq-TYPE_MESSAGE.false, not_number t 14 c.if-number-eq-TYPE_ENUM.false) (subst (λ q. c.scalar_of.result ≡ scalar_of q) (to_z-of_z w32 t fits) c.scalar_of.ensures)
