use Rattle.std.proofs.Common.{rules, ◌≡◌, ◌+◌, [], ◌∷◌, ◌++◌, take, arith}
use Rattle.std.proofs.lemmas.Grind.{common_steps}
use Rattle.wire_dynamic.specs.declared.declared.DeclaredEnum.{DeclaredEnum}
use Rattle.wire_dynamic.specs.Declares.{at_descriptor, IsEnumOf}
use Rattle.wire_dynamic.proofs.Declaring.{gains_more}
use Rattle.wire_dynamic.proofs.declared.add_enums.Goals as goal

pub loop-descriptor-preserved : goal.loop-descriptor-preserved
loop-descriptor-preserved c =
    let d = c.descriptor-item.result in
    let scope = c.args.scope.now in
    let outer = c.args.outer in
    let xs = c.args.descriptors.now in
    let i = c.loop-descriptor.descriptor-index in
    let e : DeclaredEnum = record { name = c.in_ok-full_name.field-0; descriptor = c.in_ok-clone.field-0; features = c.enum_features.result } in
    let step : take (i + 1) xs ≡ take i xs ++ d ∷ [] = grind (arith, common_steps) in
    let pushed : c.push.new.self.items ≡ c.loop-descriptor.enums.items ++ e ∷ [] = search rules in
    let is : IsEnumOf (at_descriptor scope outer d) e = record { named = search rules; descriptor = search rules; features = search rules } in
    rw step (gains_more IsEnumOf scope outer (take i xs) d e c.args.enums.now.items c.loop-descriptor.enums.items c.push.new.self.items c.loop-descriptor.invariant is pushed)
