use Rattle.std.proofs.Common.{rules, ◌≡◌, ◌+◌, [], ◌∷◌, ◌++◌, take, arith, refl}
use Rattle.std.proofs.lemmas.Grind.{common_steps}
use Rattle.wire_dynamic.specs.declared.declared.DeclaredExtension.{DeclaredExtension}
use Rattle.wire_dynamic.specs.Declares.{at_descriptor, IsExtensionOf}
use Rattle.wire_dynamic.proofs.Declaring.{gains_more}
use Rattle.wire_dynamic.proofs.declared.add_extensions.Goals as goal

pub loop-descriptor-preserved : goal.loop-descriptor-preserved
loop-descriptor-preserved c =
    let d = c.descriptor-item.result in
    let scope = c.args.scope.now in
    let outer = c.args.outer in
    let xs = c.args.descriptors.now in
    let i = c.loop-descriptor.descriptor-index in
    let e : DeclaredExtension = record { name = c.in_ok-full_name.field-0; descriptor = c.in_ok-clone.field-0; features = outer } in
    let step : take (i + 1) xs ≡ take i xs ++ d ∷ [] = grind (arith, common_steps) in
    let pushed : c.push.new.self.items ≡ c.loop-descriptor.extensions.items ++ e ∷ [] = search rules in
    let is : IsExtensionOf (at_descriptor scope outer d) e = record { named = search rules; descriptor = search rules; features = refl } in
    rw step (gains_more IsExtensionOf scope outer (take i xs) d e c.args.extensions.now.items c.loop-descriptor.extensions.items c.push.new.self.items c.loop-descriptor.invariant is pushed)
