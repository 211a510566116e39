use Rattle.std.proofs.Common.{rules, ◌≡◌, ◌+◌, [], ◌∷◌, ◌++◌, take, arith}
use Rattle.std.proofs.lemmas.Grind.{common_steps}
use Rattle.wire_dynamic.specs.Enums.{IsEnum}
use Rattle.wire_dynamic.proofs.Tables.{zip_pushed}
use Rattle.wire_dynamic.proofs.schema.enums_of.Goals as goal

pub loop-of_enum-preserved : goal.loop-of_enum-preserved
loop-of_enum-preserved c =
    let e = c.of_enum-item.result in
    let xs = c.args.declared.now.enums.items in
    let i = c.loop-of_enum.of_enum-index in
    let step : take (i + 1) xs ≡ take i xs ++ e ∷ [] = grind (arith, common_steps) in
    let pushed : c.push.new.self.items ≡ c.loop-of_enum.enums.items ++ c.in_ok-of.field-0 ∷ [] = search rules in
    rw (step, pushed) (zip_pushed IsEnum (take i xs) c.loop-of_enum.enums.items e c.in_ok-of.field-0 c.loop-of_enum.invariant c.in_ok-of.ensures)
