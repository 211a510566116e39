use Rattle.std.proofs.Common.{◌≡◌, ◌++◌, FitsSigned, rules, w32, subst}
use Rattle.std.proofs.lemmas.Int.{to_z-of_z}
use Rattle.std.specs.Prelude.{ℤ, OnOk}
use Rattle.wire_json.specs.Json.{Json}
use Rattle.wire_json.specs.Written.{written}
use Rattle.wire_protojson.specs.Enums.{IsEnumTree}
use Rattle.wire_jsonkinds.proofs.enum_value.EnumNamedJsonScalar.write_json.Goals as goal

pub returns-clause-ok : goal.returns-clause-ok
returns-clause-ok g c =
    let fits : FitsSigned w32 c.to_i32.result = search rules in
    let at = to_z-of_z w32 c.to_i32.result fits in
    let put : ℤ → Type 0 = λ n. OnOk c.write_enum.result ((json : Json)
    × IsEnumTree g.N.JsonNames.table n json
    × (c.write_enum.new.out.items ≡ c.args.out.now.items ++ written json)) in
    subst put c.to_i32.ensures (subst put at (rw c.names.ensures at c.write_enum.ensures.ok))
