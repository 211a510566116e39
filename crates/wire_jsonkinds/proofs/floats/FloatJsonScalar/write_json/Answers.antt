use Rattle.std.proofs.Common.{sym, subst, ◌≡◌, ◌++◌}
use Rattle.std.specs.Float.{Float, binary32}
use Rattle.std.specs.Prelude.{OnOk}
use Rattle.wire_json.specs.Json.{Json}
use Rattle.wire_json.specs.Written.{written}
use Rattle.wire_protojson.specs.Trees.{IsFloatTree}
use Rattle.wire_protojson.proofs.Floats.{float_nan}
use Rattle.wire_jsonkinds.proofs.Bits.{float_of_nan}
use Rattle.wire_jsonkinds.proofs.floats.FloatJsonScalar.write_json.Goals as goal

pub returns-in-None-clause-ok : goal.returns-in-None-clause-ok
returns-in-None-clause-ok c =
    let put : Float → Type 0 = λ x. OnOk c.write_float-in-None.result ((json : Json)
    × IsFloatTree binary32 x json
    × (c.write_float-in-None.new.out.items ≡ c.args.out.now.items ++ written json)) in
    subst put (sym (float_of_nan c.args.held.now.bits c.in-None.ensures.none))
    (subst put float_nan c.write_float-in-None.ensures.ok)
