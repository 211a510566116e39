use Rattle.std.proofs.Common.{sym, subst, ◌≡◌, ◌++◌}
use Rattle.std.specs.Float.{Float, binary64}
use Rattle.std.specs.Prelude.{OnOk}
use Rattle.wire_json.specs.Json.{Json}
use Rattle.wire_json.specs.Written.{written}
use Rattle.wire_protojson.specs.Trees.{IsFloatTree}
use Rattle.wire_protojson.proofs.Floats.{double_nan}
use Rattle.wire_jsonkinds.proofs.Bits.{double_of_nan}
use Rattle.wire_jsonkinds.proofs.floats.DoubleJsonScalar.write_json.Goals as goal

pub returns-in-None-clause-ok : goal.returns-in-None-clause-ok
returns-in-None-clause-ok c =
    let put : Float → Type 0 = λ x. OnOk c.write_double-in-None.result ((json : Json)
    × IsFloatTree binary64 x json
    × (c.write_double-in-None.new.out.items ≡ c.args.out.now.items ++ written json)) in
    subst put (sym (double_of_nan c.args.held.now.bits c.in-None.ensures.none))
    (subst put double_nan c.write_double-in-None.ensures.ok)
