use Rattle.std.proofs.Common.{subst}
use Rattle.std.specs.Float.{Float, binary64}
use Rattle.std.specs.Prelude.{from_bits}
use Rattle.wire_well_known_json.specs.Structs.{IsValueTree, number_value}
use Rattle.wire_well_known_json.proofs.StructPuts.{number_tree, number_untold}
use Rattle.wire_well_known_json.proofs.structs_write.write_number.Goals as goal

pub returns-in_ok-write_double-in-Some-clause-ok : goal.returns-in_ok-write_double-in-Some-clause-ok
returns-in_ok-write_double-in-Some-clause-ok c =
    let (json, tree, put) = c.in_ok-write_double-in-Some.ensures.ok in
    let (is, finite) = rw c.in-Some.is at c.finite.ensures in (
      json,
      subst (λ (x : Float). IsValueTree (number_value x) json) is
          (number_tree c.in-Some.value finite json tree),
      put,
    )

pub returns-in-None-clause-no_text : goal.returns-in-None-clause-no_text
returns-in-None-clause-no_text c = λ other.
    number_untold (from_bits binary64 c.args.number.now.bits) (rw c.in-None.is at c.finite.ensures)
