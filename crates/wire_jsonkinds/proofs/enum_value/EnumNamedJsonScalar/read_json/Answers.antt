use Rattle.wire_jsonkinds.proofs.enum_value.EnumNamedJsonScalar.read_json.Goals as goal

pub returns-in-Err-clause-err : goal.returns-in-Err-clause-err
returns-in-Err-clause-err g c = rw c.names.ensures at c.in-Err.ensures.err
