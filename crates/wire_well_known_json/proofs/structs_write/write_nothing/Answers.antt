use Rattle.wire_well_known_json.proofs.StructPuts.{nothing_untold}
use Rattle.wire_well_known_json.proofs.structs_write.write_nothing.Goals as goal

pub returns-clause-no_text : goal.returns-clause-no_text
returns-clause-no_text c = λ other. nothing_untold
