use Rattle.std.proofs.Common.{arith}
use Rattle.wire_json.proofs.Runs.{between_places}
use Rattle.wire_json.proofs.number.read_number.Goals as goal

pub returns-in-Ok-clause-ok : goal.returns-in-Ok-clause-ok
returns-in-Ok-clause-ok c = record {
  parts = between_places c.args.text.now c.args.at c.in-Ok.after
      (omega (arith, c.in-Ok.ensures.behind.forward));
  ends = c.in-Ok.ensures.answer;
}
