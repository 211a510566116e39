use Rattle.std.proofs.Common.{arith}
use Rattle.std.proofs.lemmas.Grind.{common_steps}
use Rattle.std.proofs.lemmas.List.{drop-drop}
use Rattle.wire_json.proofs.escape.read_escape.Goals as goal

pub returns-then-stands-clause-fault : goal.returns-then-stands-clause-fault
returns-then-stands-clause-fault c =
    let e = drop-drop 1 c.args.at c.args.text.now in
    rw e (grind (arith, common_steps))

pub returns-else-stands-clause-ok : goal.returns-else-stands-clause-ok
returns-else-stands-clause-ok c =
    let e = drop-drop 1 c.args.at c.args.text.now in
    rw e (grind (arith, common_steps))

pub returns-else-stands-clause-fault : goal.returns-else-stands-clause-fault
returns-else-stands-clause-fault c =
    let e = drop-drop 1 c.args.at c.args.text.now in
    rw e (grind (arith, common_steps))
