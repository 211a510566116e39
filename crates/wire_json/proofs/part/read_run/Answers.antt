use Rattle.std.proofs.Common.{drop}
use Rattle.wire_json.proofs.Runs.{between_places, plain_run, slice_plain, invalid_at}
use Rattle.wire_json.proofs.part.read_run.Goals as goal

pub returns-in-Ok-clause-ok : goal.returns-in-Ok-clause-ok
returns-in-Ok-clause-ok c =
    let (is, utf8) = c.in-Ok.ensures.cases in
    let text = c.args.text.now in
    rw is (plain_run _ (drop c.args.at text) (drop c.args.end text)
    (slice_plain text c.args.at c.args.end c.requires.order c.requires.plain) utf8
    (between_places text c.args.at c.args.end c.requires.order))

pub returns-in-Err-clause-fault : goal.returns-in-Err-clause-fault
returns-in-Err-clause-fault c =
    let (other, valid) = c.in-Err.ensures.cases in
    rw (c.syntax.ensures, c.valid_up_to.ensures) (invalid_at c.args.text.now c.args.at c.args.end _ c.requires.order
    c.requires.plain valid)
