use Rattle.std.proofs.Common.{rules, IfErr}
use Rattle.wire_read.specs.Faults.{IsFault}
use Rattle.wire_log.specs.Entries.{entry_limits}
use Rattle.wire_log.proofs.Stops.{none_at_fault}
use Rattle.wire_log.proofs.entry.check_records.Goals as goal

pub returns-clause-none : goal.returns-clause-none
returns-clause-none c =
    let payload = c.args.payload.now in
    let wrong : IfErr c.validate.result (IsFault entry_limits payload) = search rules in
    none_at_fault c.no_list_beside_fault.ensures c.whole_input.ensures payload c.validate.result
    wrong
