use Rattle.std.proofs.Common.{take, sym, rules, take-append-drop}
use Rattle.wire_read.specs.Reading.{Gives, at}
use Rattle.wire_min.proofs.Shortening.{taken_from}
use Rattle.wire_min.proofs.shorten.next_item.Goals as goal

pub returns-in-Some-clause-item : goal.returns-in-Some-clause-item
returns-in-Some-clause-item c =
    let all = c.args.bytes.now in
    let r = c.args.reader.now in
    let e = c.in-Some.event in
    let given : Gives e all (at r all) (at c.next.new.self all) = search rules in
    rw c.kind_of.ensures (taken_from e.number e.value all (take r.place all) (at r all)
    (at c.next.new.self all) given.behind e.end (sym (take-append-drop r.place all)) given.moves
    given.end)
