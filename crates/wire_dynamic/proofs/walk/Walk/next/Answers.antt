use Rattle.std.proofs.Common.{◌≡◌, ℕ, ap, ◌∙◌, length, rules, subst, sym}
use Rattle.std.specs.Prelude.{IfSome}
use Rattle.std.proofs.lemmas.List.{length-reverse}
use Rattle.wire_read.specs.Reading.{Gives, at, groups_of}
use Rattle.wire_dynamic.specs.Walks.{innermost}
use Rattle.wire_dynamic.proofs.Unknown.{known_behind}
use Rattle.wire_dynamic.proofs.walk.Walk.next.Goals as goal

pub invariant_of-self-2-clause-counts : goal.invariant_of-self-2-clause-counts
invariant_of-self-2-clause-counts c =
    let w = c.args.self.now in
    let s = w.schema.now in
    let all = c.args.bytes.now in
    let e = c.in-Some.event in
    let new = c.next.new.self in
    let a = at w.reader all in
    let b = at new all in
    let type = c.match-event-2.innermost in
    let now = c.known_groups-known.result in
    let given : Gives e all a b = search rules in
    let tells : type ≡ innermost s w.root (groups_of new) = search rules in
    let groups = c.open_groups-2.result.now in
    let count : length groups ≡ length (groups_of new) =
    sym (length-reverse groups) ∙ ap length c.open_groups-2.ensures in
    let some = subst (λ (x : ℕ). IfSome type (λ _. now ≡ x)) count c.known_groups-known.ensures.yes
    in
    known_behind s w.root e.number e.value a b given.behind w.known type now given.moves w.counts
    tells some c.known_groups-known.ensures.no
