use Rattle.std.proofs.Common.{◌+◌, List, drop, sym, ◌∙◌, subst}
use Rattle.wire_jsonfields.specs.declared.object.PlacedMember.{PlacedMember}
use Rattle.wire_jsonfields.specs.Maps.{entries_seen}
use Rattle.wire_jsonfields.proofs.MapReads.{MapSofar, map_goes_on, next_member, no_value, none_found, old_key, seen_found, seen_insert}
use Rattle.wire_jsonfields.proofs.map.read_map_entries.Goals as goal

pub returns-then-has_key-clause-err : goal.returns-then-has_key-clause-err
returns-then-has_key-clause-err g c = λ other ms are fits.
    let key = g.K.JsonKey in
    let value = g.V.JsonValue in
    let text = c.args.text.now in
    let entries = c.args.members.now in
    let i = c.loop-member.member-index in
    let item = c.member-item.result in
    let map = entries_seen key.view value.view c.loop-member.map.entries in
    let P : List PlacedMember → Type 0 = λ l. MapSofar key.order key.means value.means text l map ms in
    let sofar = subst P (next_member entries i item c.loop-member-test.true c.member-item.is)
    (c.loop-member.invariant ms are) in
    let named = rw c.as_str.ensures.value at (rw c.in-Ok-Some.field-0-is at c.in-Ok-Some.ensures) in
    old_key key.order key.means value.means text item (drop (i + 1) entries) map ms sofar
    g.K.JsonKey.one_key (key.view c.in-Ok-Some.key) named
    (sym (seen_found key.view value.view _ key.order g.met.K.JsonKey.ordered c.loop-member.map.entries
    c.in-Ok-Some.key) ∙ sym c.has_key.ensures ∙ c.if-has_key.true)

pub returns-in-Err-read_json-clause-err : goal.returns-in-Err-read_json-clause-err
returns-in-Err-read_json-clause-err g c = λ other ms are fits.
    let key = g.K.JsonKey in
    let value = g.V.JsonValue in
    let entries = c.args.members.now in
    let i = c.loop-member.member-index in
    let item = c.member-item.result in
    let map = entries_seen key.view value.view c.loop-member.map.entries in
    let P : List PlacedMember → Type 0 = λ l. MapSofar key.order key.means value.means c.args.text.now l map ms in
    let sofar = subst P (next_member entries i item c.loop-member-test.true c.member-item.is)
    (c.loop-member.invariant ms are) in
    no_value key.order key.means value.means c.args.text.now item (drop (i + 1) entries) map ms sofar
    c.args.levels (c.in-Err-read_json.ensures.err other) fits

pub loop-member-preserved : goal.loop-member-preserved
loop-member-preserved g c = λ ms are.
    let key = g.K.JsonKey in
    let value = g.V.JsonValue in
    let text = c.args.text.now in
    let entries = c.args.members.now in
    let i = c.loop-member.member-index in
    let item = c.member-item.result in
    let held = c.loop-member.map.entries in
    let map = entries_seen key.view value.view held in
    let P : List PlacedMember → Type 0 = λ l. MapSofar key.order key.means value.means text l map ms in
    let sofar = subst P (next_member entries i item c.loop-member-test.true c.member-item.is)
    (c.loop-member.invariant ms are) in
    let named = rw c.as_str.ensures.value at (rw c.in-Ok-Some.field-0-is at c.in-Ok-Some.ensures) in
    let new = none_found _
    (sym (seen_found key.view value.view _ key.order g.met.K.JsonKey.ordered held c.in-Ok-Some.key)
    ∙ sym c.has_key.ensures ∙ c.if-has_key.false) in
    let next = map_goes_on key.order key.means value.means text item (drop (i + 1) entries) map ms
    sofar g.K.JsonKey.one_key (key.view c.in-Ok-Some.key) named g.V.JsonValue.one_value
    c.args.levels (value.view c.in-Ok.value) _ c.in-Ok.ensures.ok new in
    let put = seen_insert key.view value.view _ key.order g.met.K.JsonKey.ordered held
    c.in-Ok-Some.key c.in-Ok.value in
    rw (c.in_ok-put_entry-in-Ok.ensures, put) next
