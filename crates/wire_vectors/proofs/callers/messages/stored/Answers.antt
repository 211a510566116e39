use Rattle.std.proofs.Common.{rules, ◌≡◌, ◌≤◌, None}
use Rattle.wire_codec.specs.Charge.{charge}
use Rattle.wire_codec.specs.Limits.{Limits}
use Rattle.wire_codec.specs.Records.{text, text_size}
use Rattle.wire_samples.specs.Person.{person_records, person_value}
use Rattle.wire_vectors.proofs.callers.messages.stored.Goals as goal

pub returns : goal.returns
returns c =
    let person = person_value c.in_ok-person.person in
    let read = c.in_ok-person.ensures.ok in
    let within : text_size (person_records person) ≤ 2147483647 = search rules in
    let encoded : c.deref.result.now ≡ text (person_records person) = search rules in
    let back = c.decoded_persons_fold_back.ensures.back _ person read within in
    let taken = charge person.unknown in
    let room : Limits = record {
      depth = taken.depth;
      counts = record { unknown_fields = None; element_memory = None; unknown_bytes = None };
    } in
    let decoded = c.text_decodes.ensures room person taken back.fitting back.numbered back.folded
    (search rules) in
    let again = rw encoded at c.in_ok-again.ensures.ok.1 in
    record { same = (c.taken_in_one_way.ensures _ _ _ _ _ _ _ _ _ _ _ again decoded).1 }
