use Rattle.std.proofs.Common.{◌≡◌, rules, subst, sym, w32, length, ◌≤◌}
use Rattle.std.specs.Prelude.{FitsSigned, OnOk}
use Rattle.wire_codec.specs.Records.{text, text_size}
use Rattle.wire_codec.specs.Sizes.{sizes}
use Rattle.wire_codec.specs.Tape.{NextAre, advanced}
use Rattle.wire_codec.specs.Writes.{Writes}
use Rattle.wire_samples.specs.Person.{person_value}
use Rattle.wire_samples.proofs.PersonTable.{same_records}
use Rattle.wire_samples.proofs.person.write_records.Goals as goal

pub write-requires-clause-sizes : goal.write-requires-clause-sizes
write-requires-clause-sizes g c =
    let fits : FitsSigned w32 c.args.person.now.id = search rules in
    subst (λ rs. NextAre (sizes rs) c.args.cache.now)
    (sym (same_records (person_value c.args.person.now) fits)) c.requires.sizes

pub write-requires-clause-size : goal.write-requires-clause-size
write-requires-clause-size g c =
    let fits : FitsSigned w32 c.args.person.now.id = search rules in
    subst (λ rs. text_size rs ≤ 2147483647)
    (sym (same_records (person_value c.args.person.now) fits)) c.requires.size

pub returns-clause-written : goal.returns-clause-written
returns-clause-written g c =
    let fits : FitsSigned w32 c.args.person.now.id = search rules in
    subst (λ rs. Writes (text rs) (g.S.EncodeSink.held c.args.sink.now)
    (g.S.EncodeSink.held c.write.new.sink) c.write.result)
    (same_records (person_value c.args.person.now) fits) c.write.ensures.written

pub returns-clause-read : goal.returns-clause-read
returns-clause-read g c =
    let fits : FitsSigned w32 c.args.person.now.id = search rules in
    subst (λ rs. OnOk c.write.result (c.write.new.cache
    ≡ advanced c.args.cache.now (length (sizes rs))))
    (same_records (person_value c.args.person.now) fits) c.write.ensures.read
