use Rattle.std.proofs.Common.{◌≡◌, rules, subst, w32}
use Rattle.std.specs.Prelude.{FitsSigned, IfOk, OnOk}
use Rattle.wire_codec.specs.Records.{text_size}
use Rattle.wire_codec.specs.Sizes.{cut, cut_sizes}
use Rattle.wire_codec.specs.Tape.{recorded}
use Rattle.wire_samples.specs.Person.{person_value}
use Rattle.wire_samples.proofs.PersonTable.{same_records}
use Rattle.wire_samples.proofs.person.measure_records.Goals as goal

pub returns-clause-size : goal.returns-clause-size
returns-clause-size c =
    let fits : FitsSigned w32 c.args.person.now.id = search rules in
    subst (λ rs. IfOk c.measure.result (λ answer. answer ≡ cut (text_size rs)))
    (same_records (person_value c.args.person.now) fits) c.measure.ensures.size

pub returns-clause-sizes : goal.returns-clause-sizes
returns-clause-sizes c =
    let fits : FitsSigned w32 c.args.person.now.id = search rules in
    subst (λ rs. OnOk c.measure.result (c.measure.new.cache
    ≡ recorded c.args.cache.now (cut_sizes rs)))
    (same_records (person_value c.args.person.now) fits) c.measure.ensures.sizes
