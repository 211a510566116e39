-- Messages that can be encoded.
use Rattle.std.specs.Prelude.{◌≤◌}
use Rattle.wire_codec.specs.Records.{text_size}
use Rattle.wire_samples.specs.declared.person.Person.{Person}
use Rattle.wire_samples.specs.Person.{person_records, person_value}

-- the text of the person is no longer than a message may be
abbrev pub IsEncodable : Person → Type 0
IsEncodable person = text_size (person_records (person_value person)) ≤ 2147483647
