use Rattle.std.proofs.Common.{rules, ap, sym, ◌∙◌}
use Rattle.std.proofs.lemmas.Fn.{filter_same}
use Rattle.std.specs.Prelude.{not}
use Rattle.wire_codec.specs.UnknownField.{UnknownField}
use Rattle.wire_codec.specs.UnknownFields.{payload_of, fields_of}
use Rattle.wire_extensions.proofs.Records.{filtered_are_others}
use Rattle.wire_extensions.specs.Extension.{is_own, others}
use Rattle.wire_extensions.proofs.extension.Extension.clear.Goals as goal

pub returns : goal.returns
returns g c =
    let owns = is_own c.args.self.now.number c.args.self.now.types in
    let (all, kept, was, is, filtered) = c.retain.ensures.kept in
    sym is ∙ ap fields_of (filter_same _
    (λ (f : UnknownField). not (owns f.number (payload_of f.value))) _
    (λ x b f k. search rules) all kept filtered)
    ∙ filtered_are_others owns all ∙ ap (others owns) was
