use Rattle.std.proofs.Common.{List, ℕ, ap, ◌++◌, ◌∙◌}
use Rattle.std.proofs.lemmas.Str.{IsUtf8-string_bytes}
use Rattle.std.specs.Prelude.{string_bytes}
use Rattle.wire_json.specs.Json.{string}
use Rattle.wire_json.specs.Written.{written}
use Rattle.wire_well_known_json.proofs.StructPuts.{string_tree}
use Rattle.wire_well_known_json.proofs.structs_write.write_text.Goals as goal

pub returns-clause-ok : goal.returns-clause-ok
returns-clause-ok c =
    let text = string_bytes c.args.text.now in (
      string text,
      string_tree text (IsUtf8-string_bytes c.args.text.now),
      c.in_ok-write_string.ensures.ok
          ∙ ap (λ (l : List ℕ). c.args.out.now.items ++ written (string l)) c.as_str.ensures.value,
    )
