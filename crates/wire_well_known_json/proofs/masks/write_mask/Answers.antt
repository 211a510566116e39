use Rattle.std.proofs.Common.{List, ℕ, ap, refl, ◌++◌, ◌∙◌}
use Rattle.std.proofs.lemmas.Str.{IsUtf8-string_bytes}
use Rattle.std.specs.Prelude.{string_bytes}
use Rattle.wire_json.specs.Json.{string}
use Rattle.wire_json.specs.Written.{written}
use Rattle.wire_well_known_json.proofs.masks.write_mask.Goals as goal

pub returns-in_ok-write_string-in-Some-clause-ok : goal.returns-in_ok-write_string-in-Some-clause-ok
returns-in_ok-write_string-in-Some-clause-ok c =
    let text = string_bytes c.in-Some.text in
    let means = rw c.in-Some.is at c.in_ok-text.ensures in (
      string text,
      (text, IsUtf8-string_bytes c.in-Some.text, means, refl),
      c.in_ok-write_string-in-Some.ensures.ok
          ∙ ap (λ (l : List ℕ). c.args.out.now.items ++ written (string l)) c.as_str.ensures.value,
    )
