use Rattle.std.proofs.Common.{List, ℕ, sym, ◌∙◌, subst}
use Rattle.wire_protojson.specs.Scalars.{MeansString}
use Rattle.wire_protojson.specs.Tokens.{token_tree}
use Rattle.wire_protojson.proofs.Texts.{decoded}
use Rattle.wire_protojson.proofs.text.bytes_of.Goals as goal

pub returns-in-Some : goal.returns-in-Some
returns-in-Some c =
    let json = token_tree c.args.token in
    let P : List ℕ → Type 0 = λ t. MeansString json t in
    let is = subst P (sym (c.as_bytes.ensures.value ∙ c.as_str.ensures.value)) c.in-Some.ensures.some in
    decoded json c.as_bytes.result.now is (λ v. v.items) c.of_base64.result c.of_base64.ensures
