use Rattle.std.proofs.Common.{rules, ◌≡◌, ℤ, drop, FitsSigned, w32, sym, ◌∙◌, subst}
use Rattle.std.proofs.lemmas.Int.{to_z-of_z}
use Rattle.wire_codec.specs.Enumeration.{known_or}
use Rattle.wire_jsonkinds.proofs.ClosedNumbers.{lacks_number, refused_number, refused_open}
use Rattle.wire_jsonkinds.proofs.closed_enum.ClosedNamedJsonScalar.read_json.Goals as goal

pub returns-then-is_unknown-clause-err : goal.returns-then-is_unknown-clause-err
returns-then-is_unknown-clause-err g c =
    let number = c.in-Ok.number in
    let of_number = g.N.Enum.Enumeration.of_number in
    let fits : FitsSigned w32 number = search rules in
    let at = to_z-of_z w32 number fits in
    let is : c.from-value.result ≡ known_or (of_number number) number =
    subst (λ (z : ℤ). c.from-value.result ≡ known_or (of_number z) z) at
    c.from-value.ensures.value in
    refused_number of_number g.N.JsonNames.table c.args.text.now c.args.at
    (drop c.in-Ok.after c.args.text.now) number c.no_value.result c.no_value.ensures
    (rw c.names.ensures at c.in-Ok.ensures.ok)
    (lacks_number (of_number number) number c.from-value.result is
    (sym c.is_unknown.ensures ∙ c.if-is_unknown.true))

pub returns-in-Err-clause-err : goal.returns-in-Err-clause-err
returns-in-Err-clause-err g c =
    refused_open g.N.Enum.Enumeration.of_number g.N.JsonNames.table c.args.text.now
    (drop c.args.at c.args.text.now) c.in-Err.error
    (rw c.names.ensures at c.in-Err.ensures.err)
