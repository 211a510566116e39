use Rattle.std.proofs.Common.{sym, subst, inl}
use Rattle.std.specs.Float.{Float}
use Rattle.wire_protojson.specs.Numbers.{MeansByWord}
use Rattle.wire_protojson.specs.Tokens.{token_tree}
use Rattle.wire_protojson.proofs.Floats.{float_nan, float_infinity, float_minus_infinity}
use Rattle.wire_protojson.proofs.float.float_of.Goals as goal

pub returns-in-Some-NotANumber-clause-some : goal.returns-in-Some-NotANumber-clause-some
returns-in-Some-NotANumber-clause-some c =
    let P : Float → Type 0 = λ x. MeansByWord (token_tree c.args.token.now) x in
    inl (subst P (sym float_nan) (rw c.in-Some-NotANumber.field-0-is at c.in-Some-NotANumber.ensures.some))

pub returns-in-Some-Infinity-clause-some : goal.returns-in-Some-Infinity-clause-some
returns-in-Some-Infinity-clause-some c =
    let P : Float → Type 0 = λ x. MeansByWord (token_tree c.args.token.now) x in
    inl (subst P (sym float_infinity) (rw c.in-Some-Infinity.field-0-is at c.in-Some-Infinity.ensures.some))

pub returns-in-Some-MinusInfinity-clause-some : goal.returns-in-Some-MinusInfinity-clause-some
returns-in-Some-MinusInfinity-clause-some c =
    let P : Float → Type 0 = λ x. MeansByWord (token_tree c.args.token.now) x in
    inl (subst P (sym float_minus_infinity) (rw c.in-Some-MinusInfinity.field-0-is at c.in-Some-MinusInfinity.ensures.some))
