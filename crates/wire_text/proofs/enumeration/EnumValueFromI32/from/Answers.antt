use Rattle.std.proofs.Common.{rules}
use Rattle.wire_text.proofs.enumeration.EnumValueFromI32.from.Goals as goal

-- the number of the value that the enum gave, by the enum's law
pub returns-in-Some-clause-number : goal.returns-in-Some-clause-number
returns-in-Some-clause-number g c =
    let kept = g.met.E.Enumeration.keeps_number c.args.number c.in-Some.value
    (search rules) in search rules
