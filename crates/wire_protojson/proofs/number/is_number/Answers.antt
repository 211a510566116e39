use Rattle.std.proofs.Common.{refl}
use Rattle.wire_protojson.proofs.NumberTexts.{ends_before}
use Rattle.wire_protojson.proofs.number.is_number.Goals as goal

pub returns-in-Ok-clause-no : goal.returns-in-Ok-clause-no
returns-in-Ok-clause-no c =
    ends_before c.args.text.now c.in-Ok.end _ refl c.in-Ok.ensures.answer c.in-Ok.ensures.behind.within
