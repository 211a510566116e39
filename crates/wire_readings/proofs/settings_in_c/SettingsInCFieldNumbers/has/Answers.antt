use Rattle.std.proofs.Common.{refl, rules}
use Rattle.wire_fields.specs.Arms.{neither, unlike}
use Rattle.wire_readings.specs.Settings.{settings-known}
use Rattle.wire_structs.proofs.Runs.{one_of}
use Rattle.wire_readings.proofs.settings_in_c.SettingsInCFieldNumbers.has.Goals as goal

pub returns-in-1-to-18 : goal.returns-in-1-to-18
returns-in-1-to-18 c = λ p.
    one_of (λ n. settings-known.owns n p) 1 18
    c.args.number refl (search rules) (search rules)

pub returns-in-20-to-21 : goal.returns-in-20-to-21
returns-in-20-to-21 c = λ p.
    one_of (λ n. settings-known.owns n p) 20 2
    c.args.number refl (search rules) (search rules)

pub returns-in_default : goal.returns-in_default
returns-in_default c =
    let n = c.args.number in
    λ p. neither _ _ (neither _ _
    (neither _ _ (neither _ _ (neither _ _ (neither _ _ (unlike n 1 (search rules))
    (unlike n 2 (search rules)))
    (neither _ _ (unlike n 3 (search rules))
    (unlike n 4 (search rules))))
    (neither _ _ (neither _ _ (unlike n 5 (search rules))
    (unlike n 6 (search rules)))
    (neither _ _ (unlike n 7 (search rules))
    (unlike n 8 (search rules)))))
    (neither _ _ (neither _ _ (neither _ _ (unlike n 9 (search rules))
    (unlike n 10 (search rules)))
    (neither _ _ (unlike n 11 (search rules))
    (unlike n 12 (search rules))))
    (neither _ _ (neither _ _ (unlike n 13 (search rules))
    (unlike n 14 (search rules)))
    (neither _ _ (unlike n 15 (search rules))
    (unlike n 16 (search rules))))))
    (neither _ _ (unlike n 17 (search rules))
    (unlike n 18 (search rules))))
    (neither _ _ (unlike n 20 (search rules))
    (unlike n 21 (search rules)))
