use Rattle.std.proofs.Common.{ℕ, List, Some, ◌+◌, drop, ap, sym, ◌∙◌}
use Rattle.wire_jsontimes.specs.Digits as spec
use Rattle.wire_jsontimes.proofs.Taken.{no_zero, whole_begun}
use Rattle.wire_jsontimes.proofs.digits.whole_at.Goals as goal

pub returns-in-Some-digit_of-clause-whole : goal.returns-in-Some-digit_of-clause-whole
returns-in-Some-digit_of-clause-whole c =
    let byte = c.in-Some.byte in
    let rest = drop (c.args.at + 1) c.args.text.now in
    let is = c.in-Some.ensures.0 in
    let begun = whole_begun byte rest (no_zero byte c.in-Some.byte-test.1)
    c.in-Some-digit_of.ensures.0 in
    ap spec.whole_at is ∙ begun
    ∙ ap Some (ap (λ (l : List ℕ). spec.times 12 spec.digit_more (0, l)) (sym is)
    ∙ sym c.twelve_digits.ensures.front)
