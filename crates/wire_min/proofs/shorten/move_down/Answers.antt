use Rattle.std.proofs.Common.{◌≡◌, ℕ, sym, ap, ◌∙◌, arith}
use Rattle.std.specs.List.{copy_within}
use Rattle.wire_min.proofs.Shortening.{copied_onto}
use Rattle.wire_min.proofs.shorten.move_down.Goals as goal

pub returns-else-place-start : goal.returns-else-place-start
returns-else-place-start c =
    let bytes = c.args.bytes.now in
    let here : c.args.place ≡ c.args.start = omega arith in
    sym (ap (λ (n : ℕ). copy_within bytes c.args.start c.args.end n) here
    ∙ copied_onto bytes c.args.start c.args.end)
