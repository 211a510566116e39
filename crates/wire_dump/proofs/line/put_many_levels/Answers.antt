use Rattle.std.proofs.Common.{◌≡◌, ℕ, ◌+◌, ◌*◌, List, [], ◌∷◌, ◌++◌, replicate, ap, ◌∙◌, append_assoc, arith, rules}
use Rattle.std.proofs.lemmas.List.{replicate-append-replicate}
use Rattle.wire_dump.specs.Lines.{indented}
use Rattle.wire_dump.proofs.line.put_many_levels.Goals as goal

one_more : (n : ℕ) (old mid new : List ℕ) → mid ≡ old ++ indented n → new ≡ mid ++ 32 ∷ 32 ∷ []
    → new ≡ old ++ indented (n + 1)
one_more n old mid new e f =
    let twice : 2 * n + 2 ≡ 2 * (n + 1) = omega arith in
    f ∙ ap (λ (l : List ℕ). l ++ 32 ∷ 32 ∷ []) e ∙ append_assoc old (indented n) (32 ∷ 32 ∷ [])
    ∙ ap (λ (l : List ℕ). old ++ l) (replicate-append-replicate (2 * n) 2 32)
    ∙ ap (λ (k : ℕ). old ++ replicate k 32) twice

pub loop-preserved : goal.loop-preserved
loop-preserved c = one_more c.loop.counter c.args.out.now.items _ _ c.loop.invariant (search rules)
