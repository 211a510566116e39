use Rattle.std.proofs.Common.{◌≡◌, ◌≢◌, ℕ, List, [], ◌∷◌, refl, sym, ap, ◌∙◌, arith}
use Rattle.wire_dump.specs.Names.{without_dot}
use Rattle.wire_dump.proofs.field_name.shown_name.Goals as goal

undotted : (bs : List ℕ) → ((rest : List ℕ) → bs ≢ 46 ∷ rest) → without_dot bs ≡ bs
undotted [] other = refl
undotted (b ∷ bs) other =
    let differs : b ≢ 46 = λ e. other bs (ap (λ (x : ℕ). x ∷ bs) e) in
    grind (arith, differs)

pub returns-in-None : goal.returns-in-None
unfolding lib.Utf8.encode
returns-in-None c =
    let bs = c.as_str-name.result.now in
    sym (undotted bs (λ rest e. c.in-None.ensures.cases rest e))
    ∙ ap without_dot c.as_str-name.ensures.value
