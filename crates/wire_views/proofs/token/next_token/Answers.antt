use Rattle.wire_views.proofs.TokenLaws.{left_item, no_item}
use Rattle.wire_views.proofs.token.next_token.Goals as goal

pub returns-in_err-token-clause-next : goal.returns-in_err-token-clause-next
returns-in_err-token-clause-next c = λ i rest h.
    absurd (c.in_err-token.ensures.token i rest (left_item c.one_tag.ensures _ _ _ _
    c.in-Ok.ensures.ok i rest h))

pub returns-clause-next : goal.returns-clause-next
returns-clause-next c = λ i rest h.
    c.in_ok-token.ensures.token i rest (left_item c.one_tag.ensures _ _ _ _
    c.in-Ok.ensures.ok i rest h)

pub returns-in_default-clause-next : goal.returns-in_default-clause-next
returns-in_default-clause-next c =
    no_item c.no_tag_beside_fault.ensures _ _ c.in_default.ensures.fault
