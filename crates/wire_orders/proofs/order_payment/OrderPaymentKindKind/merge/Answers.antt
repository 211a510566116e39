use Rattle.std.proofs.Common.{refl, rules, sym, ◌∙◌}
use Rattle.std.proofs.lemmas.Result.{err_from_is_err_and}
use Rattle.wire_codec.specs.TagView.{tag_number}
use Rattle.wire_fields.specs.Arms.{anew_untaken, arm_err, from_last, last_err, unlike}
use Rattle.wire_orders.specs.OrderPayment.{card-of-order_payment-as, card-of-order_payment-kind}
use Rattle.wire_orders.specs.OrderPayment.{cash-of-order_payment, cash-of-order_payment-as}
use Rattle.wire_orders.specs.OrderPayment.{cash-of-order_payment-kind, order_payment-front}
use Rattle.wire_orders.specs.OrderPayment.{order_payment-kind, order_payment-of}
use Rattle.wire_orders.proofs.order_payment.OrderPaymentKindKind.merge.Goals as goal

pub returns-in-Some-Card-variants-clause-err :
    goal.returns-in-Some-Card-variants-clause-err
returns-in-Some-Card-variants-clause-err g c =
    let n = tag_number c.args.tag in
    let one = c.in-Some-Card-variants in
    rw (one.is, one.field-0-is) (arm_err order_payment-kind.takes
    card-of-order_payment-kind.takes 4 n
    (sym c.variants-field_number.ensures.number ∙ c.in-4.is) _ _
    (λ charge z p h. (h.0, h.1)) _ _ _
    c.variants-merge.result c.variants-merge.ensures.err)

pub returns-in-4-clause-err : goal.returns-in-4-clause-err
returns-in-4-clause-err g c =
    let n = tag_number c.args.tag in
    let m = order_payment-of c.args.held.now in
    let r = c.variants-from_residual in
    let p = err_from_is_err_and r.result r.ensures.1 in
    rw (p.1, p.2) (λ other. anew_untaken order_payment-kind.takes
    card-of-order_payment-kind card-of-order_payment-as _ 4 n
    (sym c.variants-field_number.ensures.number ∙ c.in-4.is) m (search rules)
    (λ charge z p h. h) _ _ _ ((c.in_Break-variants-variants-in-4).ensures.err other))

pub returns-in-Some-Cash-variants-clause-err :
    goal.returns-in-Some-Cash-variants-clause-err
returns-in-Some-Cash-variants-clause-err g c =
    let n = tag_number c.args.tag in
    let one = c.in-Some-Cash-variants in
    rw (one.is, one.field-0-is) (last_err order_payment-front.owns order_payment-front.takes
    cash-of-order_payment.takes n
    (λ p. unlike n 4 (search rules))
    cash-of-order_payment-kind.takes _ _
    (λ charge z p h. (h.0, h.1)) _ _ _
    c.variants-merge-2.result c.variants-merge-2.ensures.err)

pub returns-clause-err : goal.returns-clause-err
returns-clause-err g c =
    let n = tag_number c.args.tag in
    let m = order_payment-of c.args.held.now in
    let r = c.variants-from_residual-2 in
    let p = err_from_is_err_and r.result r.ensures.1 in
    rw (p.1, p.2) (λ other. anew_untaken order_payment-kind.takes
    cash-of-order_payment-kind cash-of-order_payment-as _ n n
    refl m (search rules)
    (λ charge z p h. from_last order_payment-front.owns order_payment-front.takes
    cash-of-order_payment.takes n
    (λ p. unlike n 4 (search rules))
    m z charge p h) _ _ _ (c.in_Break-variants-variants.ensures.err other))
