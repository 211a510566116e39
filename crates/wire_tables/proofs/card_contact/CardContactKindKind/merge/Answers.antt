use Rattle.std.proofs.Common.{refl, rules, sym, ◌∙◌}
use Rattle.std.proofs.lemmas.Result.{err_from_is_err_and}
use Rattle.wire_codec.specs.TagView.{tag_number}
use Rattle.wire_fields.specs.Arms.{anew_untaken, arm_err, from_last, last_err, neither, unlike}
use Rattle.wire_tables.specs.CardContact.{card_contact-front, card_contact-kind, card_contact-of}
use Rattle.wire_tables.specs.CardContact.{email-of-card_contact-as, email-of-card_contact-kind}
use Rattle.wire_tables.specs.CardContact.{phone-of-card_contact-as, phone-of-card_contact-kind}
use Rattle.wire_tables.specs.CardContact.{visits-of-card_contact, visits-of-card_contact-as}
use Rattle.wire_tables.specs.CardContact.{visits-of-card_contact-kind}
use Rattle.wire_tables.proofs.card_contact.CardContactKindKind.merge.Goals as goal

pub returns-in-Some-Email-variants-clause-err :
    goal.returns-in-Some-Email-variants-clause-err
returns-in-Some-Email-variants-clause-err g c =
    let n = tag_number c.args.tag in
    let one = c.in-Some-Email-variants in
    rw (one.is, one.field-0-is) (arm_err card_contact-kind.takes
    email-of-card_contact-kind.takes 2 n
    (sym c.variants-field_number.ensures.number ∙ c.in-2.is) _ _
    (λ charge z p h. (h.0, h.1)) _ _ _
    c.variants-merge.result c.variants-merge.ensures.err)

pub returns-in-2-clause-err : goal.returns-in-2-clause-err
returns-in-2-clause-err g c =
    let n = tag_number c.args.tag in
    let m = card_contact-of c.args.held.now in
    let r = c.variants-from_residual in
    let p = err_from_is_err_and r.result r.ensures.1 in
    rw (p.1, p.2) (λ other. anew_untaken card_contact-kind.takes
    email-of-card_contact-kind email-of-card_contact-as _ 2 n
    (sym c.variants-field_number.ensures.number ∙ c.in-2.is) m (search rules)
    (λ charge z p h. h) _ _ _ ((c.in_Break-variants-variants-in-2).ensures.err other))

pub returns-in-Some-Phone-variants-clause-err :
    goal.returns-in-Some-Phone-variants-clause-err
returns-in-Some-Phone-variants-clause-err g c =
    let n = tag_number c.args.tag in
    let one = c.in-Some-Phone-variants in
    rw (one.is, one.field-0-is) (arm_err card_contact-kind.takes
    phone-of-card_contact-kind.takes 3 n
    (sym c.variants-field_number.ensures.number ∙ c.in-3.is) _ _
    (λ charge z p h. (h.0, h.1)) _ _ _
    (c.variants-merge-in-3).result (c.variants-merge-in-3).ensures.err)

pub returns-in-3-clause-err : goal.returns-in-3-clause-err
returns-in-3-clause-err g c =
    let n = tag_number c.args.tag in
    let m = card_contact-of c.args.held.now in
    let r = c.variants-from_residual-in-3 in
    let p = err_from_is_err_and r.result r.ensures.1 in
    rw (p.1, p.2) (λ other. anew_untaken card_contact-kind.takes
    phone-of-card_contact-kind phone-of-card_contact-as _ 3 n
    (sym c.variants-field_number.ensures.number ∙ c.in-3.is) m (search rules)
    (λ charge z p h. h) _ _ _ ((c.in_Break-variants-variants-in-3).ensures.err other))

pub returns-in-Some-Visits-variants-clause-err :
    goal.returns-in-Some-Visits-variants-clause-err
returns-in-Some-Visits-variants-clause-err g c =
    let n = tag_number c.args.tag in
    let one = c.in-Some-Visits-variants in
    rw (one.is, one.field-0-is) (last_err card_contact-front.owns card_contact-front.takes
    visits-of-card_contact.takes n
    (λ p. neither _ _ (unlike n 2 (search rules)) (unlike n 3 (search rules)))
    visits-of-card_contact-kind.takes _ _
    (λ charge z p h. (h.0, h.1)) _ _ _
    c.variants-merge-2.result c.variants-merge-2.ensures.err)

pub returns-clause-err : goal.returns-clause-err
returns-clause-err g c =
    let n = tag_number c.args.tag in
    let m = card_contact-of c.args.held.now in
    let r = c.variants-from_residual-2 in
    let p = err_from_is_err_and r.result r.ensures.1 in
    rw (p.1, p.2) (λ other. anew_untaken card_contact-kind.takes
    visits-of-card_contact-kind visits-of-card_contact-as _ n n
    refl m (search rules)
    (λ charge z p h. from_last card_contact-front.owns card_contact-front.takes
    visits-of-card_contact.takes n
    (λ p. neither _ _ (unlike n 2 (search rules)) (unlike n 3 (search rules)))
    m z charge p h) _ _ _ (c.in_Break-variants-variants.ensures.err other))
