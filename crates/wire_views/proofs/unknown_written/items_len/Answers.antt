use Rattle.std.proofs.Common.{◌<◌, length, rules, ap, ◌≡◌}
use Rattle.std.proofs.Common.{◌+◌, sym, subst, ◌∙◌}
use Rattle.wire_fields.specs.Numbers.{in_64_bits}
use Rattle.wire_base.specs.Items.{SpellsItems}
use Rattle.wire_views.specs.Tokens.{shortest_items, shortest_item}
use Rattle.wire_views.proofs.TokenLaws.{some_left, none_left, counted_first}
use Rattle.wire_views.proofs.TokenLaws.{counted_more, counted_all}
use Rattle.wire_views.proofs.unknown_written.items_len.Goals as goal

pub loop-buf-init : goal.loop-buf-init
loop-buf-init c = record {
  fits = search rules;
  counted = λ item items rest left spelled.
      let first = c.in_ok-first.ensures.token item rest left in (
        items,
        subst (SpellsItems items) (sym first.1) spelled,
        counted_first _ (shortest_item item) (shortest_items items)
            (rw (c.field_number.ensures.number, first.0) at c.token_len-size.ensures),
      );
}

pub returns-in_err-tag : goal.returns-in_err-tag
returns-in_err-tag c = λ item items rest left spelled.
    let so_far = c.loop-buf.invariant.counted item items rest left spelled in
    let some : 0 < length c.loop-buf.buf.now = search rules in
    let next = some_left so_far.0 _ so_far.1 some in
    absurd (c.in_err-tag.ensures.next next.item next.rest next.read)

pub loop-buf-preserved : goal.loop-buf-preserved
loop-buf-preserved c = record {
  fits = search rules;
  counted = λ item items rest left spelled.
      let so_far = c.loop-buf.invariant.counted item items rest left spelled in
      let some : 0 < length c.loop-buf.buf.now = search rules in
      let next = some_left so_far.0 _ so_far.1 some in
      let token = c.in_ok-tag.ensures.next next.item next.rest next.read in (
        next.more,
        subst (SpellsItems next.more) (sym token.1) next.spelled,
        counted_more c.loop-buf.size _ _ (shortest_item next.item) (shortest_items next.more)
            (rw (c.field_number-in-loop-buf.ensures.number, token.0) at c.token_len.ensures)
            c.saturating_add-size.ensures
            ∙ ap (λ t. in_64_bits (c.loop-buf.size + length (shortest_items t))) (sym next.is) ∙ so_far.2,
      );
}

pub returns : goal.returns
returns c = λ item items rest left spelled.
    let so_far = c.loop-buf.invariant.counted item items rest left spelled in
    let empty : length c.loop-buf.buf.now ≡ 0 = search rules in
    counted_all _ _ c.loop-buf.invariant.fits
    (rw (none_left so_far.0 _ so_far.1 empty) at so_far.2)
