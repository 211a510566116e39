use Rattle.std.proofs.Common.{◌<◌, length, rules, refl, ap, sym, subst, ◌≡◌}
use Rattle.std.proofs.lemmas.Result.{err_from_is_err_and}
use Rattle.wire_base.specs.Items.{SpellsItems}
use Rattle.wire_views.specs.Tokens.{shortest_items}
use Rattle.wire_views.proofs.TokenLaws.{some_left, none_left}
use Rattle.wire_views.proofs.unknown_written.put_items.Goals as goal

pub returns-in_err-put_token : goal.returns-in_err-put_token
returns-in_err-put_token g c = λ item items rest left spelled.
    let p = err_from_is_err_and c.from_residual.result c.from_residual.ensures.1 in
    let pieces = c.piece_by_piece.ensures in
    let first = c.in-Some.ensures.token item rest left in
    rw (p.1, p.2) (pieces.refused _ _ _ _ _ _ _ _ (pieces.start _ _) refl
    (rw (c.field_number.ensures.number, first.0) at c.in_err-put_token.ensures))

pub loop-buf-init : goal.loop-buf-init
loop-buf-init g c = λ item items rest left spelled.
    let pieces = c.piece_by_piece.ensures in
    let first = c.in-Some.ensures.token item rest left in (
      items,
      subst (SpellsItems items) (sym first.1) spelled,
      pieces.more _ _ _ _ _ _ _ tt (pieces.start _ _) refl
          (rw (c.field_number.ensures.number, first.0) at c.in_ok-put_token.ensures),
    )

pub returns-in_default-next_token : goal.returns-in_default-next_token
returns-in_default-next_token g c = λ item items rest left spelled.
    let so_far = c.loop-buf.invariant item items rest left spelled in
    let some : 0 < length c.loop-buf.buf.now = search rules in
    let next = some_left so_far.0 _ so_far.1 some in
    absurd (c.in_default-next_token.ensures.next next.item next.rest next.read)

pub loop-buf-preserved : goal.loop-buf-preserved
loop-buf-preserved g c = λ item items rest left spelled.
    let so_far = c.loop-buf.invariant item items rest left spelled in
    let some : 0 < length c.loop-buf.buf.now = search rules in
    let next = some_left so_far.0 _ so_far.1 some in
    let token = c.in-Some-next_token.ensures.next next.item next.rest next.read in (
      next.more,
      subst (SpellsItems next.more) (sym token.1) next.spelled,
      c.piece_by_piece.ensures.more _ _ _ _ _ _ _ tt so_far.2 (ap shortest_items next.is)
          (rw (c.field_number-in-loop-buf.ensures.number, token.0) at c.in_ok-put_token-2.ensures),
    )

pub returns-in_err-put_token-2 : goal.returns-in_err-put_token-2
returns-in_err-put_token-2 g c = λ item items rest left spelled.
    let r = c.from_residual-in_err-put_token-2 in
    let p = err_from_is_err_and r.result r.ensures.1 in
    let so_far = c.loop-buf.invariant item items rest left spelled in
    let some : 0 < length c.loop-buf.buf.now = search rules in
    let next = some_left so_far.0 _ so_far.1 some in
    let token = c.in-Some-next_token.ensures.next next.item next.rest next.read in
    rw (p.1, p.2) (c.piece_by_piece.ensures.refused _ _ _ _ _ _ _ _ so_far.2
    (ap shortest_items next.is)
    (rw (c.field_number-in-loop-buf.ensures.number, token.0) at c.in_err-put_token-2.ensures))

pub returns : goal.returns
returns g c = λ item items rest left spelled.
    let so_far = c.loop-buf.invariant item items rest left spelled in
    let empty : length c.loop-buf.buf.now ≡ 0 = search rules in
    c.piece_by_piece.ensures.done _ _ _ (rw (none_left so_far.0 _ so_far.1 empty) at so_far.2)
