use Rattle.std.proofs.Common.{◌≡◌, ℕ, ◌<◌, List, [], ◌∷◌, ◌++◌, length, refl, sym, ap, ◌∙◌, arith, length-append}
use Rattle.std.proofs.lemmas.Result.{err_from_is_err_and, IfErr-weaker, on_ok_weaker}
use Rattle.wire_codec.specs.Ending.{by_limit, by_tag}
use Rattle.wire_codec.specs.Limits.{outer}
use Rattle.wire_codec.specs.Read.{Reads}
use Rattle.wire_codec.specs.Tag.{IsTagSpelling}
use Rattle.wire_codec.specs.Varint.{IsEnded}
use Rattle.wire_codec.specs.WireType.{WireType}
use Rattle.wire_codec.proofs.Lists.{at_start, at_end, at_none, no_tag, no_record, one_more, not_ended}
use Rattle.wire_codec.proofs.Lists.{no_next_tag, group_end}
use Rattle.wire_fields.specs.Messages.{length_prefixed, delimited}
use Rattle.wire_fields.specs.NestTable.{family_takes, family_single, new_in, one_in, with_one, with_more}
use Rattle.wire_fields.proofs.Messages.{embedded_taken, no_embedded, group_taken, no_group}
use Rattle.wire_fields.proofs.Messages.{each_taken, no_room, no_more}
use Rattle.wire_fields.proofs.NestPayloads.{charged_within, not_within, ran_past}
use Rattle.wire_fields.proofs.NestTaken.{placed_taken, not_placed, leaf_taken, no_leaf}
use Rattle.wire_fields.proofs.NestTaken.{owned_taken, not_owned, same_beside, both_ok}
use Rattle.wire_fields.proofs.recursive.merge.+merge.Goals as goal

-- what follows a tag and a text behind it is shorter than what the tag stands in
behind_record : (n : ℕ) (w : WireType) (IsText : List ℕ → Type 0) (old mid new : List ℕ)
    → Reads old (IsTagSpelling n w) mid → Reads mid IsText new → length new < length old
behind_record n w IsText old mid new tag read =
    behind tag.text tag.spelled.varint.ended tag.parts
  where
    behind : (text : List ℕ) → IsEnded text → old ≡ text ++ mid → length new < length old
    behind [] ended e = absurd ended
    behind (b ∷ text) ended e =
        omega (
          arith,
          ap length e ∙ length-append (b ∷ text) mid,
          ap length read.parts
              ∙ length-append read.text new,
        )

-- ---- records up to a limit

pub merge_payload-loop-alloc-smaller : goal.merge_payload-loop-alloc-smaller
merge_payload-loop-alloc-smaller g t c =
    behind_record _ _ _ _ _ _ c.in_ok-tag.ensures.ok c.in_ok-merge_held.ensures.ok.taken.read.read

pub merge_payload-loop-alloc-init : goal.merge_payload-loop-alloc-init
merge_payload-loop-alloc-init g t c = record {
  follows = at_start c.records_in_order.ensures (family_takes g.T.RecursiveHeld.family
      (g.T.RecursiveHeld.sort c.args.message.now))
      (by_limit c.args.rest) _ _ _;
  sort = refl;
  kept = refl;
}

pub merge_payload-returns-in_err-tag-clause-err : goal.merge_payload-returns-in_err-tag-clause-err
merge_payload-returns-in_err-tag-clause-err g t c =
    let p = err_from_is_err_and c.from_residual.result c.from_residual.ensures.1 in
    rw (p.1, p.2) (λ other. λ charge z new h. no_tag c.records_in_order.ensures
    (family_takes g.T.RecursiveHeld.family (g.T.RecursiveHeld.sort c.args.message.now)) _ _ _ _ _ _
    _ _ c.loop-alloc.invariant.follows
    (λ new ended. omega (arith, c.remaining.ensures, c.loop-alloc-test.true, ended.0))
    c.in_err-tag.ensures.fault charge z new h.list)

pub merge_payload-loop-alloc-preserved : goal.merge_payload-loop-alloc-preserved
merge_payload-loop-alloc-preserved g t c =
    let taken = rw c.loop-alloc.invariant.sort at c.in_ok-merge_held.ensures.ok in
    let reading = c.records_in_order.ensures.reading in
    record {
      follows = one_more c.records_in_order.ensures (family_takes g.T.RecursiveHeld.family
          (g.T.RecursiveHeld.sort c.args.message.now))
          (family_single g.T.RecursiveHeld.family reading (g.met.T.RecursiveHeld.single reading)
          (g.T.RecursiveHeld.sort c.args.message.now))
          (by_limit c.args.rest) _ _ _ _ _ _ _ _ _ _ _ _ _ c.loop-alloc.invariant.follows
          (omega (arith, c.remaining.ensures, c.loop-alloc-test.true)) c.in_ok-tag.ensures.ok tt
          taken.taken taken.left;
      sort = c.in_ok-merge_held.ensures.sort ∙ c.loop-alloc.invariant.sort;
      kept = c.in_ok-merge_held.ensures.kept ∙ c.in_ok-tag.ensures.kept
          ∙ c.loop-alloc.invariant.kept;
    }

pub merge_payload-returns-in_err-merge_held-clause-err
    : goal.merge_payload-returns-in_err-merge_held-clause-err
merge_payload-returns-in_err-merge_held-clause-err g t c =
    let p = err_from_is_err_and c.from_residual-in_err-merge_held.result
    c.from_residual-in_err-merge_held.ensures.1 in
    rw (p.1, p.2) (λ other. λ charge z new h. no_record c.records_in_order.ensures
    (family_takes g.T.RecursiveHeld.family (g.T.RecursiveHeld.sort c.args.message.now))
    (by_limit c.args.rest) _ _ _ _ _ _ _ _ _
    c.loop-alloc.invariant.follows c.in_ok-tag.ensures.ok
    (not_ended c.records_in_order.ensures (by_limit c.args.rest) _ _ _ _
    (omega (arith, c.remaining.ensures, c.loop-alloc-test.true)) c.in_ok-tag.ensures.ok tt)
    ((rw c.loop-alloc.invariant.sort at c.in_err-merge_held.ensures.err) other) charge z new h.list)

pub merge_payload-returns-then-remaining-rest-clause-err
    : goal.merge_payload-returns-then-remaining-rest-clause-err
merge_payload-returns-then-remaining-rest-clause-err g t c = λ other.
    let whole = at_end c.records_in_order.ensures (family_takes g.T.RecursiveHeld.family
    (g.T.RecursiveHeld.sort c.args.message.now))
    (by_limit c.args.rest) _ _ _ _ _ _ _ c.loop-alloc.invariant.follows
    (omega (arith, c.remaining.ensures, c.loop-alloc-test.false), refl) in
    ran_past (family_takes g.T.RecursiveHeld.family (g.T.RecursiveHeld.sort c.args.message.now))
    c.one_list.ensures _ _ _ _ _ _ _
    (omega (arith, c.remaining-2.ensures, c.if-remaining-rest.true)) whole.taken

pub merge_payload-returns-clause-ok : goal.merge_payload-returns-clause-ok
merge_payload-returns-clause-ok g t c =
    let whole = at_end c.records_in_order.ensures (family_takes g.T.RecursiveHeld.family
    (g.T.RecursiveHeld.sort c.args.message.now))
    (by_limit c.args.rest) _ _ _ _ _ _ _ c.loop-alloc.invariant.follows
    (omega (arith, c.remaining.ensures, c.loop-alloc-test.false), refl) in (
      whole.charge,
      record {
        list = whole.taken;
        within = omega (arith, c.remaining-2.ensures, c.if-remaining-rest.false);
      },
      rw (c.ascend.ensures) (ap outer whole.left),
    )

-- ---- an embedded message

pub merge_embedded-returns-in_err-rest-clause-err
    : goal.merge_embedded-returns-in_err-rest-clause-err
merge_embedded-returns-in_err-rest-clause-err g t c =
    let p = err_from_is_err_and c.from_residual-in_err-rest.result
    c.from_residual-in_err-rest.ensures.1 in
    rw (p.1, p.2) (λ other. no_embedded (family_takes g.T.RecursiveHeld.family
    (g.T.RecursiveHeld.sort c.args.message.now)) c.whole_input.ensures
    c.levels_and_counts.ensures.levels _ _ _ _ _ (c.in_err-rest.ensures.err _ _))

pub merge_embedded-returns-clause-ok : goal.merge_embedded-returns-clause-ok
merge_embedded-returns-clause-ok g t c =
    on_ok_weaker c.merge_payload.result (λ taken. embedded_taken
    (family_takes g.T.RecursiveHeld.family (g.T.RecursiveHeld.sort c.args.message.now))
    c.whole_input.ensures c.levels_and_counts.ensures.levels _ _ _ _ _ _ _ _
    c.in_ok-check_wire_type.ensures.ok (charged_within (family_takes g.T.RecursiveHeld.family
    (g.T.RecursiveHeld.sort c.args.message.now))
    c.delimited_is_read.ensures _ _ _ _ _ _ c.in_ok-rest.ensures.ok
    c.levels_and_counts.ensures.levels _ _ _ taken)) c.merge_payload.ensures.ok

pub merge_embedded-returns-clause-err : goal.merge_embedded-returns-clause-err
merge_embedded-returns-clause-err g t c =
    IfErr-weaker c.merge_payload.result _ _ (λ e none other. no_embedded
    (family_takes g.T.RecursiveHeld.family (g.T.RecursiveHeld.sort c.args.message.now))
    c.whole_input.ensures c.levels_and_counts.ensures.levels
    _ _ _ _ _ (not_within (family_takes g.T.RecursiveHeld.family
    (g.T.RecursiveHeld.sort c.args.message.now)) c.delimited_is_read.ensures
    _ _ _ _ _ _ c.in_ok-rest.ensures.ok (none other))) c.merge_payload.ensures.err

-- ---- a group, one level down

pub merge_group-loop-tag-init : goal.merge_group-loop-tag-init
merge_group-loop-tag-init g t c = record {
  follows = rw (c.in_ok-descend.ensures.ok) (at_start c.records_in_order.ensures
      (family_takes g.T.RecursiveHeld.family (g.T.RecursiveHeld.sort c.args.message.now))
      (by_tag c.args.number) _ _ _);
  sort = refl;
  kept = refl;
}

pub merge_group-returns-in_err-tag-clause-err : goal.merge_group-returns-in_err-tag-clause-err
merge_group-returns-in_err-tag-clause-err g t c =
    let p = err_from_is_err_and c.from_residual-in_err-tag.result
    c.from_residual-in_err-tag.ensures.1 in
    rw (p.1, p.2) (λ other. λ charge z new h. no_next_tag c.records_in_order.ensures
    (family_takes g.T.RecursiveHeld.family (g.T.RecursiveHeld.sort c.args.message.now))
    c.args.number _ _ _ _ _ _ _ c.loop-tag.invariant.follows
    c.in_err-tag.ensures.fault charge z new h.taken)

pub merge_group-loop-tag-preserved : goal.merge_group-loop-tag-preserved
merge_group-loop-tag-preserved g t c =
    let taken = rw c.loop-tag.invariant.sort at c.in_ok-merge_held.ensures.ok in
    let reading = c.records_in_order.ensures.reading in
    record {
      follows = one_more c.records_in_order.ensures (family_takes g.T.RecursiveHeld.family
          (g.T.RecursiveHeld.sort c.args.message.now))
          (family_single g.T.RecursiveHeld.family reading (g.met.T.RecursiveHeld.single reading)
          (g.T.RecursiveHeld.sort c.args.message.now))
          (by_tag c.args.number) _ _ _ _ _ _ _ _ _ _ _ _ _ c.loop-tag.invariant.follows tt
          (rw c.in-Some.is at c.in_ok-tag.ensures.record)
          (rw c.in-Some.is at c.in_ok-tag.ensures.inside) taken.taken taken.left;
      sort = c.in_ok-merge_held.ensures.sort ∙ c.loop-tag.invariant.sort;
      kept = c.in_ok-merge_held.ensures.kept ∙ c.in_ok-tag.ensures.kept
          ∙ c.loop-tag.invariant.kept;
    }

pub merge_group-loop-tag-smaller : goal.merge_group-loop-tag-smaller
merge_group-loop-tag-smaller g t c =
    behind_record _ _ _ _ _ _ (rw c.in-Some.is at c.in_ok-tag.ensures.record)
    c.in_ok-merge_held.ensures.ok.taken.read.read

pub merge_group-returns-in_err-merge_held-clause-err
    : goal.merge_group-returns-in_err-merge_held-clause-err
merge_group-returns-in_err-merge_held-clause-err g t c =
    let p = err_from_is_err_and c.from_residual-in_err-merge_held.result
    c.from_residual-in_err-merge_held.ensures.1 in
    let tag = rw c.in-Some.is at c.in_ok-tag.ensures.record in
    rw (p.1, p.2) (λ other. λ charge z new h. no_record c.records_in_order.ensures
    (family_takes g.T.RecursiveHeld.family (g.T.RecursiveHeld.sort c.args.message.now))
    (by_tag c.args.number) _ _ _ _ _ _ _ _ _
    c.loop-tag.invariant.follows tag
    (not_ended c.records_in_order.ensures (by_tag c.args.number) _ _ _ _ tt tag
    (rw c.in-Some.is at c.in_ok-tag.ensures.inside))
    ((rw c.loop-tag.invariant.sort at c.in_err-merge_held.ensures.err) other) charge z new h.taken)

pub merge_group-returns-clause-ok : goal.merge_group-returns-clause-ok
merge_group-returns-clause-ok g t c =
    rw (c.ascend.ensures) (group_end c.records_in_order.ensures
    (family_takes g.T.RecursiveHeld.family (g.T.RecursiveHeld.sort c.args.message.now))
    c.levels_and_counts.ensures.levels c.args.number _ _ _ _ _ _ _ c.in_ok-descend.ensures.taken
    c.loop-tag.invariant.follows
    (at_none _ _ c.in_default.not-Some c.in_ok-tag.ensures.end))

pub merge_grouped-returns-clause-ok : goal.merge_grouped-returns-clause-ok
merge_grouped-returns-clause-ok g t c =
    on_ok_weaker c.merge_group.result (λ h. rw (sym c.field_number.ensures.number)
    (group_taken (family_takes g.T.RecursiveHeld.family (g.T.RecursiveHeld.sort c.args.message.now))
    c.group_is_list.ensures
    c.levels_and_counts.ensures.levels _ _ _ _ _ c.in_ok-check_wire_type.ensures.ok _ _ _ h))
    c.merge_group.ensures.ok

pub merge_grouped-returns-clause-err : goal.merge_grouped-returns-clause-err
merge_grouped-returns-clause-err g t c =
    IfErr-weaker c.merge_group.result _ _ (λ e none other. rw (sym c.field_number.ensures.number)
    (no_group (family_takes g.T.RecursiveHeld.family (g.T.RecursiveHeld.sort c.args.message.now))
    c.group_is_list.ensures
    c.levels_and_counts.ensures.levels _ _ _ _ _ c.in_ok-check_wire_type.ensures.ok
    (none other))) c.merge_group.ensures.err

-- ---- records, by their place

pub merge_held-returns-in-Leaf-clause-ok : goal.merge_held-returns-in-Leaf-clause-ok
merge_held-returns-in-Leaf-clause-ok g t c =
    let family = g.T.RecursiveHeld.family in
    let s = g.T.RecursiveHeld.sort c.args.message.now in
    let reading = c.records_in_order.ensures.reading in
    let place = ap (family.table s).place (sym c.field_number.ensures.number) ∙ sym
    c.in-Leaf.ensures.is in
    both_ok c.merge_leaf.result (λ h rows. placed_taken family reading
    (g.met.T.RecursiveHeld.single reading) s _ _ _ _ _ _ place _ _ _
    (leaf_taken family (family_takes family) s _ _ _ _ _ _ _ _ rows h)) c.merge_leaf.ensures.ok
    c.merge_leaf.ensures.rows

pub merge_held-returns-in-Leaf-clause-err : goal.merge_held-returns-in-Leaf-clause-err
merge_held-returns-in-Leaf-clause-err g t c =
    let family = g.T.RecursiveHeld.family in
    let s = g.T.RecursiveHeld.sort c.args.message.now in
    let reading = c.records_in_order.ensures.reading in
    let place = ap (family.table s).place (sym c.field_number.ensures.number) ∙ sym
    c.in-Leaf.ensures.is in
    IfErr-weaker c.merge_leaf.result _ _ (λ e none other. not_placed family reading
    (g.met.T.RecursiveHeld.single reading) s _ _ _ _ _ _ place
    (no_leaf family (family_takes family) s _ _ _ _ _ (none other))) c.merge_leaf.ensures.err

-- ---- rows

pub merge_each-returns-in_err-register_element_memory-clause-err
    : goal.merge_each-returns-in_err-register_element_memory-clause-err
merge_each-returns-in_err-register_element_memory-clause-err g t c =
    let r = c.from_residual in
    let p = err_from_is_err_and r.result r.ensures.1 in
    let family = g.T.RecursiveHeld.family in
    let s = g.T.RecursiveHeld.sort c.args.message.now in
    let reading = c.records_in_order.ensures.reading in
    let place = c.requires.place in
    let start = new_in family s c.args.row in
    rw (p.1, p.2) (λ other. not_placed family reading (g.met.T.RecursiveHeld.single reading) s _ _ _
    _ _ _
    place (no_room c.args.bytes length_prefixed (family_takes family
    (family.holds s c.args.row)) start
    (with_more c.args.row) c.limits_add_up.ensures _ _ _ _ start _ (λ i. start)
    c.in_err-register_element_memory.ensures.none_left))

pub merge_each-returns-in_err-merge_embedded-clause-err
    : goal.merge_each-returns-in_err-merge_embedded-clause-err
merge_each-returns-in_err-merge_embedded-clause-err g t c =
    let there = c.requires.there in
    let r = c.from_residual-in_err-merge_embedded in
    let p = err_from_is_err_and r.result r.ensures.1 in
    let family = g.T.RecursiveHeld.family in
    let s = g.T.RecursiveHeld.sort c.args.message.now in
    let reading = c.records_in_order.ensures.reading in
    let place = c.requires.place in
    let held = c.new_in-own.ensures.sort there.0 there.1 in
    let none = rw held at c.in_err-merge_embedded.ensures.err in
    rw (p.1, p.2) (λ other. not_placed family reading (g.met.T.RecursiveHeld.single reading) s _ _ _
    _ _ _
    place (no_more c.args.bytes length_prefixed (family_takes family
    (family.holds s c.args.row))
    (new_in family s c.args.row) (with_more c.args.row) c.limits_add_up.ensures _ _ _ _ _ _
    (c.new_in-own.ensures.result there.0 there.1) _
    c.in_ok-register_element_memory.ensures.ok (none other)))

pub merge_each-returns-clause-ok
    : goal.merge_each-returns-clause-ok
merge_each-returns-clause-ok g t c =
    let there = c.requires.there in
    let family = g.T.RecursiveHeld.family in
    let s = g.T.RecursiveHeld.sort c.args.message.now in
    let reading = c.records_in_order.ensures.reading in
    let place = c.requires.place in
    let held = c.new_in-own.ensures.sort there.0 there.1 in
    let taken = rw held at c.in_ok-merge_embedded.ensures.ok in
    on_ok_weaker c.push.result (λ is. placed_taken family reading (g.met.T.RecursiveHeld.single
    reading)
    s _ _ _ _ _ _ place _ _ _ (each_taken c.args.bytes length_prefixed
    (family_takes family (family.holds s c.args.row)) (new_in family s c.args.row)
    (with_more c.args.row) c.limits_add_up.ensures _ _ _ _ _ _
    (c.new_in-own.ensures.result there.0 there.1) _ _ _ _ _
    c.in_ok-register_element_memory.ensures.ok
    c.in_ok-register_element_memory.ensures.taken is taken))
    (c.push.ensures.ok there.0 there.1 (c.in_ok-merge_embedded.ensures.sort ∙ held))

pub merge_once-returns-in_err-merge_embedded-clause-err
    : goal.merge_once-returns-in_err-merge_embedded-clause-err
merge_once-returns-in_err-merge_embedded-clause-err g t c =
    let there = c.requires.there in
    let p = err_from_is_err_and c.from_residual.result c.from_residual.ensures.1 in
    let family = g.T.RecursiveHeld.family in
    let s = g.T.RecursiveHeld.sort c.args.message.now in
    let reading = c.records_in_order.ensures.reading in
    let place = c.requires.place in
    let held = c.take-own.ensures.sort there.0 there.1 in
    let none = rw held at c.in_err-merge_embedded.ensures.err in
    rw (p.1, p.2) (λ other. not_placed family reading (g.met.T.RecursiveHeld.single reading) s _ _ _
    _ _ _
    place (not_owned length_prefixed (one_in family s c.args.row) (with_one
    (family.table s) c.args.row)
    (family_takes family (family.holds s c.args.row)) _ _ _ _ _ _
    (c.take-own.ensures.result there.0 there.1) (none other)))

pub merge_once-returns-clause-ok
    : goal.merge_once-returns-clause-ok
merge_once-returns-clause-ok g t c =
    let there = c.requires.there in
    let family = g.T.RecursiveHeld.family in
    let s = g.T.RecursiveHeld.sort c.args.message.now in
    let reading = c.records_in_order.ensures.reading in
    let place = c.requires.place in
    let held = c.take-own.ensures.sort there.0 there.1 in
    let taken = rw held at c.in_ok-merge_embedded.ensures.ok in
    let put = rw c.take-own.ensures.kind at c.put.ensures.ok in
    on_ok_weaker c.put.result (λ is. placed_taken family reading (g.met.T.RecursiveHeld.single
    reading)
    s _ _ _ _ _ _ place _ _ _ (owned_taken length_prefixed (one_in family s c.args.row)
    (with_one (family.table s) c.args.row) (family_takes family (family.holds s c.args.row)) _
    _ _ _ _ _
    (c.take-own.ensures.result there.0 there.1) _ _ _ _
    (is ∙ same_beside c.args.row (g.T.RecursiveHeld.view c.merge_embedded.new.message ∷ [])
    ((family.table s).beside c.args.row (g.T.RecursiveHeld.view c.take-own.new.self))
    ((family.table s).beside c.args.row (g.T.RecursiveHeld.view c.args.message.now))
    (c.take-own.ensures.others there.0 there.1)) taken))
    (put there.0 there.1 (c.in_ok-merge_embedded.ensures.sort ∙ held))

pub merge_once_grouped-returns-in_err-merge_grouped-clause-err
    : goal.merge_once_grouped-returns-in_err-merge_grouped-clause-err
merge_once_grouped-returns-in_err-merge_grouped-clause-err g t c =
    let there = c.requires.there in
    let p = err_from_is_err_and c.from_residual.result
    c.from_residual.ensures.1 in
    let family = g.T.RecursiveHeld.family in
    let s = g.T.RecursiveHeld.sort c.args.message.now in
    let reading = c.records_in_order.ensures.reading in
    let place = c.requires.place in
    let held = c.take-own.ensures.sort there.0 there.1 in
    let none = rw held at c.in_err-merge_grouped.ensures.err in
    rw (p.1, p.2) (λ other. not_placed family reading (g.met.T.RecursiveHeld.single reading) s _ _ _
    _ _ _
    place (not_owned delimited (one_in family s c.args.row) (with_one
    (family.table s) c.args.row)
    (family_takes family (family.holds s c.args.row)) _ _ _ _ _ _
    (c.take-own.ensures.result there.0 there.1) (none other)))

pub merge_once_grouped-returns-clause-ok
    : goal.merge_once_grouped-returns-clause-ok
merge_once_grouped-returns-clause-ok g t c =
    let there = c.requires.there in
    let family = g.T.RecursiveHeld.family in
    let s = g.T.RecursiveHeld.sort c.args.message.now in
    let reading = c.records_in_order.ensures.reading in
    let place = c.requires.place in
    let held = c.take-own.ensures.sort there.0 there.1 in
    let taken = rw held at c.in_ok-merge_grouped.ensures.ok in
    let put = rw c.take-own.ensures.kind at c.put.ensures.ok in
    on_ok_weaker c.put.result (λ is. placed_taken family reading
    (g.met.T.RecursiveHeld.single reading) s _ _ _ _ _ _ place _ _ _ (owned_taken delimited
    (one_in family s c.args.row) (with_one (family.table s) c.args.row)
    (family_takes family (family.holds s c.args.row)) _ _ _ _ _ _
    (c.take-own.ensures.result there.0 there.1) _ _ _ _
    (is ∙ same_beside c.args.row (g.T.RecursiveHeld.view c.merge_grouped.new.message ∷ [])
    ((family.table s).beside c.args.row
    (g.T.RecursiveHeld.view c.take-own.new.self))
    ((family.table s).beside c.args.row (g.T.RecursiveHeld.view c.args.message.now))
    (c.take-own.ensures.others there.0 there.1)) taken))
    (put there.0 there.1 (c.in_ok-merge_grouped.ensures.sort ∙ held))

pub merge_each_grouped-returns-in_err-register_element_memory-clause-err
    : goal.merge_each_grouped-returns-in_err-register_element_memory-clause-err
merge_each_grouped-returns-in_err-register_element_memory-clause-err g t c =
    let r = c.from_residual in
    let p = err_from_is_err_and r.result r.ensures.1 in
    let family = g.T.RecursiveHeld.family in
    let s = g.T.RecursiveHeld.sort c.args.message.now in
    let reading = c.records_in_order.ensures.reading in
    let place = c.requires.place in
    let start = new_in family s c.args.row in
    rw (p.1, p.2) (λ other. not_placed family reading (g.met.T.RecursiveHeld.single reading) s _ _ _
    _ _ _
    place (no_room c.args.bytes delimited (family_takes family
    (family.holds s c.args.row)) start
    (with_more c.args.row) c.limits_add_up.ensures _ _ _ _ start _ (λ i. start)
    c.in_err-register_element_memory.ensures.none_left))

pub merge_each_grouped-returns-in_err-merge_grouped-clause-err
    : goal.merge_each_grouped-returns-in_err-merge_grouped-clause-err
merge_each_grouped-returns-in_err-merge_grouped-clause-err g t c =
    let there = c.requires.there in
    let r = c.from_residual-in_err-merge_grouped in
    let p = err_from_is_err_and r.result r.ensures.1 in
    let family = g.T.RecursiveHeld.family in
    let s = g.T.RecursiveHeld.sort c.args.message.now in
    let reading = c.records_in_order.ensures.reading in
    let place = c.requires.place in
    let held = c.new_in-own.ensures.sort there.0 there.1 in
    let none = rw held at c.in_err-merge_grouped.ensures.err in
    rw (p.1, p.2) (λ other. not_placed family reading (g.met.T.RecursiveHeld.single reading) s _ _ _
    _ _ _
    place (no_more c.args.bytes delimited (family_takes family
    (family.holds s c.args.row))
    (new_in family s c.args.row) (with_more c.args.row) c.limits_add_up.ensures _ _ _ _ _ _
    (c.new_in-own.ensures.result there.0 there.1) _
    c.in_ok-register_element_memory.ensures.ok (none other)))

pub merge_each_grouped-returns-clause-ok
    : goal.merge_each_grouped-returns-clause-ok
merge_each_grouped-returns-clause-ok g t c =
    let there = c.requires.there in
    let family = g.T.RecursiveHeld.family in
    let s = g.T.RecursiveHeld.sort c.args.message.now in
    let reading = c.records_in_order.ensures.reading in
    let place = c.requires.place in
    let held = c.new_in-own.ensures.sort there.0 there.1 in
    let taken = rw held at c.in_ok-merge_grouped.ensures.ok in
    on_ok_weaker c.push.result (λ is. placed_taken family reading (g.met.T.RecursiveHeld.single
    reading)
    s _ _ _ _ _ _ place _ _ _ (each_taken c.args.bytes delimited
    (family_takes family (family.holds s c.args.row)) (new_in family s c.args.row)
    (with_more c.args.row) c.limits_add_up.ensures _ _ _ _ _ _
    (c.new_in-own.ensures.result there.0 there.1) _ _ _ _ _
    c.in_ok-register_element_memory.ensures.ok
    c.in_ok-register_element_memory.ensures.taken is taken))
    (c.push.ensures.ok there.0 there.1 (c.in_ok-merge_grouped.ensures.sort ∙ held))
