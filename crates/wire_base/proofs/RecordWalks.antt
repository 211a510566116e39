-- What a flat walk takes where a span spells records.
use Rattle.std.proofs.Common.{◌≡◌, ℕ, ◌^◌, ◌<◌, List, [], Result, Ok, Err, sym, ap, ◌∙◌, subst, append-nil}
use Rattle.std.specs.Prelude.{IfOk, IfErr, MatchResult}
use Rattle.wire_base.specs.declared.error.DecodeError.{DecodeError}
use Rattle.wire_base.specs.declared.flat_walk.UnknownSpanCharge.{UnknownSpanCharge}
use Rattle.wire_base.specs.Charge.{charge, count}
use Rattle.wire_base.specs.Field.{Fields}
use Rattle.wire_base.specs.Items.{Item, TakesItems, slots, item_bytes, greatest_level, flat_charge, SpanFault}
use Rattle.wire_base.specs.Limits.{Limits, Charge, HaveRoom, left_after}
use Rattle.wire_base.specs.Spells.{Spells}
use Rattle.wire_base.proofs.WalkLaws.{one_walk_lemma, no_walk_beside_fault_lemma, walk_all}
use Rattle.wire_base.proofs.Walks.{records_are_items_lemma}

-- items that are there are charged what the records are that the span spells
pub charges_walk : (items : List Item) (l : Limits) (span : List ℕ) → TakesItems items l span []
    → (fs : Fields) → Spells fs span → (charge fs).depth < 2 ^ 32 → flat_charge items ≡ charge fs
charges_walk items l span h fs spelled few =
    let (others, walk, same) = records_are_items_lemma fs span spelled few in
    ap flat_charge (one_walk_lemma items others span (walk_all items span h.read) walk) ∙ same

-- where a span spells records for which there is room, it has no fault
pub no_fault_in_records : (l : Limits) (span : List ℕ) (e : DecodeError) → SpanFault l span e
    → (fs : Fields) → Spells fs span → (charge fs).depth < 2 ^ 32
    → HaveRoom l.counts (charge fs).counts → ⊥
no_fault_in_records l span e fault fs spelled few room =
    let (items, walk, same) = records_are_items_lemma fs span spelled few in
    no_walk_beside_fault_lemma items l span e fault
    (record {
      read = record { text = span; parts = sym (append-nil span); spelled = walk };
      room = subst (λ (c : Charge). HaveRoom l.counts c.counts) (sym same) room;
    })

-- where a span spells records for which there is room, a walk over it takes what they are charged
pub charges_records : (l new : Limits) (span : List ℕ) (r : Result UnknownSpanCharge DecodeError)
    → IfOk r (λ taken. (items : List Item) × TakesItems items l span []
    × (taken.fields ≡ slots items) × (taken.depth ≡ greatest_level 0 items)
    × (taken.bytes ≡ item_bytes items) × (new ≡ left_after l (flat_charge items)))
    → IfErr r (SpanFault l span)
    → (fs : Fields) → Spells fs span → (charge fs).depth < 2 ^ 32
    → HaveRoom l.counts (charge fs).counts
    → MatchResult r
    (λ taken. (taken.fields ≡ count fs) × (taken.depth ≡ (charge fs).depth)
    × (taken.bytes ≡ (charge fs).counts.unknown_bytes) × (new ≡ left_after l (charge fs))) (λ e. ⊥)
charges_records l new span (Ok taken) (items, h, fields, depth, bytes, left) fault fs spelled few
    room =
    let charged : flat_charge items ≡ charge fs = charges_walk items l span h fs spelled few in (
      fields ∙ ap (λ (c : Charge). c.counts.unknown_fields) charged,
      depth ∙ ap (λ (c : Charge). c.depth) charged,
      bytes ∙ ap (λ (c : Charge). c.counts.unknown_bytes) charged,
      left ∙ ap (left_after l) charged,
    )
charges_records l new span (Err e) ok fault fs spelled few room =
    no_fault_in_records l span e fault fs spelled few room
