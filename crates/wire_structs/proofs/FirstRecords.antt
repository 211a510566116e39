-- The first record of bytes that make a value of another.
use Rattle.std.proofs.Common.{◌≡◌, ℕ, ◌<◌, ◌≤◌, List, [], length, sym, subst, arith}
use Rattle.wire_codec.proofs.Lists.{NotEnded, HeadBehind, head, head_behind}
use Rattle.wire_codec.specs.Charge.{payload_charge}
use Rattle.wire_codec.specs.DecodeError.{DecodeError}
use Rattle.wire_codec.specs.Ending.{by_input}
use Rattle.wire_codec.specs.Fault.{PayloadFault}
use Rattle.wire_codec.specs.FaultLaws.{NoPayloadBesideFault}
use Rattle.wire_codec.specs.Field.{Payload, Fields, none, field, type_of}
use Rattle.wire_codec.specs.Folds.{Step, Folds}
use Rattle.wire_codec.specs.Limits.{Limits, Charge, left_after, uncounted}
use Rattle.wire_codec.specs.Read.{Reads}
use Rattle.wire_codec.specs.Spells.{IsPayload}
use Rattle.wire_codec.specs.Tag.{IsTagSpelling, TagFault}
use Rattle.wire_codec.specs.Taken.{TakesUntil}
use Rattle.wire_codec.specs.Taking.{TakesList}
use Rattle.wire_codec.specs.TakingLaws.{RecordsInOrder}
use Rattle.wire_codec.specs.WireType.{WireType}
use Rattle.wire_structs.specs.Walks.{Makes}

module _ (order : RecordsInOrder) {V : Type 0} (takes : Step V) (u z : V) (now : List ℕ)
    (made : Makes takes now u z) where
  -- no bytes make nothing more
  pub nothing_more : length now ≡ 0 → z ≡ u
  nothing_more empty = of_fields made.2.1.fields made.2.1.read made.2.1.folded
    where
      of_fields : {l : Limits} {c : Charge} (fs : Fields) → TakesUntil c l by_input fs now []
          → Folds takes u fs c z → z ≡ u
      of_fields none read folded = folded.1
      of_fields {l} {c} (field n p others) read (mid, first, rest, step, more, sum) =
          let (behind, next, goes, tag, payload, after) =
          order.front.first rest first l by_input n p others now []
          (subst (λ x. TakesUntil x l by_input (field n p others) now []) sum read) in
          absurd (omega (arith, goes, empty))

  module _ (goes : 0 < length now) where
    not_over : NotEnded by_input now
    not_over new ended = omega (arith, ended.0, goes)

    -- a tag stands there
    pub no_tag_fault : (e : DecodeError) → TagFault now e → ⊥
    no_tag_fault e fault =
        let first = head order takes made.0 by_input u z now [] made.2.0 not_over made.2.1 in
        order.tag_fault now first.behind first.n (type_of first.payload) e first.tag fault

    module _ (n : ℕ) (w : WireType) (behind : List ℕ) (tag : Reads now (IsTagSpelling n w) behind)
      where
        -- the record behind it
        pub first_record : HeadBehind takes made.0 by_input n w u behind z []
        first_record =
            head_behind order takes made.0 by_input n w u z now behind [] made.2.0 tag not_over
            made.2.1

        -- where its payload is read, it is taken, and the bytes behind it make z of what it makes
        pub record_taken : (p : Payload) (next : List ℕ) → Reads behind (IsPayload n w p) next
            → (mid : V) × (c : Charge) × takes u n p c mid × Makes takes next mid z
        record_taken p next read =
            let b = first_record in
            let one = order.reading.payload n w p b.taken.payload behind next b.next read
            b.taken.read.read in (
              b.mid,
              b.first,
              subst (λ x. takes u n x b.first b.mid) (sym one.0) b.taken.step,
              (
                left_after made.0 b.first,
                made.1,
                (
                  b.others,
                  subst (λ x. TakesList takes (left_after made.0 b.first) by_input b.mid x b.others
                      z []) (sym one.1) b.rest,
                ),
              ),
            )

        -- groups are charged their levels, so that its payload is within 100
        pub no_payload_fault : NoPayloadBesideFault
            → ((c : Charge) (mid : V) (p : Payload) → takes u n p c mid
            → (payload_charge p).depth ≤ c.depth)
            → (e : DecodeError) → PayloadFault (uncounted 100) n w behind e → ⊥
        no_payload_fault beside levels e fault =
            let b = first_record in
            beside (uncounted 100) n w behind b.next e b.taken.payload fault (record {
              read = b.taken.read.read;
              fits = record {
                depth = omega (
                  arith,
                  made.1,
                  b.taken.read.fits.depth,
                  levels b.first b.mid b.taken.payload b.taken.step,
                );
                counts = record { unknown_fields = tt; element_memory = tt; unknown_bytes = tt };
              };
            })
