-- Records that are passed over on the way to the next value of a list.
use Rattle.std.proofs.Common.{◌≡◌, ◌≢◌, ℕ, ◌<◌, List, [], ◌∷◌}
use Rattle.std.proofs.Common.{◌++◌, length, sym, ap, ◌∙◌, subst, arith}
use Rattle.wire_codec.proofs.Lists.{NotEnded, HeadBehind, head, head_behind}
use Rattle.wire_codec.specs.Charge.{payload_charge}
use Rattle.wire_codec.specs.DecodeError.{DecodeError}
use Rattle.wire_codec.specs.Ending.{by_input}
use Rattle.wire_codec.specs.Fault.{PayloadFault}
use Rattle.wire_codec.specs.FaultLaws.{NoPayloadBesideFault}
use Rattle.wire_codec.specs.Field.{Payload, Fields, none, field, type_of}
use Rattle.wire_codec.specs.Folds.{Step, Folds}
use Rattle.wire_codec.specs.Limits.{Limits, Charge, left_after, uncounted}
use Rattle.wire_codec.specs.Read.{Reads}
use Rattle.wire_codec.specs.Tag.{IsTagSpelling, TagFault}
use Rattle.wire_codec.specs.Taken.{TakesPayload, TakesUntil}
use Rattle.wire_codec.specs.Taking.{TakesList}
use Rattle.wire_codec.specs.RecordLaws.{WholeInput}
use Rattle.wire_codec.specs.TakingLaws.{LevelsAndCounts, RecordsInOrder}
use Rattle.wire_codec.specs.WireType.{WireType}
use Rattle.wire_fields.specs.Scalar.{ScalarType, ReadsScalar, NoScalar}
use Rattle.wire_structs.specs.Walks.{Makes, GivesNext, EndsList, MakesNothing, ListOf}

-- what was read so far has no record of the list
abbrev pub SoFar : {V A : Type 0} → Step V → (V → List A) → List ℕ → List ℕ → Type 0
SoFar {V} takes list old now =
    (m z : V) → Makes takes old m z → (u : V) × Makes takes now u z × (list u ≡ list m)

module _ (order : RecordsInOrder) {V A B : Type 0} (takes : Step V) (list : V → List A)
    (Means : B → A → Type 0) (k : ℕ) (t : ScalarType B) (h : ListOf takes list Means k t)
    (old now : List ℕ)
    (so_far : SoFar takes list old now) where
  not_over : 0 < length now → NotEnded by_input now
  not_over goes new ended = omega (arith, ended.0, goes)

  pub no_tag_stands : (e : DecodeError) → 0 < length now → TagFault now e → MakesNothing takes old
  no_tag_stands e goes fault m z made =
      let (u, (l, low, (c, taken)), same) = so_far m z made in
      let first = head order takes l by_input u z now [] c (not_over goes) taken in
      order.tag_fault now first.behind first.n (type_of first.payload) e first.tag fault

  pub none_left : length now ≡ 0 → EndsList takes list old
  none_left empty m z made =
      let (u, (l, low, (c, taken)), same) = so_far m z made in
      ap list (whole taken.fields taken.read taken.folded) ∙ same
    where
      whole : {l : Limits} {c : Charge} {u z : V} (fs : Fields) → TakesUntil c l by_input fs now []
          → Folds takes u fs c z → z ≡ u
      whole none read folded = folded.1
      whole {l} {c} (field n p others) read (mid, first, rest, step, more, sum) =
          let (behind, next, goes, tag, payload, after) =
          order.front.first rest first l by_input n p others now []
          (subst (λ x. TakesUntil x l by_input (field n p others) now []) sum read) in
          absurd (omega (arith, goes, empty))

  module _ (n : ℕ) (w : WireType) (behind : List ℕ) (goes : 0 < length now)
      (tag : Reads now (IsTagSpelling n w) behind) where
    here : (l : Limits) (u z : V) (c : Charge) → TakesList takes l by_input u now c z []
        → HeadBehind takes l by_input n w u behind z []
    here l u z c taken =
        head_behind order takes l by_input n w u z now behind [] c tag (not_over goes) taken

    pub one_passed : n ≢ k → (next : List ℕ)
        → (p : Payload) × TakesPayload (payload_charge p) (uncounted 100) n w p behind next
        → SoFar takes list old next
    one_passed other next (p, read) m z made =
        let (u, (l, low, (c, taken)), same) = so_far m z made in
        let b = here l u z c taken in
        let one = order.reading.payload n w p b.taken.payload behind next b.next read.read
        b.taken.read.read in (
          b.mid,
          (
            left_after l b.first,
            low,
            (
              b.others,
              subst (λ x. TakesList takes (left_after l b.first) by_input b.mid x b.others z [])
                  (sym one.1) b.rest,
            ),
          ),
          h.others u b.mid n b.taken.payload b.first other b.taken.step ∙ same,
        )

    pub not_passed : NoPayloadBesideFault → (e : DecodeError)
        → PayloadFault (uncounted 100) n w behind e → MakesNothing takes old
    not_passed beside e fault m z made =
        let (u, (l, low, (c, taken)), same) = so_far m z made in
        let b = here l u z c taken in
        beside (uncounted 100) n w behind b.next e b.taken.payload fault (record {
          read = b.taken.read.read;
          fits = record {
            depth = omega (
              arith,
              low,
              b.taken.read.fits.depth,
              h.levels u b.mid n b.taken.payload b.first b.taken.step,
            );
            counts = record { unknown_fields = tt; element_memory = tt; unknown_bytes = tt };
          };
        })

    pub value_given : LevelsAndCounts → WholeInput → n ≡ k → (v : B) (next : List ℕ)
        → ReadsScalar t n w v behind next
        → GivesNext takes list Means old next v
    value_given levels whole is v next read m z made =
        let (u, (l, low, (c, taken)), same) = so_far m z made in
        let b = here l u z c taken in
        let one = order.reading.payload n w read.payload b.taken.payload behind next b.next
        read.read b.taken.read.read in
        let mine = h.own levels order.limits whole l low u b.mid b.taken.payload b.first
        b.taken.read.fits (subst (λ x. takes u x b.taken.payload b.first b.mid) is b.taken.step) in
        let value = t.one b.taken.payload mine.0 v mine.1
        (subst (λ x. t.Sets x v) one.0 read.sets) in (
          b.mid,
          (
            left_after l b.first,
            low,
            (
              b.others,
              subst (λ x. TakesList takes (left_after l b.first) by_input b.mid x b.others z [])
                  (sym one.1) b.rest,
            ),
          ),
          mine.2,
          subst (λ x. Means x mine.2) value mine.3,
          mine.4 ∙ ap (λ x. x ++ mine.2 ∷ []) same,
        )

    pub no_value_given : LevelsAndCounts → WholeInput → n ≡ k
        → NoScalar t n w behind → MakesNothing takes old
    no_value_given levels whole is absent m z made =
        let (u, (l, low, (c, taken)), same) = so_far m z made in
        let b = here l u z c taken in
        let mine = h.own levels order.limits whole l low u b.mid b.taken.payload b.first
        b.taken.read.fits (subst (λ x. takes u x b.taken.payload b.first b.mid) is b.taken.step) in
        absent mine.0 b.next
        (record { payload = b.taken.payload; read = b.taken.read.read; sets = mine.1 })
