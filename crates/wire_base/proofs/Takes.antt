-- Records taken one after another within limits, up to the end of their list.
use Rattle.std.proofs.Common.{◌≡◌, ℕ, ◌<◌, ◌≤◌, inl, inr, List, [], ◌∷◌, length, refl, sym, ap, ◌∙◌, subst, arith, ⊎_elim}
use Rattle.wire_base.specs.declared.tag.WireType.{WireType}
use Rattle.wire_base.specs.declared.tag.WireType.TheVariants as types
use Rattle.wire_base.specs.Charge.{charge, payload_charge}
use Rattle.wire_base.specs.Ending.{Ending, by_limit, by_tag, by_input, GoesOn, Ends}
use Rattle.wire_base.specs.Field.{Payload, Fields, none, field, type_of, joined, push, count_top}
use Rattle.wire_base.specs.Limits.{Limits, Charge, left_after, both, no_charge}
use Rattle.wire_base.specs.Read.{Reads}
use Rattle.wire_base.specs.RecordLaws.{OneList, WholeInput, RecordsOneByOne}
use Rattle.wire_base.specs.Spells.{SpellsPayload, Spells}
use Rattle.wire_base.specs.Tag.{IsTagSpelling}
use Rattle.wire_base.specs.Taken.{TakesPayload, TakesFields, KeepsBehind, LastGoesOn}
use Rattle.wire_base.proofs.FieldLaws.{either_front, head_of, none_takes_nothing, record_not_end, joined-none, rest_below, Reads-all, Spells-all}
use Rattle.wire_base.proofs.JoinedLaws.{joined_assoc, Reads-none, Reads-push, split_joined, count_top-joined, count_top-push}
use Rattle.wire_base.proofs.LimitsLaws.{Fits-nothing, Fits-both, left_after-both, left_after-nothing, charge-push}
use Rattle.wire_base.proofs.ReadLaws.{Reads-shorter}
use Rattle.wire_base.proofs.TagLaws.{same_tag}

-- ---- one by one

pub takes_none : (l : Limits) (old : List ℕ) → TakesFields no_charge l none old old
takes_none l old = record { read = Reads-none old; fits = Fits-nothing l }

-- one record more
pub takes_push : (c d : Charge) (l : Limits) (fs : Fields) (n : ℕ) (w : WireType) (p : Payload)
    (old mid behind new : List ℕ)
    → TakesFields c l fs old mid → Reads mid (IsTagSpelling n w) behind
    → TakesPayload d (left_after l c) n w p behind new
    → TakesFields (both c d) l (push fs n p) old new
takes_push c d l fs n w p old mid behind new h tag k = record {
  read = Reads-push fs n w p old mid behind new h.read tag k.read;
  fits = Fits-both l c d h.fits k.fits;
}

-- one unknown field more
pub takes_field : (l : Limits) (fs : Fields) (n : ℕ) (w : WireType) (p : Payload)
    (old mid behind new : List ℕ)
    → TakesFields (charge fs) l fs old mid → Reads mid (IsTagSpelling n w) behind
    → TakesPayload (payload_charge p) (left_after l (charge fs)) n w p behind new
    → TakesFields (charge (push fs n p)) l (push fs n p) old new
takes_field l fs n w p old mid behind new h tag k =
    subst (λ c. TakesFields c l (push fs n p) old new) (sym (charge-push fs n p))
    (takes_push (charge fs) (payload_charge p) l fs n w p old mid behind new h tag k)

-- what one unknown field more leaves of the limits
pub left_after-push : (l : Limits) (fs : Fields) (n : ℕ) (p : Payload)
    → left_after (left_after l (charge fs)) (payload_charge p) ≡ left_after l (charge (push fs n p))
left_after-push l fs n p = left_after-both l (charge fs) (payload_charge p)
    ∙ ap (left_after l) (sym (charge-push fs n p))

-- ---- behind others

pub keeps_none : (l : Limits) (kept : Fields) (old : List ℕ) → KeepsBehind l l kept old kept old
keeps_none l kept old = record {
  fields = none;
  taken = takes_none l old;
  behind = sym (joined-none kept);
  left = sym (left_after-nothing l);
}

-- one unknown field more
pub keeps_field : (l now after : Limits) (kept kept_now : Fields) (n : ℕ) (w : WireType)
    (p : Payload) (old mid behind new : List ℕ)
    → KeepsBehind l now kept old kept_now mid → Reads mid (IsTagSpelling n w) behind
    → TakesPayload (payload_charge p) now n w p behind new
    → after ≡ left_after now (payload_charge p)
    → KeepsBehind l after kept old (push kept_now n p) new
keeps_field l now after kept kept_now n w p old mid behind new h tag k left = record {
  fields = push h.fields n p;
  taken = takes_field l h.fields n w p old mid behind new h.taken tag
      (subst (λ m. TakesPayload (payload_charge p) m n w p behind new) h.left k);
  behind = ap (λ (fs : Fields). push fs n p) h.behind
      ∙ joined_assoc kept h.fields (field n p none);
  left = left ∙ ap (λ m. left_after m (payload_charge p)) h.left
      ∙ left_after-push l h.fields n p;
}

-- ---- the end

-- no list goes on and ends where a record stands
pub not_both : (ending : Ending) (n : ℕ) (p : Payload) (more : Fields) (rest end new : List ℕ)
    → GoesOn ending rest → Ends ending rest new
    → Reads rest (Spells (field n p more)) end → ⊥
not_both (by_limit most) n p more rest end new goes ends h = omega (arith, ends.0)
not_both (by_tag k) n p more rest end new goes ends h =
    record_not_end n k p more rest end new h ends

-- where a list goes on it goes on before
pub goes_on_before : (ending : Ending) (long short : List ℕ) → length short ≤ length long
    → GoesOn ending short → GoesOn ending long
goes_on_before (by_limit most) long short le h = omega arith
goes_on_before (by_tag n) long short le h = tt

-- a list ends in one way at one place
pub ends_once : (ending : Ending) (end r s : List ℕ) → Ends ending end r → Ends ending end s → r ≡ s
ends_once (by_limit most) end r s h k = h.1 ∙ sym k.1
ends_once (by_tag n) end r s h k = (same_tag end r s n n types.EndGroup types.EndGroup h k).rest

-- a list that is another with some records more is not this one with one record more, before which
-- more bytes are left
too_many : (gs before more others : Fields) (n m k : ℕ) (p q x : Payload)
    → joined gs (field n p more) ≡ push before m q → gs ≡ joined before (field k x others) → ⊥
too_many gs before more others n m k p q x parts longer =
    omega (
      arith,
      ap count_top parts,
      count_top-joined gs
          (field n p more),
      count_top-push before m q,
      ap count_top longer,
      count_top-joined before
          (field k x others),
    )

-- where one of its records begins, a list goes on
pub goes_on_at : (ending : Ending) (fs gs more : Fields) (n : ℕ) (p : Payload) (old mid : List ℕ)
    → LastGoesOn ending fs old → fs ≡ joined gs (field n p more)
    → Reads old (Spells gs) mid → GoesOn ending mid
goes_on_at ending fs none more n p old mid (inl none_is) parts h = absurd cc
goes_on_at ending fs (field k x gs) more n p old mid (inl none_is) parts h = absurd cc
goes_on_at ending fs gs more n p old mid (inr (before, m, q, rest, last, k, goes)) parts h =
    ⊎_elim
    (λ front. goes_on_before ending mid rest
    (Reads-shorter (Spells front.more) mid rest front.others) goes)
    (λ front. behind front.more front.parts front.others)
    (either_front gs before old mid rest h k)
  where
    behind : (others : Fields) → gs ≡ joined before others → Reads rest (Spells others) mid
        → GoesOn ending mid
    behind none same k = subst (GoesOn ending) (none_takes_nothing rest mid k) goes
    behind (field j x others) same k =
        absurd (too_many gs before more others n m j p q x (sym parts ∙ last) same)

-- the last record of some, with those before it
record Last (fs : Fields) : Type 0 where
  before : Fields
  n : ℕ
  p : Payload
  parts : fs ≡ push before n p

last_of : (n : ℕ) (p : Payload) (fs : Fields) → Last (field n p fs)
last_of n p none = record { before = none; n = n; p = p; parts = refl }
last_of n p (field m q fs) =
    let last = last_of m q fs in
    record {
      before = field n p last.before;
      n = last.n;
      p = last.p;
      parts = ap
          (field n p) last.parts;
    }

-- a list that ends is not the front of a longer one
front_of_list : (ending : Ending) (fs gs more : Fields) (old end rest r : List ℕ)
    → Reads old (Spells fs) end → Ends ending end r → LastGoesOn ending gs old
    → gs ≡ joined fs more → Reads end (Spells more) rest → (gs ≡ fs) × (end ≡ rest)
front_of_list ending fs gs none old end rest r h ends last parts k =
    (parts ∙ joined-none fs, none_takes_nothing end rest k)
front_of_list ending fs gs (field n p more) old end rest r h ends last parts k =
    absurd (not_both ending n p more end rest r
    (goes_on_at ending gs fs more n p old end last parts h) ends k)

-- ---- the laws

pub one_list_lemma : OneList
one_list_lemma ending fs gs c d l m old r s h k =
    ⊎_elim
    (λ front. let same = front_of_list ending fs gs front.more old h.end k.end r h.fields.read
    h.ended k.last front.parts front.others in (
      sym same.0,
      ends_once ending k.end r s
          (subst (λ t. Ends ending t r) same.1 h.ended) k.ended,
    ))
    (λ front. let same = front_of_list ending gs fs front.more old k.end h.end s k.fields.read
    k.ended h.last front.parts front.others in
    (same.0, ends_once ending h.end r s h.ended (subst (λ t. Ends ending t s) same.1 k.ended)))
    (either_front fs gs old h.end k.end h.fields.read k.fields.read)

-- nothing is no longer than 0
nothing_left : (l : List ℕ) → length l ≤ 0 → l ≡ []
nothing_left [] h = refl
nothing_left (b ∷ l) h = absurd (omega arith)

-- what stands behind records is shorter than what stands before the last of them
before_last : (before : Fields) (n : ℕ) (p : Payload) (old mid new : List ℕ)
    → Reads old (Spells before) mid → Reads mid (Spells (field n p none)) new
    → length new < length mid
before_last before n p old mid new h k =
    let head = head_of n p none mid new k in
    let same = none_takes_nothing head.rest new head.others in
    omega (
      arith,
      rest_below n (type_of p) mid head.behind head.tag,
      Reads-shorter
          (SpellsPayload n p) head.behind head.rest head.payload,
      ap length same,
    )

-- the last of records that stand at the front, where a list goes on before what they leave
pub last_before : (ending : Ending) (fs : Fields) (old mid : List ℕ) → Reads old (Spells fs) mid
    → ((rest : List ℕ) → length mid < length rest → GoesOn ending rest) → LastGoesOn ending fs old
last_before ending none old mid h goes = inl refl
last_before ending (field n p fs) old mid h goes =
    let last = last_of n p fs in
    let one = field last.n last.p none in
    let split = split_joined last.before one old mid
    (subst (λ gs. Reads old (Spells gs) mid) last.parts h) in
    inr (
      last.before,
      last.n,
      last.p,
      split.mid,
      last.parts,
      split.first,
      goes split.mid
          (before_last last.before last.n last.p old split.mid mid split.first split.second),
    )

pub whole_input_lemma : WholeInput
whole_input_lemma c l fs old new = (
  λ h. (
    Spells-all fs old h.end h.fields.read
        (nothing_left h.end h.ended.0),
    h.fields.fits,
    h.ended.1 ∙ nothing_left h.end h.ended.0,
  ),
  λ h. record {
    end = [];
    fields = record { read = Reads-all fs old h.0; fits = h.1 };
    ended = (omega arith, h.2);
    last = last_before by_input fs old [] (Reads-all fs old h.0) (λ rest longer. longer);
  },
)

pub records_one_by_one : RecordsOneByOne
records_one_by_one = record { none = takes_none; more = takes_push }
