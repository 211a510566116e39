-- One walk over the same bytes, and none beside a fault.
use Rattle.std.proofs.Common.{◌≡◌, ◌≢◌, ◌⊎◌, ℕ, List, [], ◌∷◌, ◌++◌, length, inl, inr, refl, sym, ap, ap₂, ◌∙◌, subst, ⊎_elim, arith, append-nil}
use Rattle.wire_base.specs.declared.error.DecodeError.{DecodeError}
use Rattle.wire_base.specs.declared.tag.WireType.{WireType}
use Rattle.wire_base.specs.declared.tag.WireType.TheVariants.{StartGroup, EndGroup}
use Rattle.wire_base.specs.Field.{Payload, Fields, none, field, type_of}
use Rattle.wire_base.specs.Fault.{PayloadFault}
use Rattle.wire_base.specs.ItemLaws.{OneWalk, NoWalkBesideFault, OneSpanFault}
use Rattle.wire_base.specs.Items.{Item, start, end, whole, IsItem, SpellsItems, flat_charge, ItemFault, SpanFault}
use Rattle.wire_base.specs.Limits.{Limits, HaveRoom, Fits, one_field, left_after}
use Rattle.wire_base.specs.Read.{Reads}
use Rattle.wire_base.specs.Spells.{Spells}
use Rattle.wire_base.specs.Tag.{IsTagSpelling}
use Rattle.wire_base.proofs.FaultLaws.{no_payload_beside_fault_lemma, one_payload_fault_lemma}
use Rattle.wire_base.proofs.FieldLaws.{either_front, head_of, none_takes_nothing, not_end_group, rest_below, Reads-here}
use Rattle.wire_base.proofs.JoinedLaws.{payload_as}
use Rattle.wire_base.proofs.Items.{whole_fits}
use Rattle.wire_base.proofs.LimitsLaws.{HaveRoom-none, HaveRoom-first, HaveRoom-second}
use Rattle.wire_base.proofs.PayloadFaults.{no_slot_only}
use Rattle.wire_base.proofs.ReadLaws.{Reads-as, Reads-inside}
use Rattle.wire_base.proofs.TagLaws.{same_tag, no_tag_beside_fault_lemma, one_tag_fault_lemma}
use Rattle.wire_base.proofs.Walks.{counts-joined}

-- ---- the tag that an item begins with

abbrev number_of : Item → ℕ
number_of (start n) = n
number_of (end n) = n
number_of (whole n p) = n

abbrev kind_of : Item → WireType
kind_of (start n) = StartGroup
kind_of (end n) = EndGroup
kind_of (whole n p) = type_of p

record Begins (i : Item) (old : List ℕ) : Type 0 where
  pub behind : List ℕ
  pub tag : Reads old (IsTagSpelling (number_of i) (kind_of i)) behind

-- the record that an item is
record_of : (n : ℕ) (p : Payload) (old new : List ℕ) → Reads old (IsItem (whole n p)) new
    → Reads old (Spells (field n p none)) new
record_of n p old new h = Reads-as (IsItem (whole n p)) (Spells (field n p none)) old new h
    h.spelled.1

begins : (i : Item) (old new : List ℕ) → Reads old (IsItem i) new → Begins i old
begins (start n) old new h = record { behind = new; tag = h }
begins (end n) old new h = record { behind = new; tag = h }
begins (whole n p) old new h =
    let head = head_of n p none old new (record_of n p old new h) in
    record { behind = head.behind; tag = head.tag }

-- no item is no bytes
item_there : (i : Item) (old new : List ℕ) → Reads old (IsItem i) new → old ≡ [] → ⊥
item_there i old new h empty =
    let b = begins i old new h in
    omega (arith, rest_below (number_of i) (kind_of i) old b.behind b.tag, ap length empty)

-- ---- one item

-- two items at the same place begin with the same tag
same_kind : (i j : Item) (old r s : List ℕ) → Reads old (IsItem i) r → Reads old (IsItem j) s
    → (number_of i ≡ number_of j) × (kind_of i ≡ kind_of j)
same_kind i j old r s h k =
    let a = begins i old r h in
    let b = begins j old s k in
    let same = same_tag old a.behind b.behind (number_of i) (number_of j) (kind_of i) (kind_of j)
    a.tag b.tag in
    (same.number, same.kind)

-- one record is another, where it is its front
same_record : (n m : ℕ) (p q : Payload) (more : Fields) (r s : List ℕ)
    → field m q none ≡ field n p more → Reads r (Spells more) s
    → (whole n p ≡ whole m q) × (r ≡ s)
same_record n m p q none r s same h =
    let number : m ≡ n = cc in
    let payload : q ≡ p = cc in
    (ap₂ whole (sym number) (sym payload), none_takes_nothing r s h)
same_record n m p q (field k x more) r s same h = absurd cc

one_item_only : (i j : Item) (old r s : List ℕ) → Reads old (IsItem i) r → Reads old (IsItem j) s
    → (i ≡ j) × (r ≡ s)
one_item_only (start n) (start m) old r s h k =
    let same = same_tag old r s n m StartGroup StartGroup h k in (ap start same.number, same.rest)
one_item_only (end n) (end m) old r s h k =
    let same = same_tag old r s n m EndGroup EndGroup h k in (ap end same.number, same.rest)
one_item_only (whole n p) (whole m q) old r s h k =
    ⊎_elim
    (λ front. same_record n m p q front.more r s front.parts front.others)
    (λ front. let same = same_record m n q p front.more s r front.parts front.others in
    (sym same.0, sym same.1))
    (either_front (field n p none) (field m q none) old r s (record_of n p old r h)
    (record_of m q old s k))
one_item_only (start n) (end m) old r s h k =
    let kind = (same_kind (start n) (end m) old r s h k).1 in absurd cc
one_item_only (end n) (start m) old r s h k =
    let kind = (same_kind (end n) (start m) old r s h k).1 in absurd cc
one_item_only (start n) (whole m q) old r s h k =
    absurd (k.spelled.0 (sym (same_kind (start n) (whole m q) old r s h k).1))
one_item_only (whole n p) (start m) old r s h k =
    absurd (h.spelled.0 (same_kind (whole n p) (start m) old r s h k).1)
one_item_only (end n) (whole m q) old r s h k =
    absurd (not_end_group q (sym (same_kind (end n) (whole m q) old r s h k).1))
one_item_only (whole n p) (end m) old r s h k =
    absurd (not_end_group p (same_kind (whole n p) (end m) old r s h k).1)

pub one_walk_lemma : OneWalk
one_walk_lemma [] [] text h k = refl
one_walk_lemma [] (j ∷ others) text h k = absurd (item_there j text k.0 k.1 h)
one_walk_lemma (i ∷ items) [] text h k = absurd (item_there i text h.0 h.1 k)
one_walk_lemma (i ∷ items) (j ∷ others) text (r, h, rest) (s, k, more) =
    let one = one_item_only i j text r s h k in
    ap₂ (λ x xs. x ∷ xs) one.0
    (one_walk_lemma items others r rest (subst (SpellsItems others) (sym one.1) more))

-- ---- a walk that goes on

record GoesBehind (front items : List Item) (rest : List ℕ) : Type 0 where
  pub more : List Item
  pub parts : items ≡ front ++ more
  pub others : SpellsItems more rest

-- items at the front of a walk are its front
goes_behind : (front items : List Item) (old rest : List ℕ) → Reads old (SpellsItems front) rest
    → SpellsItems items old → GoesBehind front items rest
goes_behind [] items old rest h k =
    let same : old ≡ rest = h.parts ∙ ap (λ t. t ++ rest) h.spelled in
    record { more = items; parts = refl; others = subst (SpellsItems items) same k }
goes_behind (g ∷ front) [] old rest h k =
    let (mid, first, others) = h.spelled in
    absurd (item_there g old (mid ++ rest)
    (Reads-inside (IsItem g) old h.text mid rest h.parts first) k)
goes_behind (g ∷ front) (i ∷ items) old rest h (r, k, more) =
    let (mid, first, others) = h.spelled in
    let one = one_item_only g i old (mid ++ rest) r
    (Reads-inside (IsItem g) old h.text mid rest h.parts first) k in
    let behind = goes_behind front items (mid ++ rest) rest
    (Reads-here (SpellsItems front) mid rest others)
    (subst (SpellsItems items) (sym one.1) more) in
    record {
      more = behind.more;
      parts = ap₂ (λ x xs. x ∷ xs) (sym one.0) behind.parts;
      others = behind.others;
    }

-- ---- no walk beside a fault

-- there is room for an item behind others
room_for : (l : Limits) (front more : List Item) (i : Item)
    → HaveRoom l.counts (flat_charge (front ++ i ∷ more)).counts
    → HaveRoom (left_after l (flat_charge front)).counts (flat_charge (i ∷ [])).counts
room_for l front more i room =
    let left = (left_after l (flat_charge front)).counts in
    HaveRoom-first left (flat_charge (i ∷ [])).counts (flat_charge more).counts
    (subst (HaveRoom left) (counts-joined (i ∷ []) more)
    (HaveRoom-second l.counts (flat_charge front).counts (flat_charge (i ∷ more)).counts
    (subst (HaveRoom l.counts) (counts-joined front (i ∷ more)) room)))

-- and a slot, where it takes one
slot_of : (l : Limits) (i : Item) → kind_of i ≢ EndGroup
    → HaveRoom l.counts (flat_charge (i ∷ [])).counts → Fits one_field l
slot_of l (start n) inside room = record { depth = omega arith; counts = room }
slot_of l (end n) inside room = absurd (inside refl)
slot_of l (whole n p) inside room = record {
  depth = omega arith;
  counts = record {
    unknown_fields = room.unknown_fields;
    element_memory = room.element_memory;
    unknown_bytes = (HaveRoom-none l.counts).unknown_bytes;
  };
}

-- an item, and a fault of a payload in its place
item_beside_fault : (l : Limits) (i : Item) (n : ℕ) (w : WireType) (old behind new : List ℕ)
    (e : DecodeError) → Reads old (IsItem i) new → Reads old (IsTagSpelling n w) behind
    → w ≢ EndGroup → w ≢ StartGroup → PayloadFault l n w behind e
    → HaveRoom l.counts (flat_charge (i ∷ [])).counts → ⊥
item_beside_fault l (start k) n w old behind new e h tag inside flat fault room =
    flat (same_tag old behind new n k w StartGroup tag h).kind
item_beside_fault l (end k) n w old behind new e h tag inside flat fault room =
    inside (same_tag old behind new n k w EndGroup tag h).kind
item_beside_fault l (whole k p) n w old behind new e h tag inside flat fault room =
    let head = head_of k p none old new (record_of k p old new h) in
    let same = same_tag old head.behind behind k n (type_of p) w head.tag tag in
    no_payload_beside_fault_lemma l k (type_of p) head.behind head.rest e p
    (subst (λ t. PayloadFault l k (type_of p) t e) (sym same.rest)
    (subst (λ x. PayloadFault l k x behind e) (sym same.kind)
    (subst (λ m. PayloadFault l m w behind e) (sym same.number) fault)))
    (record {
      read = payload_as k p head.behind head.rest head.payload;
      fits = whole_fits l k p h.spelled.0 room;
    })

-- an item that has its room, and a fault in its place
no_item_beside_fault : (l : Limits) (front more : List Item) (i : Item) (rest new : List ℕ)
    (e : DecodeError) → ItemFault (left_after l (flat_charge front)) rest e
    → Reads rest (IsItem i) new → HaveRoom l.counts (flat_charge (front ++ i ∷ more)).counts → ⊥
no_item_beside_fault l front more i rest new e (ItemFault.no_tag some fault) h room =
    let b = begins i rest new h in
    no_tag_beside_fault_lemma rest b.behind (number_of i) (kind_of i) e b.tag fault
no_item_beside_fault l front more i rest new e
    (ItemFault.no_slot n w behind tag inside full) h room =
    let b = begins i rest new h in
    let kind = (same_tag rest b.behind behind (number_of i) n (kind_of i) w b.tag tag).kind in
    full (slot_of (left_after l (flat_charge front)) i (λ is. inside (sym kind ∙ is))
    (room_for l front more i room))
no_item_beside_fault l front more i rest new e
    (ItemFault.bad_payload n w behind tag inside flat fault) h room =
    item_beside_fault (left_after l (flat_charge front)) i n w rest behind new e h tag inside flat
    fault (room_for l front more i room)

-- some bytes are left where a fault stands
fault_there : (l : Limits) (rest : List ℕ) (e : DecodeError) → ItemFault l rest e → rest ≡ [] → ⊥
fault_there l rest e (ItemFault.no_tag some fault) empty = some empty
fault_there l rest e (ItemFault.no_slot n w behind tag inside full) empty =
    omega (arith, rest_below n w rest behind tag, ap length empty)
fault_there l rest e (ItemFault.bad_payload n w behind tag inside flat fault) empty =
    omega (arith, rest_below n w rest behind tag, ap length empty)

walk_beside_fault : (l : Limits) (front more : List Item) (rest : List ℕ) (e : DecodeError)
    → ItemFault (left_after l (flat_charge front)) rest e → SpellsItems more rest
    → HaveRoom l.counts (flat_charge (front ++ more)).counts → ⊥
walk_beside_fault l front [] rest e fault h room =
    fault_there (left_after l (flat_charge front)) rest e fault h
walk_beside_fault l front (i ∷ more) rest e fault (r, h, others) room =
    no_item_beside_fault l front more i rest r e fault h room

-- all of the bytes are the items behind which nothing is left
pub walk_all : (items : List Item) (old : List ℕ) → Reads old (SpellsItems items) []
    → SpellsItems items old
walk_all items old h = subst (SpellsItems items) (sym (h.parts ∙ append-nil h.text)) h.spelled

pub no_walk_beside_fault_lemma : NoWalkBesideFault
no_walk_beside_fault_lemma items l span e (SpanFault.past front rest taken fault) h =
    let behind = goes_behind front items span rest taken.read (walk_all items span h.read) in
    walk_beside_fault l front behind.more rest e fault behind.others
    (subst (λ is. HaveRoom l.counts (flat_charge is).counts) behind.parts h.room)

-- ---- one fault

one_item_fault : (l : Limits) (old : List ℕ) (e f : DecodeError) → ItemFault l old e
    → ItemFault l old f → e ≡ f
one_item_fault l old e f (ItemFault.no_tag some fault) (ItemFault.no_tag also other) =
    one_tag_fault_lemma old e f fault other
one_item_fault l old e f (ItemFault.no_tag some fault)
    (ItemFault.no_slot n w behind tag inside full) =
    absurd (no_tag_beside_fault_lemma old behind n w e tag fault)
one_item_fault l old e f (ItemFault.no_tag some fault)
    (ItemFault.bad_payload n w behind tag inside flat other) =
    absurd (no_tag_beside_fault_lemma old behind n w e tag fault)
one_item_fault l old e f (ItemFault.no_slot n w behind tag inside full)
    (ItemFault.no_tag some fault) =
    absurd (no_tag_beside_fault_lemma old behind n w f tag fault)
one_item_fault l old e f (ItemFault.no_slot n w behind tag inside full)
    (ItemFault.no_slot m x after other within also) = refl
one_item_fault l old e f (ItemFault.no_slot n w behind tag inside full)
    (ItemFault.bad_payload m x after other within flat fault) =
    no_slot_only l m x after f full fault
one_item_fault l old e f (ItemFault.bad_payload n w behind tag inside flat fault)
    (ItemFault.no_tag some other) =
    absurd (no_tag_beside_fault_lemma old behind n w f tag other)
one_item_fault l old e f (ItemFault.bad_payload n w behind tag inside flat fault)
    (ItemFault.no_slot m x after other within full) =
    sym (no_slot_only l n w behind e full fault)
one_item_fault l old e f (ItemFault.bad_payload n w behind tag inside flat fault)
    (ItemFault.bad_payload m x after other within level again) =
    let same = same_tag old behind after n m w x tag other in
    one_payload_fault_lemma l n w behind e f fault
    (subst (λ t. PayloadFault l n w t f) (sym same.rest)
    (subst (λ k. PayloadFault l n k after f) (sym same.kind)
    (subst (λ k. PayloadFault l k x after f) (sym same.number) again)))

-- of two walks from the same place the second goes on where the first ends
record WalksOn (front items : List Item) (mid new : List ℕ) : Type 0 where
  pub more : List Item
  pub parts : items ≡ front ++ more
  pub others : Reads mid (SpellsItems more) new

-- the first item of a walk, and the others
first_of : (i : Item) (items : List Item) (old new : List ℕ)
    → Reads old (SpellsItems (i ∷ items)) new
    → (mid : List ℕ) × Reads old (IsItem i) mid × Reads mid (SpellsItems items) new
first_of i items old new h =
    let (rest, first, others) = h.spelled in (
      rest ++ new,
      Reads-inside (IsItem i) old h.text rest new h.parts first,
      Reads-here (SpellsItems items) rest new others,
    )

-- no items take nothing
no_items : (old new : List ℕ) → Reads old (SpellsItems []) new → old ≡ new
no_items old new h = h.parts ∙ ap (λ t. t ++ new) h.spelled

walks_on : (front items : List Item) (old r s : List ℕ) → Reads old (SpellsItems front) r
    → Reads old (SpellsItems items) s → WalksOn front items r s ⊎ WalksOn items front s r
walks_on [] items old r s h k =
    inl (record {
      more = items;
      parts = refl;
      others = subst (λ t. Reads t (SpellsItems items) s) (no_items old r h) k;
    })
walks_on (g ∷ front) [] old r s h k =
    inr (record {
      more = g ∷ front;
      parts = refl;
      others = subst (λ t. Reads t (SpellsItems (g ∷ front)) r) (no_items old s k) h;
    })
walks_on (g ∷ front) (i ∷ items) old r s h k =
    let (mid, first, others) = first_of g front old r h in
    let (after, also, more) = first_of i items old s k in
    let one = one_item_only g i old mid after first also in
    ⊎_elim
    (λ on. inl (record {
      more = on.more;
      parts = ap₂ (λ x xs. x ∷ xs) (sym one.0) on.parts;
      others = on.others;
    }))
    (λ on. inr (record {
      more = on.more;
      parts = ap₂ (λ x xs. x ∷ xs) one.0 on.parts;
      others = on.others;
    }))
    (walks_on front items mid r s others
    (subst (λ t. Reads t (SpellsItems items) s) (sym one.1) more))

-- a fault behind items, and another behind these and more
fault_behind : (l : Limits) (front more : List Item) (rest after : List ℕ) (e f : DecodeError)
    → ItemFault (left_after l (flat_charge front)) rest e → Reads rest (SpellsItems more) after
    → HaveRoom l.counts (flat_charge (front ++ more)).counts
    → ItemFault (left_after l (flat_charge (front ++ more))) after f → e ≡ f
fault_behind l front [] rest after e f fault h room other =
    one_item_fault (left_after l (flat_charge front)) rest e f fault
    (subst (λ is. ItemFault (left_after l (flat_charge is)) rest f) (append-nil front)
    (subst (λ t. ItemFault (left_after l (flat_charge (front ++ []))) t f)
    (sym (no_items rest after h)) other))
fault_behind l front (i ∷ more) rest after e f fault h room other =
    let (mid, first, others) = first_of i more rest after h in
    absurd (no_item_beside_fault l front more i rest mid e fault first room)

pub one_span_fault_lemma : OneSpanFault
one_span_fault_lemma l span e f
    (SpanFault.past gs rest taken fault) (SpanFault.past hs after also other) =
    ⊎_elim
    (λ on. fault_behind l gs on.more rest after e f fault on.others
    (subst (λ is. HaveRoom l.counts (flat_charge is).counts) on.parts also.room)
    (subst (λ is. ItemFault (left_after l (flat_charge is)) after f) on.parts other))
    (λ on. sym (fault_behind l hs on.more after rest f e other on.others
    (subst (λ is. HaveRoom l.counts (flat_charge is).counts) on.parts taken.room)
    (subst (λ is. ItemFault (left_after l (flat_charge is)) rest e) on.parts fault)))
    (walks_on gs hs span rest after taken.read also.read)
