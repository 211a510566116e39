-- Spans, one behind another: what they are charged, and which records they spell.
use Rattle.std.proofs.Common.{◌≡◌, ◌≢◌, ℕ, ◌+◌, ◌%◌, ◌^◌, ◌<◌, max, Bool, true, false, nat_le, nat_lt, if◌then◌else◌, List, [], ◌∷◌, ◌++◌, Option, Some, None, Result, Ok, Err, refl, sym, ap, ap₂, ◌∙◌, subst, ⊎_elim, arith}
use Rattle.std.specs.List.{concat}
use Rattle.std.specs.Prelude.{IfOk, IfErr, MatchResult}
use Rattle.wire_base.specs.declared.error.DecodeError.{DecodeError}
use Rattle.wire_base.specs.declared.error.DecodeError.TheVariants.{OutOfMemory, InvalidFieldNumber, InvalidWireType}
use Rattle.wire_base.specs.declared.tag.WireType.{WireType}
use Rattle.wire_base.specs.declared.tag.WireType.TheVariants.{StartGroup}
use Rattle.wire_base.specs.Charge.{charge, count}
use Rattle.wire_base.specs.Delimited.{DelimitedFault}
use Rattle.wire_base.specs.Ending.{by_input}
use Rattle.wire_base.specs.Fault.{PayloadFault}
use Rattle.wire_base.specs.Field.{Fields, none, joined}
use Rattle.wire_base.specs.InRange.{AreFitting, AreNumbered}
use Rattle.wire_base.specs.Items.{Item, SpellsItems, TakesItems, ItemFault, SpanFault, slots, item_bytes, greatest_level, flat_charge}
use Rattle.wire_base.specs.Limits.{Limits, Charge, HasRoom, HaveRoom, Fits, both, left_after, no_charge, less}
use Rattle.wire_base.specs.SpanLaws.{OneSpansCharge, SpansChargeRecords, JoinedSpansSpell}
use Rattle.wire_base.specs.Spans.{AreCharged, fields_charge, exact_limits, SpellEach, SpansRefusal, past}
use Rattle.wire_base.specs.Spells.{Spells}
use Rattle.wire_base.specs.Tag.{TagFault}
use Rattle.wire_base.specs.Taken.{KeepsBehind}
use Rattle.wire_base.specs.Varint.{VarintFault}
use Rattle.wire_base.proofs.Agreement.{no_elements}
use Rattle.wire_base.proofs.FaultLaws.{no_list_beside_fault_lemma}
use Rattle.wire_base.proofs.FieldLaws.{joined-none, one_spelled_lemma, spelled_are_numbered_lemma, Spells-all}
use Rattle.wire_base.proofs.JoinedLaws.{joined_assoc, Spells-joined}
use Rattle.wire_base.proofs.LimitsLaws.{HaveRoom-none, Fits-first, Fits-second, Fits-both, left_after-both, both_assoc, both-nothing_first, both-nothing_last, charge-joined}
use Rattle.wire_base.proofs.RecordWalks.{charges_walk}
use Rattle.wire_base.proofs.Takes.{whole_input_lemma}
use Rattle.wire_base.proofs.WalkLaws.{one_walk_lemma, walk_all}
use Rattle.wire_base.proofs.Walks.{records_are_items_lemma}

-- ---- what spans are charged

-- one span more
charged_push : (spans : List (List ℕ)) (s : List ℕ) (c : Charge) (items : List Item)
    → AreCharged spans c → SpellsItems items s
    → AreCharged (spans ++ s ∷ []) (both c (flat_charge items))
charged_push [] s c items nothing h = (
  items,
  no_charge,
  h,
  refl,
  ap (λ (d : Charge). both d (flat_charge items)) nothing
      ∙ both-nothing_first (flat_charge items)
      ∙ sym (both-nothing_last (flat_charge items)),
)
charged_push (t ∷ spans) s c items (own, others, walk, rest, same) h = (
  own,
  both others (flat_charge items),
  walk,
  charged_push spans s others items rest h,
  ap (λ (d : Charge). both d (flat_charge items)) same
      ∙ both_assoc (flat_charge own) others (flat_charge items),
)

-- one span more, of so many slots and bytes
pub charged_more : (spans : List (List ℕ)) (s : List ℕ) (l : Limits) (items : List Item)
    (depth fields bytes deeper more longer : ℕ)
    → AreCharged spans (fields_charge depth fields bytes)
    → TakesItems items l s [] → deeper ≡ max depth (greatest_level 0 items)
    → more ≡ fields + slots items → longer ≡ bytes + item_bytes items
    → AreCharged (spans ++ s ∷ []) (fields_charge deeper more longer)
charged_more spans s l items depth fields bytes deeper more longer h taken deepest sum total =
    rw (deepest, sum, total)
    (charged_push spans s (fields_charge depth fields bytes) items h
    (walk_all items s taken.read))

pub one_spans_charge_lemma : OneSpansCharge
one_spans_charge_lemma [] c d h k = h ∙ sym k
one_spans_charge_lemma (s ∷ spans) c d (items, others, walk, rest, same)
    (again, more, other, behind, also) =
    same
    ∙ ap₂ both (ap flat_charge (one_walk_lemma items again s walk other))
    (one_spans_charge_lemma spans others more rest behind)
    ∙ sym also

pub spans_charge_records_lemma : SpansChargeRecords
spans_charge_records_lemma [] fs h few = ap charge h
spans_charge_records_lemma (s ∷ spans) fs (own, others, spelled, rest, same) few =
    let all : charge fs ≡ both (charge own) (charge others) =
    ap charge same ∙ charge-joined own others in
    let deepest : (charge fs).depth ≡ max (charge own).depth (charge others).depth =
    ap (λ (c : Charge). c.depth) all in
    let (items, walk, charged) = records_are_items_lemma own s spelled
    (omega (arith, few, deepest)) in (
      items,
      charge others,
      walk,
      spans_charge_records_lemma spans others rest (omega (arith, few, deepest)),
      all ∙ ap (λ (c : Charge). both c (charge others)) (sym charged),
    )

-- ---- which records spans spell

pub joined_spans_spell_lemma : JoinedSpansSpell
joined_spans_spell_lemma [] fs h = subst (λ gs. Spells gs []) (sym h) refl
joined_spans_spell_lemma (s ∷ spans) fs (own, others, spelled, rest, same) =
    subst (λ gs. Spells gs (s ++ concat spans)) (sym same)
    (Spells-joined own others s (concat spans) spelled
    (joined_spans_spell_lemma spans others rest))

-- one span more
pub spell_push : (spans : List (List ℕ)) (s : List ℕ) (fs own : Fields) → SpellEach spans fs
    → Spells own s → SpellEach (spans ++ s ∷ []) (joined fs own)
spell_push [] s fs own nothing h = (
  own,
  none,
  h,
  refl,
  ap (λ (gs : Fields). joined gs own) nothing ∙ sym (joined-none own),
)
spell_push (t ∷ spans) s fs own (first, others, spelled, rest, same) h = (
  first,
  joined others own,
  spelled,
  spell_push spans s others own rest h,
  ap (λ (gs : Fields). joined gs own) same ∙ joined_assoc first others own,
)

spell_once : (spans : List (List ℕ)) (fs gs : Fields) → SpellEach spans fs → SpellEach spans gs
    → fs ≡ gs
spell_once spans fs gs h k =
    one_spelled_lemma fs gs (concat spans) (joined_spans_spell_lemma spans fs h)
    (joined_spans_spell_lemma spans gs k)

-- the records before a span, its own, and those behind it
record Around (front : List (List ℕ)) (span : List ℕ) (fs : Fields) : Type 0 where
  pub before : Fields
  pub own : Fields
  pub others : Fields
  pub first : SpellEach front before
  pub spelled : Spells own span
  pub parts : fs ≡ joined before (joined own others)

around : (front : List (List ℕ)) (span : List ℕ) (behind : List (List ℕ)) (fs : Fields)
    → SpellEach (front ++ span ∷ behind) fs → Around front span fs
around [] span behind fs (own, others, spelled, rest, same) = record {
  before = none;
  own = own;
  others = others;
  first = refl;
  spelled = spelled;
  parts = same;
}
around (t ∷ front) span behind fs (head, others, spelled, rest, same) =
    let at = around front span behind others rest in
    record {
      before = joined head at.before;
      own = at.own;
      others = at.others;
      first = (head, at.before, spelled, at.first, refl);
      spelled = at.spelled;
      parts = same ∙ ap (joined head) at.parts
          ∙ sym (joined_assoc head at.before (joined at.own at.others));
    }

-- where spans spell records within the limits, they are refused for want of memory alone
refused_for_memory : (l : Limits) (spans : List (List ℕ)) (e : DecodeError) → SpansRefusal l spans e
    → (fs : Fields) → SpellEach spans fs → Fits (charge fs) l → e ≡ OutOfMemory
refused_for_memory l spans e (past front gs span behind parts h fits refusal) fs k room =
    let at = around front span behind fs (subst (λ t. SpellEach t fs) parts k) in
    let same : at.before ≡ gs = spell_once front at.before gs at.first h in
    let all : charge fs ≡ both (charge gs) (both (charge at.own) (charge at.others)) =
    ap charge at.parts ∙ charge-joined at.before (joined at.own at.others)
    ∙ ap₂ both (ap charge same) (charge-joined at.own at.others) in
    let left = left_after l (charge gs) in
    let own : Fits (charge at.own) left =
    Fits-first left (charge at.own) (charge at.others)
    (Fits-second l (charge gs) (both (charge at.own) (charge at.others))
    (subst (λ c. Fits c l) all room)) in
    ⊎_elim
    (λ fault. absurd
    (no_list_beside_fault_lemma left by_input span [] e at.own fault
    ((whole_input_lemma (charge at.own) left at.own span []).1 (at.spelled, own, refl))))
    (λ memory. memory.0)
    refusal

-- ---- replays

-- one span more is read behind those that were
pub read_more : (l now after : Limits) (spans next : List (List ℕ)) (s : List ℕ)
    (fs read : Fields) → next ≡ spans ++ s ∷ [] → SpellEach spans fs → Fits (charge fs) l
    → now ≡ left_after l (charge fs) → KeepsBehind now after fs s read []
    → SpellEach next read × Fits (charge read) l × (after ≡ left_after l (charge read))
read_more l now after spans next s fs read is each within left kept =
    let all : charge read ≡ both (charge fs) (charge kept.fields) =
    ap charge kept.behind ∙ charge-joined fs kept.fields in (
      subst (λ t. SpellEach t read) (sym is)
          (subst (SpellEach (spans ++ s ∷ [])) (sym kept.behind)
          (spell_push spans s fs kept.fields each
          (Spells-all kept.fields s [] kept.taken.read refl))),
      subst (λ c. Fits c l) (sym all)
          (Fits-both l (charge fs) (charge kept.fields) within
          (subst (Fits (charge kept.fields)) left kept.taken.fits)),
      kept.left ∙ ap (λ m. left_after m (charge kept.fields)) left
          ∙ left_after-both l (charge fs) (charge kept.fields)
          ∙ ap (left_after l) (sym all),
    )

pub only_spelled : (l : Limits) (spans : List (List ℕ)) (r : Result Fields DecodeError)
    → IfOk r (λ fs. SpellEach spans fs) → IfErr r (SpansRefusal l spans)
    → (fs : Fields) → SpellEach spans fs → Fits (charge fs) l
    → MatchResult r (λ read. read ≡ fs) (λ e. e ≡ OutOfMemory)
only_spelled l spans (Ok read) each refusal fs h fits = spell_once spans read fs each h
only_spelled l spans (Err e) each refusal fs h fits = refused_for_memory l spans e refusal fs h fits

-- what each span spells is what the joined spans spell, with numbers that a field may have
pub joined_spelled : (spans : List (List ℕ)) (r : Result Fields DecodeError)
    → IfOk r (λ fs. SpellEach spans fs) → IfOk r (λ fs. Spells fs (concat spans))
joined_spelled spans (Ok fs) each = joined_spans_spell_lemma spans fs each
joined_spelled spans (Err e) each = tt

pub in_range : (spans : List (List ℕ)) (r : Result Fields DecodeError)
    → IfOk r (λ fs. SpellEach spans fs) → IfOk r (λ fs. AreFitting fs)
    → IfOk r (λ fs. AreFitting fs × AreNumbered fs)
in_range spans (Ok fs) each fitting =
    (fitting, spelled_are_numbered_lemma fs (concat spans) (joined_spans_spell_lemma spans fs each))
in_range spans (Err e) each fitting = tt

-- what spans are charged is what their records are
charged_alike : (spans : List (List ℕ)) (fs : Fields) (c : Charge) → SpellEach spans fs
    → (charge fs).depth < 2 ^ 32 → AreCharged spans c → charge fs ≡ c
charged_alike spans fs c h few charged =
    one_spans_charge_lemma spans (charge fs) c (spans_charge_records_lemma spans fs h few) charged

-- a charge of unknown fields fits levels and slots that are just as many, with room for its bytes
fits_just : (l : Limits) (fs : Fields) (c : Charge) → charge fs ≡ c → l.depth ≡ c.depth
    → l.counts.unknown_fields ≡ Some c.counts.unknown_fields
    → HasRoom l.counts.unknown_bytes c.counts.unknown_bytes → Fits (charge fs) l
fits_just l fs c same levels slots room = record {
  depth = omega (arith, levels, ap (λ (d : Charge). d.depth) same);
  counts = record {
    unknown_fields = subst (λ left. HasRoom left (count fs)) (sym slots)
        (omega (arith, ap (λ (d : Charge). d.counts.unknown_fields) same));
    element_memory = subst (HasRoom l.counts.element_memory) (sym (no_elements fs))
        (HaveRoom-none l.counts).element_memory;
    unknown_bytes = subst (λ (d : Charge). HasRoom l.counts.unknown_bytes d.counts.unknown_bytes)
        (sym same) room;
  };
}

nothing_left : (left : Option ℕ) (taken charged : ℕ) → left ≡ Some charged → taken ≡ charged
    → less left taken ≡ Some 0
nothing_left left taken charged is same =
    ap (λ (x : Option ℕ). less x taken) is ∙ ap Some (omega (arith, same))

pub uses_all : (l new : Limits) (spans : List (List ℕ)) (r : Result Fields DecodeError)
    → IfOk r (λ fs. SpellEach spans fs) → IfOk r (λ fs. new ≡ left_after l (charge fs))
    → IfErr r (SpansRefusal l spans)
    → (fs : Fields) (c : Charge) → SpellEach spans fs → (charge fs).depth < 2 ^ 32
    → AreCharged spans c → l.depth ≡ c.depth
    → l.counts.unknown_fields ≡ Some c.counts.unknown_fields
    → HasRoom l.counts.unknown_bytes c.counts.unknown_bytes
    → MatchResult r (λ read. (read ≡ fs) × (new.counts.unknown_fields ≡ Some 0)
    × (l.counts.unknown_bytes ≡ Some c.counts.unknown_bytes
    → new.counts.unknown_bytes ≡ Some 0))
    (λ e. e ≡ OutOfMemory)
uses_all l new spans (Ok read) each charged refusal fs c h few sums levels slots room =
    let one = spell_once spans read fs each h in
    let same : charge read ≡ c = ap charge one ∙ charged_alike spans fs c h few sums in (
      one,
      ap (λ (m : Limits). m.counts.unknown_fields) charged
          ∙ nothing_left l.counts.unknown_fields (count read) c.counts.unknown_fields slots
          (ap (λ (d : Charge). d.counts.unknown_fields) same),
      λ bytes. ap (λ (m : Limits). m.counts.unknown_bytes) charged
          ∙ nothing_left l.counts.unknown_bytes (charge read).counts.unknown_bytes
          c.counts.unknown_bytes bytes (ap (λ (d : Charge). d.counts.unknown_bytes) same),
    )
uses_all l new spans (Err e) each charged refusal fs c h few sums levels slots room =
    refused_for_memory l spans e refusal fs h
    (fits_just l fs c (charged_alike spans fs c h few sums) levels slots room)

-- under what the spans are charged
pub only_charged : (spans : List (List ℕ)) (c : Charge) (r : Result Fields DecodeError)
    → AreCharged spans c → IfOk r (λ fs. SpellEach spans fs)
    → IfErr r (SpansRefusal (exact_limits c) spans)
    → (fs : Fields) → SpellEach spans fs → (charge fs).depth < 2 ^ 32
    → MatchResult r (λ read. read ≡ fs) (λ e. e ≡ OutOfMemory)
only_charged spans c r sums each refusal fs h few =
    only_spelled (exact_limits c) spans r each refusal fs h
    (fits_just (exact_limits c) fs c (charged_alike spans fs c h few sums) refl refl (omega arith))

-- ---- pushes

-- the items of a span are single, so what they leave is too
pub taken_alike : (l new : Limits) (span : List ℕ) (items others : List Item)
    → TakesItems items l span [] → new ≡ left_after l (flat_charge items)
    → TakesItems others l span [] → new ≡ left_after l (flat_charge others)
taken_alike l new span items others h left k =
    left ∙ ap (λ (is : List Item). left_after l (flat_charge is))
    (one_walk_lemma items others span (walk_all items span h.read) (walk_all others span k.read))

-- where a span that spells records is pushed, there was room for them, and their charge is taken
pub pushed_records : (l new : Limits) (span : List ℕ) (items : List Item)
    → TakesItems items l span [] → new ≡ left_after l (flat_charge items)
    → (fs : Fields) → Spells fs span → (charge fs).depth < 2 ^ 32
    → HaveRoom l.counts (charge fs).counts × (new ≡ left_after l (charge fs))
pushed_records l new span items h left fs spelled few =
    let charged : flat_charge items ≡ charge fs = charges_walk items l span h fs spelled few in (
      subst (λ (c : Charge). HaveRoom l.counts c.counts) charged h.room,
      left ∙ ap (left_after l) charged,
    )

-- ---- no fault is want of memory

varint_no_memory : (old : List ℕ) (e : DecodeError) → VarintFault old e → e ≡ OutOfMemory → ⊥
varint_no_memory old e (VarintFault.cut_short continue few) is = cc
varint_no_memory old e (VarintFault.too_long front tenth rest parts continue nine big) is = cc

no_tag_no_memory : (a b c : Bool) (n : ℕ)
    → (if a then Some InvalidFieldNumber
    else (if b then Some (InvalidWireType n)
    else (if c then Some InvalidFieldNumber else None))) ≡ Some OutOfMemory → ⊥
no_tag_no_memory true b c n is = cc
no_tag_no_memory false true c n is = cc
no_tag_no_memory false false true n is = cc
no_tag_no_memory false false false n is = cc

tag_no_memory : (old : List ℕ) (e : DecodeError) → TagFault old e → e ≡ OutOfMemory → ⊥
tag_no_memory old e (TagFault.no_varint fault) is = varint_no_memory old e fault is
tag_no_memory old e (TagFault.no_tag v rest read why) is =
    no_tag_no_memory (nat_le (2 ^ 32) v) (nat_le 6 (v % 8)) (nat_lt v 8) (v % 8)
    (why ∙ ap Some is)

bytes_no_memory : (most : Option ℕ) (old : List ℕ) (e : DecodeError) → DelimitedFault most old e
    → e ≡ OutOfMemory → ⊥
bytes_no_memory most old e (DelimitedFault.no_length fault) is = varint_no_memory old e fault is
bytes_no_memory most old e (DelimitedFault.too_large len rest read above) is = cc
bytes_no_memory most old e (DelimitedFault.cut_short len rest read room short) is = cc

payload_no_memory : (l : Limits) (n : ℕ) (w : WireType) (old : List ℕ) (e : DecodeError)
    → PayloadFault l n w old e → w ≢ StartGroup → e ≡ OutOfMemory → ⊥
payload_no_memory l n w old e (PayloadFault.no_slot full) flat is = cc
payload_no_memory l n w old e (PayloadFault.no_varint slot fault) flat is =
    varint_no_memory old e fault is
payload_no_memory l n w old e (PayloadFault.short_fixed64 slot short) flat is = cc
payload_no_memory l n w old e (PayloadFault.short_fixed32 slot short) flat is = cc
payload_no_memory l n w old e (PayloadFault.no_bytes slot fault) flat is =
    bytes_no_memory None old e fault is
payload_no_memory l n w old e (PayloadFault.no_room b rest slot h full) flat is = cc
payload_no_memory l n w old e (PayloadFault.end_outside slot) flat is = cc
payload_no_memory l n w old e (PayloadFault.no_level slot level) flat is = cc
payload_no_memory l n w old e (PayloadFault.in_group slot level fault) flat is = absurd (flat refl)

pub span_no_memory : (l : Limits) (span : List ℕ) (e : DecodeError) → SpanFault l span e
    → e ≡ OutOfMemory → ⊥
span_no_memory l span e (SpanFault.past items rest taken (ItemFault.no_tag some fault)) is =
    tag_no_memory rest e fault is
span_no_memory l span e
    (SpanFault.past items rest taken (ItemFault.no_slot n w behind tag inside full)) is = cc
span_no_memory l span e
    (SpanFault.past items rest taken (ItemFault.bad_payload n w behind tag inside flat fault)) is =
    payload_no_memory (left_after l (flat_charge items)) n w behind e fault flat is
