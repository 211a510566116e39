-- Records with open groups, one step more, and a fault behind them.
use Rattle.std.proofs.Common.{◌≡◌, ℕ, ◌<◌, List, [], ◌∷◌, ◌++◌, length, refl, sym, ap, ◌∙◌, subst, append-nil, append_assoc}
use Rattle.wire_base.specs.declared.error.DecodeError.{DecodeError}
use Rattle.wire_base.specs.declared.tag.WireType.{WireType}
use Rattle.wire_base.specs.declared.tag.WireType.TheVariants.{StartGroup, EndGroup}
use Rattle.wire_base.specs.Charge.{charge, payload_charge, total}
use Rattle.wire_base.specs.Ending.{Ending, by_input, by_tag, GoesOn}
use Rattle.wire_base.specs.Fault.{ListFault, RecordFault, PayloadFault}
use Rattle.wire_base.specs.Field.{Payload, group, Fields, none, field, push, joined}
use Rattle.wire_base.specs.Items.{start, end}
use Rattle.wire_base.specs.Limits.{Limits, Charge, Fits, both, one_field, nested, outer, left_after}
use Rattle.wire_base.specs.LimitsLaws.{ChargesAddUp, LimitsAddUp, LevelsAddUp}
use Rattle.wire_base.specs.Read.{Reads}
use Rattle.wire_base.specs.RecordLaws.{RecordsOneByOne}
use Rattle.wire_base.specs.Tag.{IsTagSpelling}
use Rattle.wire_base.specs.Taken.{TakesFields, TakesPayload}
use Rattle.wire_read.specs.Opened.{Group, Opens, TakesOpen, numbers, ending_of, in_group, left_open, items_of, payload_items, items_open}

-- ---- a fault

-- the innermost list goes on at the rest, and a record's fault there is the fault of all
pub fault_of_all : (l : Limits) (levels : List Group) (fs : Fields) (all rest : List ℕ)
    (e : DecodeError)
    → ((old behind : List ℕ) (n : ℕ) → Reads old (IsTagSpelling n StartGroup) behind → 0 < length old)
    → TakesOpen l levels fs all rest → GoesOn (ending_of (numbers levels)) rest
    → RecordFault (left_open l levels fs) (ending_of (numbers levels)) rest e
    → ListFault l by_input all e
fault_of_all l [] fs all rest e some h goes fault = ListFault.past fs rest h goes fault
fault_of_all l (g ∷ outside) fs all rest e some (here, behind, before, opens, taken) goes fault =
    fault_of_all l outside g.before all here e some before
    (goes_here (numbers outside) here (some here behind g.number opens.tag))
    (RecordFault.bad_payload g.number StartGroup behind opens.tag
    (record_tag (numbers outside))
    (PayloadFault.in_group opens.slot opens.level (ListFault.past fs rest taken goes fault)))
  where
    goes_here : (open_numbers : List ℕ) (here : List ℕ) → 0 < length here
        → GoesOn (ending_of open_numbers) here
    goes_here [] here h = h
    goes_here (n ∷ ns) here h = tt

    record_tag : (open_numbers : List ℕ)
        → Rattle.wire_base.specs.Ending.IsRecordTag (ending_of open_numbers) StartGroup
    record_tag [] = tt
    record_tag (n ∷ ns) = λ is. absurd cc

-- ---- one step more

pub opened : (records : RecordsOneByOne) (l : Limits) (levels : List Group) (fs : Fields) (n : ℕ)
    (all mid new : List ℕ) → TakesOpen l levels fs all mid → Opens (left_open l levels fs) n mid new
    → TakesOpen l (record { before = fs; number = n } ∷ levels) none all new
opened records l levels fs n all mid new h opens =
    (mid, new, h, opens, records.none (in_group (left_open l levels fs)) new)

charge-push : ChargesAddUp → (fs : Fields) (n : ℕ) (p : Payload)
    → charge (push fs n p) ≡ both (charge fs) (payload_charge p)
charge-push law fs n p =
    let unknown : ℕ → Payload → Charge = λ n p. payload_charge p in
    law.kept_records (push fs n p) ∙ law.lists unknown fs (field n p none)
    ∙ ap (λ c. both c (total unknown (field n p none))) (sym (law.kept_records fs))
    ∙ ap (both (charge fs)) (law.nothing_last (payload_charge p))

-- one record more in a list
takes_more : ChargesAddUp → RecordsOneByOne
    → (l : Limits) (fs : Fields) (n : ℕ) (w : WireType) (p : Payload) (old mid behind new : List ℕ)
    → TakesFields (charge fs) l fs old mid → Reads mid (IsTagSpelling n w) behind
    → TakesPayload (payload_charge p) (left_after l (charge fs)) n w p behind new
    → TakesFields (charge (push fs n p)) l (push fs n p) old new
takes_more charges records l fs n w p old mid behind new h tag payload =
    subst (λ c. TakesFields c l (push fs n p) old new) (sym (charge-push charges fs n p))
    (records.more (charge fs) (payload_charge p) l fs n w p old mid behind new h tag payload)

-- one record more in the innermost list
pub more : ChargesAddUp → RecordsOneByOne
    → (l : Limits) (levels : List Group) (fs : Fields) (n : ℕ) (w : WireType) (p : Payload)
    (all mid behind new : List ℕ)
    → TakesOpen l levels fs all mid → Reads mid (IsTagSpelling n w) behind
    → TakesPayload (payload_charge p) (left_open l levels fs) n w p behind new
    → TakesOpen l levels (push fs n p) all new
more charges records l [] fs n w p all mid behind new h tag payload =
    takes_more charges records l fs n w p all mid behind new h tag payload
more charges records l (g ∷ outside) fs n w p all mid behind new
    (here, inner_start, before, opens, taken) tag payload = (
      here,
      inner_start,
      before,
      opens,
      takes_more charges records (in_group (left_open l outside g.before)) fs n w p inner_start mid behind
          new taken tag payload,
    )

-- and what it leaves
pub left-more : ChargesAddUp → LimitsAddUp
    → (l : Limits) (levels : List Group) (fs : Fields) (n : ℕ) (p : Payload)
    → left_after (left_open l levels fs) (payload_charge p) ≡ left_open l levels (push fs n p)
left-more charges limits l [] fs n p =
    limits.left_after_both l (charge fs) (payload_charge p)
    ∙ ap (left_after l) (sym (charge-push charges fs n p))
left-more charges limits l (g ∷ outside) fs n p =
    limits.left_after_both (in_group (left_open l outside g.before)) (charge fs) (payload_charge p)
    ∙ ap (left_after (in_group (left_open l outside g.before))) (sym (charge-push charges fs n p))

-- the body of a group and its end tag are its payload
group_payload : LimitsAddUp → LevelsAddUp
    → (l : Limits) (n : ℕ) (fs : Fields) (old mid new : List ℕ) → Fits one_field l → 0 < l.depth
    → TakesFields (charge fs) (in_group l) fs old mid → Reads mid (IsTagSpelling n EndGroup) new
    → TakesPayload (payload_charge (group fs)) l n StartGroup (group fs) old new
group_payload limits levels l n fs old mid new slot level h ended = record {
  read = record {
    text = h.read.text ++ ended.text;
    parts = h.read.parts ∙ ap (λ t. h.read.text ++ t) ended.parts
        ∙ sym (append_assoc h.read.text ended.text new);
    spelled = record {
      kind = refl;
      spelled = (
        ended.text,
        record { text = h.read.text; parts = refl; spelled = h.read.spelled },
        ended.spelled,
      );
    };
  };
  fits = (limits.both_fit l one_field (nested (charge fs))).1
      (slot, (levels.nested_fits (left_after l one_field) (charge fs)).1 (level, h.fits));
}

-- the innermost group closed
pub closed : ChargesAddUp → RecordsOneByOne → LimitsAddUp → LevelsAddUp
    → (l : Limits) (g : Group) (outside : List Group) (fs : Fields) (all mid new : List ℕ)
    → TakesOpen l (g ∷ outside) fs all mid → Reads mid (IsTagSpelling g.number EndGroup) new
    → TakesOpen l outside (push g.before g.number (group fs)) all new
closed charges records limits levels l g outside fs all mid new
    (here, behind, before, opens, taken) ended =
    more charges records l outside g.before g.number StartGroup (group fs) all here behind new before
    opens.tag (group_payload limits levels (left_open l outside g.before) g.number fs behind mid new
    opens.slot opens.level taken ended)

pub left-closed : ChargesAddUp → LimitsAddUp → LevelsAddUp
    → (l : Limits) (g : Group) (outside : List Group) (fs : Fields)
    → 0 < (left_open l outside g.before).depth
    → outer (left_open l (g ∷ outside) fs) ≡ left_open l outside (push g.before g.number (group fs))
left-closed charges limits levels l g outside fs level =
    let at = left_open l outside g.before in
    levels.left_after_nested (left_after at one_field) (charge fs) level
    ∙ limits.left_after_both at one_field (nested (charge fs))
    ∙ left-more charges limits l outside g.before g.number (group fs)

-- ---- the items

pub items_of-joined : (fs gs : Fields) → items_of (joined fs gs) ≡ items_of fs ++ items_of gs
items_of-joined none gs = refl
items_of-joined (field n p fs) gs =
    ap (λ is. payload_items n p ++ is) (items_of-joined fs gs)
    ∙ sym (append_assoc (payload_items n p) (items_of fs) (items_of gs))

items_of-push : (fs : Fields) (n : ℕ) (p : Payload)
    → items_of (push fs n p) ≡ items_of fs ++ payload_items n p
items_of-push fs n p = items_of-joined fs (field n p none)
    ∙ ap (λ is. items_of fs ++ is) (append-nil (payload_items n p))

pub items-more : (levels : List Group) (fs : Fields) (n : ℕ) (p : Payload)
    → items_open levels fs ++ payload_items n p ≡ items_open levels (push fs n p)
items-more [] fs n p = sym (items_of-push fs n p)
items-more (g ∷ outside) fs n p =
    append_assoc (items_open outside g.before) (start g.number ∷ items_of fs) (payload_items n p)
    ∙ ap (λ is. items_open outside g.before ++ start g.number ∷ is) (sym (items_of-push fs n p))

pub items-closed : (g : Group) (outside : List Group) (fs : Fields)
    → items_open (g ∷ outside) fs ++ end g.number ∷ []
    ≡ items_open outside (push g.before g.number (group fs))
items-closed g outside fs =
    append_assoc (items_open outside g.before) (start g.number ∷ items_of fs) (end g.number ∷ [])
    ∙ items-more outside g.before g.number (group fs)
