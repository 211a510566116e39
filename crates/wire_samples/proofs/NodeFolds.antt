-- The records of a `Node` fold back to it.
use Rattle.std.proofs.Common.{◌≡◌, ℕ, zero, suc, ◌+◌, ◌^◌, ◌<◌, ◌≤◌, ◌++◌, length, refl, sym, ap}
use Rattle.std.proofs.Common.{◌∙◌, subst, arith, length-append}
use Rattle.std.specs.Prelude.{ℤ, pos, negsuc, FitsSigned}
use Rattle.std.specs.Int.{w64}
use Rattle.wire_codec.specs.Charge.{payload_charge, charge}
use Rattle.wire_codec.specs.Field as grammar
use Rattle.wire_codec.specs.InRange.{AreFitting, AreNumbered}
use Rattle.wire_codec.specs.Laws.{JoinedTextsAndSizes, FieldsArePlain}
use Rattle.wire_codec.specs.Limits.{Charge, no_charge, both, nested, element_of}
use Rattle.wire_codec.specs.LimitsLaws.{ChargesAddUp}
use Rattle.wire_codec.specs.Records.{Records, plain, text, text_size, joined_records, of_fields}
use Rattle.wire_codec.specs.Records as records
use Rattle.wire_codec.specs.RecordLaws.{ShortestTextSpells}
use Rattle.wire_codec.specs.ScalarLaws.{DecodesBack}
use Rattle.wire_codec.specs.Tag.{tag_text}
use Rattle.wire_codec.specs.ValueMap.{sint64}
use Rattle.wire_codec.specs.Varint.{shortest_varint}
use Rattle.wire_codec.specs.WireType.TheVariants.{LengthDelimited, StartGroup, EndGroup}
use Rattle.wire_samples.proofs.PersonFolds.{joined-none, push_joined}
use Rattle.wire_samples.specs.FieldRecords.{sint64_field}
use Rattle.wire_samples.specs.Kept.{AreUnknown, NumbersAre}
use Rattle.wire_samples.specs.Node.{NodeValue, node, MaybeNode, absent, present, NodeList, empty}
use Rattle.wire_samples.specs.Node.{ahead, appended, default_node, node_records, child_record}
use Rattle.wire_samples.specs.Node.{children_records, group_record, IsNode, IsNodeOther}
use Rattle.wire_samples.specs.Node.{IsMaybeNode, AreNodes}
use Rattle.wire_samples.specs.NodeCharge.{node_charge, held_charge, children_charge}
use Rattle.wire_samples.specs.NodeSteps as steps
use Rattle.wire_samples.specs.NodeSteps.{NodeTakes, NodeMerges, NodeFolds}

-- ---- lists

-- one list behind another
abbrev chained : NodeList → NodeList → NodeList
chained empty ms = ms
chained (ahead k ks) ms = ahead k (chained ks ms)

chained-empty : (ks : NodeList) → chained ks empty ≡ ks
chained-empty empty = refl
chained-empty (ahead k ks) = ap (ahead k) (chained-empty ks)

-- a node more at the end of the first list is one more at the front of the second
appended_chained : (ks : NodeList) (m : NodeValue) (ms : NodeList)
    → chained (appended ks m) ms ≡ chained ks (ahead m ms)
appended_chained empty m ms = refl
appended_chained (ahead k ks) m ms = ap (ahead k) (appended_chained ks m ms)

-- ---- what holds of each node that a node holds

pub record Back (m : NodeValue) : Type 0 where
  pub small : text_size (node_records m) ≤ 2147483647
  pub fitting : AreFitting (plain (node_records m))
  pub numbered : AreNumbered (plain (node_records m))
  pub folded : NodeFolds default_node (plain (node_records m)) (node_charge m) m

abbrev HeldBack : MaybeNode → Type 0
HeldBack absent = Unit {0}
HeldBack (present m) = Back m

abbrev ListBack : NodeList → Type 0
ListBack empty = Unit {0}
ListBack (ahead m ms) = Back m × ListBack ms

-- ---- the steps

-- a record that is not charged, in front of others
step_in_front : ChargesAddUp → (m mid z : NodeValue) (n : ℕ) (p : grammar.Payload)
    (fs : grammar.Fields) (c : Charge) → NodeTakes m n p no_charge mid → NodeFolds mid fs c z
    → NodeFolds m (grammar.field n p fs) c z
step_in_front charges m mid z n p fs c step h =
    steps.one_more n p fs mid no_charge c refl step h (sym (charges.nothing_first c))

-- a node with default parts up to the one that is folded
value_folds : ChargesAddUp → DecodesBack sint64 (FitsSigned w64) → (v : ℤ) (z : NodeValue)
    (rest : Records) (c : Charge) → FitsSigned w64 v
    → NodeFolds (node v absent empty absent grammar.none) (plain rest) c z
    → NodeFolds default_node (plain (joined_records (sint64_field 1 v) rest)) c z
value_folds charges back (pos zero) z rest c fits h = h
value_folds charges back (pos (suc k)) z rest c fits h =
    step_in_front charges default_node (node (pos (suc k)) absent empty absent grammar.none) z 1
    (grammar.varint (sint64.enc (pos (suc k)))) (plain rest) c
    (steps.value (pos (suc k)) refl (sym (back (pos (suc k)) fits)) refl refl) h
value_folds charges back (negsuc k) z rest c fits h =
    step_in_front charges default_node (node (negsuc k) absent empty absent grammar.none) z 1
    (grammar.varint (sint64.enc (negsuc k))) (plain rest) c
    (steps.value (negsuc k) refl (sym (back (negsuc k) fits)) refl refl) h

module _ (charges : ChargesAddUp) (spells : ShortestTextSpells) where
  -- the text of a node is merged into a default one
  merges : (m : NodeValue) → Back m
      → NodeMerges default_node (text (node_records m)) (node_charge m) m
  merges m h =
      steps.merged (plain (node_records m)) h.small
      (spells (plain (node_records m)) h.fitting h.numbered) h.folded

  child_folds : (v : ℤ) (child : MaybeNode) (z : NodeValue) (rest : Records) (c : Charge)
      → HeldBack child
      → NodeFolds (node v child empty absent grammar.none) (plain rest) c z
      → NodeFolds (node v absent empty absent grammar.none)
      (plain (joined_records (child_record child) rest)) (both (held_charge child) c) z
  child_folds v absent z rest c back h =
      subst (λ (d : Charge). NodeFolds (node v absent empty absent grammar.none) (plain rest) d z)
      (sym (charges.nothing_first c)) h
  child_folds v (present m) z rest c back h =
      steps.one_more 2 (grammar.bytes (text (node_records m))) (plain rest)
      (node v (present m) empty absent grammar.none) (nested (node_charge m)) c refl
      (steps.child (text (node_records m)) (node_charge m) m refl refl (merges m back) refl refl)
      h refl

  children_fold : (v : ℤ) (child : MaybeNode) (ks ms : NodeList) (z : NodeValue) (rest : Records)
      (c : Charge) → ListBack ms
      → NodeFolds (node v child (chained ks ms) absent grammar.none) (plain rest) c z
      → NodeFolds (node v child ks absent grammar.none)
      (plain (joined_records (children_records ms) rest)) (both (children_charge ms) c) z
  children_fold v child ks empty z rest c back h =
      subst (λ (d : Charge). NodeFolds (node v child ks absent grammar.none) (plain rest) d z)
      (sym (charges.nothing_first c))
      (subst (λ (ns : NodeList). NodeFolds (node v child ns absent grammar.none) (plain rest) c z)
      (chained-empty ks) h)
  children_fold v child ks (ahead m ms) z rest c back h =
      steps.one_more 3 (grammar.bytes (text (node_records m)))
      (plain (joined_records (children_records ms) rest))
      (node v child (appended ks m) absent grammar.none)
      (both (element_of 64) (nested (node_charge m))) (both (children_charge ms) c) refl
      (steps.another (text (node_records m)) (node_charge m) m refl refl (merges m back.0) refl
      refl)
      (children_fold v child (appended ks m) ms z rest c back.1
      (subst (λ (ns : NodeList). NodeFolds (node v child ns absent grammar.none) (plain rest) c z)
      (sym (appended_chained ks m ms)) h))
      (charges.assoc (both (element_of 64) (nested (node_charge m))) (children_charge ms) c)

  group_folds : (v : ℤ) (child : MaybeNode) (children : NodeList) (group : MaybeNode)
      (z : NodeValue) (rest : Records) (c : Charge) → HeldBack group
      → NodeFolds (node v child children group grammar.none) (plain rest) c z
      → NodeFolds (node v child children absent grammar.none)
      (plain (joined_records (group_record group) rest)) (both (held_charge group) c) z
  group_folds v child children absent z rest c back h =
      subst (λ (d : Charge). NodeFolds (node v child children absent grammar.none) (plain rest) d z)
      (sym (charges.nothing_first c)) h
  group_folds v child children (present m) z rest c back h =
      steps.one_more 4 (grammar.group (plain (node_records m))) (plain rest)
      (node v child children (present m) grammar.none) (nested (node_charge m)) c refl
      (steps.grouped (plain (node_records m)) (node_charge m) m refl refl back.folded refl refl)
      h refl

unknown_fold : (v : ℤ) (child : MaybeNode) (children : NodeList) (group : MaybeNode)
    (before fs : grammar.Fields) → NumbersAre IsNodeOther fs
    → NodeFolds (node v child children group before) fs (charge fs)
    (node v child children group (grammar.joined before fs))
unknown_fold v child children group before grammar.none others =
    steps.no_more refl refl (ap (node v child children group) (joined-none before))
unknown_fold v child children group before (grammar.field n p fs) others =
    steps.one_more n p fs (node v child children group (grammar.push before n p))
    (payload_charge p) (charge fs) refl (steps.unknown others.0 refl refl)
    (subst (λ (gs : grammar.Fields). NodeFolds
    (node v child children group (grammar.push before n p)) fs (charge fs)
    (node v child children group gs)) (push_joined before n p fs)
    (unknown_fold v child children group (grammar.push before n p) fs others.1)) refl

-- ---- numbers and lengths in range

enc_fits : (v : ℤ) → FitsSigned w64 v → sint64.enc v < 2 ^ 64
enc_fits (pos n) h = omega (arith, h)
enc_fits (negsuc n) h = omega (arith, h)

value_fitting : (v : ℤ) (rest : Records) → FitsSigned w64 v → AreFitting (plain rest)
    → AreFitting (plain (joined_records (sint64_field 1 v) rest))
value_fitting (pos zero) rest fits h = h
value_fitting (pos (suc k)) rest fits h = (enc_fits (pos (suc k)) fits, h)
value_fitting (negsuc k) rest fits h = (enc_fits (negsuc k) fits, h)

value_numbered : (v : ℤ) (rest : Records) → AreNumbered (plain rest)
    → AreNumbered (plain (joined_records (sint64_field 1 v) rest))
value_numbered (pos zero) rest h = h
value_numbered (pos (suc k)) rest h = ((omega arith, omega arith), tt, h)
value_numbered (negsuc k) rest h = ((omega arith, omega arith), tt, h)

-- a text that a message may have is no longer than a length may say
text_fits : (m : NodeValue) → Back m → length (text (node_records m)) < 2 ^ 64
text_fits m back = omega (arith, back.small)

child_fitting : (child : MaybeNode) (rest : Records) → HeldBack child → AreFitting (plain rest)
    → AreFitting (plain (joined_records (child_record child) rest))
child_fitting absent rest back h = h
child_fitting (present m) rest back h = (text_fits m back, h)

child_numbered : (child : MaybeNode) (rest : Records) → AreNumbered (plain rest)
    → AreNumbered (plain (joined_records (child_record child) rest))
child_numbered absent rest h = h
child_numbered (present m) rest h = ((omega arith, omega arith), tt, h)

children_fitting : (ms : NodeList) (rest : Records) → ListBack ms → AreFitting (plain rest)
    → AreFitting (plain (joined_records (children_records ms) rest))
children_fitting empty rest back h = h
children_fitting (ahead m ms) rest back h =
    (text_fits m back.0, children_fitting ms rest back.1 h)

children_numbered : (ms : NodeList) (rest : Records) → AreNumbered (plain rest)
    → AreNumbered (plain (joined_records (children_records ms) rest))
children_numbered empty rest h = h
children_numbered (ahead m ms) rest h =
    ((omega arith, omega arith), tt, children_numbered ms rest h)

group_fitting : (group : MaybeNode) (rest : Records) → HeldBack group → AreFitting (plain rest)
    → AreFitting (plain (joined_records (group_record group) rest))
group_fitting absent rest back h = h
group_fitting (present m) rest back h = (back.fitting, h)

group_numbered : (group : MaybeNode) (rest : Records) → HeldBack group → AreNumbered (plain rest)
    → AreNumbered (plain (joined_records (group_record group) rest))
group_numbered absent rest back h = h
group_numbered (present m) rest back h = ((omega arith, omega arith), back.numbered, h)

-- ---- sizes

abbrev HeldSmall : MaybeNode → Type 0
HeldSmall absent = Unit {0}
HeldSmall (present m) = text_size (node_records m) ≤ 2147483647

abbrev ListSmall : NodeList → Type 0
ListSmall empty = Unit {0}
ListSmall (ahead m ms) = (text_size (node_records m) ≤ 2147483647) × ListSmall ms

size-joined : JoinedTextsAndSizes → (rs qs : Records)
    → text_size (joined_records rs qs) ≡ text_size rs + text_size qs
size-joined joins rs qs = ap length (joins.text rs qs) ∙ length-append (text rs) (text qs)

-- an embedded message and the records behind it are no longer than all of them
embedded_within : (n : ℕ) (rs rest : Records)
    → length (text rs) + text_size rest ≤ text_size (records.field n (records.embedded rs) rest)
embedded_within n rs rest =
    let tag = tag_text n LengthDelimited in
    let len = shortest_varint (length (text rs)) in
    omega (
      arith,
      length-append tag ((len ++ text rs) ++ text rest),
      length-append (len ++ text rs) (text rest),
      length-append len (text rs),
    )

-- so are the records of a group
group_within : (n : ℕ) (rs rest : Records)
    → length (text rs) + text_size rest ≤ text_size (records.field n (records.group rs) rest)
group_within n rs rest =
    let tag = tag_text n StartGroup in
    let end = tag_text n EndGroup in
    omega (
      arith,
      length-append tag ((text rs ++ end) ++ text rest),
      length-append (text rs ++ end) (text rest),
      length-append (text rs) end,
    )

child_small : (child : MaybeNode) → text_size (child_record child) ≤ 2147483647 → HeldSmall child
child_small absent small = tt
child_small (present m) small =
    omega (arith, small, embedded_within 2 (node_records m) records.none)

children_small : (ms : NodeList) → text_size (children_records ms) ≤ 2147483647 → ListSmall ms
children_small empty small = tt
children_small (ahead m ms) small = (
  omega (arith, small, embedded_within 3 (node_records m) (children_records ms)),
  children_small ms
      (omega (arith, small, embedded_within 3 (node_records m) (children_records ms))),
)

group_small : (group : MaybeNode) → text_size (group_record group) ≤ 2147483647 → HeldSmall group
group_small absent small = tt
group_small (present m) small =
    omega (arith, small, group_within 4 (node_records m) records.none)

parts_small : JoinedTextsAndSizes → (v : ℤ) (child : MaybeNode) (children : NodeList)
    (group : MaybeNode) (kept : grammar.Fields)
    → text_size (node_records (node v child children group kept)) ≤ 2147483647
    → HeldSmall child × ListSmall children × HeldSmall group
parts_small joins v child children group kept small =
    let last = joined_records (group_record group) (of_fields kept) in
    let behind = joined_records (children_records children) last in
    let whole = size-joined joins (sint64_field 1 v) (joined_records (child_record child) behind) in
    let from_child = size-joined joins (child_record child) behind in
    let from_children = size-joined joins (children_records children) last in
    let from_group = size-joined joins (group_record group) (of_fields kept) in (
      child_small child (omega (arith, small, whole, from_child)),
      children_small children (omega (arith, small, whole, from_child, from_children)),
      group_small group (omega (arith, small, whole, from_child, from_children, from_group)),
    )

-- ---- all of it

module _ (charges : ChargesAddUp) (spells : ShortestTextSpells) (joins : JoinedTextsAndSizes)
    (back : DecodesBack sint64 (FitsSigned w64)) (same : FieldsArePlain) where
  -- a node whose parts fold back
  level_back : (v : ℤ) (child : MaybeNode) (children : NodeList) (group : MaybeNode)
      (kept : grammar.Fields) → FitsSigned w64 v → AreUnknown IsNodeOther kept
      → text_size (node_records (node v child children group kept)) ≤ 2147483647 → HeldBack child
      → ListBack children → HeldBack group → Back (node v child children group kept)
  level_back v child children group kept fits unknown small child_back children_back group_back =
      let m = node v child children group kept in
      let last = joined_records (group_record group) (of_fields kept) in
      let behind = joined_records (children_records children) last in
      let from_group = both (held_charge group) (charge kept) in
      let from_children = both (children_charge children) from_group in
      record {
        small = small;
        fitting = value_fitting v (joined_records (child_record child) behind) fits
            (child_fitting child behind child_back
            (children_fitting children last children_back
            (group_fitting group (of_fields kept) group_back
            (subst AreFitting (sym (same.plain kept)) unknown.fitting))));
        numbered = value_numbered v (joined_records (child_record child) behind)
            (child_numbered child behind
            (children_numbered children last
            (group_numbered group (of_fields kept) group_back
            (subst AreNumbered (sym (same.plain kept)) unknown.numbered))));
        folded = value_folds charges back v m (joined_records (child_record child) behind)
            (both (held_charge child) from_children) fits
            (child_folds charges spells v child m behind from_children child_back
            (children_fold charges spells v child empty children m last from_group children_back
            (group_folds charges spells v child children group m (of_fields kept) (charge kept)
            group_back
            (subst (λ (fs : grammar.Fields). NodeFolds
            (node v child children group grammar.none) fs (charge kept) m)
            (sym (same.plain kept))
            (unknown_fold v child children group grammar.none kept unknown.others)))));
      }

  mutual
    pub node_back : (m : NodeValue) → IsNode m → text_size (node_records m) ≤ 2147483647 → Back m
    node_back (node v child children group kept) is small =
        let parts = parts_small joins v child children group kept small in
        level_back v child children group kept is.0 is.4 small (held_back child is.1 parts.0)
        (list_back children is.2 parts.1) (held_back group is.3 parts.2)

    held_back : (held : MaybeNode) → IsMaybeNode held → HeldSmall held → HeldBack held
    held_back absent is small = tt
    held_back (present m) is small = node_back m is small

    list_back : (ms : NodeList) → AreNodes ms → ListSmall ms → ListBack ms
    list_back empty is small = tt
    list_back (ahead m ms) is small = (node_back m is.0 small.0, list_back ms is.1 small.1)
