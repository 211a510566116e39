-- What members say of several fields, what is written of them, and that this is read as them.
use Rattle.std.proofs.Common.{◌≡◌, ◌≢◌, ◌⊎◌, ℕ, true, List, [], ◌∷◌, ◌++◌, Option, Some, None, inl, inr, refl, sym, subst}
use Rattle.wire_json.specs.Json.{Json, null, boolean, number, string, array, object, Members, no_member, AreLawfulMembers, IsLawful}
use Rattle.wire_jsonfields.specs.Back.{ComesBack, IsBack}
use Rattle.wire_jsonfields.specs.Fields.{EachKnown, FieldMeans, MeansSome, MeansUnlessNull, ValuesMean}
use Rattle.wire_jsonfields.specs.MembersBack.{all_ascii, known_joined, name_is_text}
use Rattle.wire_jsonfields.specs.Messages.{IsFieldTree, IsObjectTree, ObjectMeans, members_joined}
use Rattle.wire_jsonfields.specs.Names.{IsOneOf, Names, are_apart, both_hold, of_both, parts_apart}
use Rattle.wire_jsonfields.specs.Objects.{IsNameOf}
use Rattle.wire_jsonfields.specs.Oneofs.{EitherSays, EitherTrees, IsMemberTree, OneofTrees}
use Rattle.wire_jsonfields.specs.OneValues.{SayOne}
use Rattle.wire_jsonfields.specs.PartsBack.{NoneNamed, PartBack, both_part, field_part, known_weaker, left_part, member_part, none_part, right_part, said_alone}

-- what each of the two says
abbrev pub BothSay : {V W : Type 0} → (Members → V → Type 0) → (Members → W → Type 0) → Members
    → V × W → Type 0
BothSay P Q ms v = P ms v.0 × Q ms v.1

-- the members of the one, and those of the other behind them
abbrev pub BothTrees : {V W : Type 0} → (V → Members → Type 0) → (W → Members → Type 0) → V × W
    → Members → Type 0
BothTrees P Q v ms =
    (xs : Members) × (ys : Members) × P v.0 xs × Q v.1 ys × (ms ≡ members_joined xs ys)

-- each of the two is in range
abbrev pub AreBoth : {V W : Type 0} → (V → Type 0) → (W → Type 0) → V × W → Type 0
AreBoth P Q v = P v.0 × Q v.1

-- each member is of a field, and the fields are as their members say
abbrev pub MembersSay : {V : Type 0} → List Names → (Members → V → Type 0) → Members → V → Type 0
MembersSay names Say ms v = EachKnown (IsOneOf names) ms × Say ms v

-- a field is as it is without a member, or in range
abbrev pub IsInRangeUnless : {V : Type 0} → V → (V → Type 0) → V → Type 0
IsInRangeUnless absent Range v = v ≢ absent → Range v

abbrev pub IsOneofInRange : {V : Type 0} → (V → Type 0) → Option V → Type 0
IsOneofInRange Range None = Unit {0}
IsOneofInRange Range (Some v) = Range v

abbrev pub IsEitherInRange : {V W : Type 0} → (V → Type 0) → (W → Type 0) → V ⊎ W → Type 0
IsEitherInRange P Q (inl v) = P v
IsEitherInRange P Q (inr w) = Q w

-- ---- one value at most

pub one_both : {V W : Type 0} (P : Members → V → Type 0) (Q : Members → W → Type 0) → SayOne P
    → SayOne Q → SayOne (BothSay P Q)
one_both {V} {W} P Q p q ms v w h k = same v w (p ms v.0 w.0 h.0 k.0) (q ms v.1 w.1 h.1 k.1)
  where
    same : (x y : V × W) → x.0 ≡ y.0 → x.1 ≡ y.1 → x ≡ y
    same (a, b) (c, d) i j = cc

pub one_said : {V : Type 0} (names : List Names) (Say : Members → V → Type 0) → SayOne Say
    → SayOne (MembersSay names Say)
one_said names Say one ms v w h k = one ms v w h.1 k.1

pub both_unsaid : {V W : Type 0} (P : Members → V → Type 0) (Q : Members → W → Type 0) (v : V)
    (w : W) → P no_member v → Q no_member w → BothSay P Q no_member (v, w)
both_unsaid P Q v w p q = (p, q)

-- ---- what is written is read back

-- the members that are written of a value, whatever others stand beside them, say it
abbrev pub PartComesBack : {V : Type 0} → List Names → (Members → V → Type 0)
    → (V → Members → Type 0) → (V → Type 0) → Type 0
PartComesBack {V} names Says Trees Range =
    are_apart names ≡ true → (v : V) → Range v → (ms : Members) → Trees v ms
    → PartBack (IsOneOf names) Says v ms

-- the same of members of a oneof, which has no value where there are none
pub record ChoiceComesBack {V : Type 0} (names : List Names) (Says : Members → Option V → Type 0)
    (Trees : V → Members → Type 0) (Range : V → Type 0) : Type 0 where
  pub none : (ms : Members) → NoneNamed (IsOneOf names) ms → Says ms None
  pub some : are_apart names ≡ true → (v : V) → Range v → (ms : Members) → Trees v ms
      → PartBack (IsOneOf names) Says (Some v) ms

-- a part among more names
wider_part : {V : Type 0} {P Q : List ℕ → Type 0} (Says : Members → V → Type 0) (v : V)
    (ms : Members) → ((n : List ℕ) → P n → Q n) → PartBack P Says v ms → PartBack Q Says v ms
wider_part Says v ms wider part = record {
  lawful = part.lawful;
  own = known_weaker wider ms part.own;
  says = λ before behind none_before none_behind.
      part.says before behind (known_weaker (λ n h p. h (wider n p)) before none_before)
      (known_weaker (λ n h p. h (wider n p)) behind none_behind);
}

only_name : (a b n : List ℕ) → IsNameOf a b n → IsOneOf ((a, b) ∷ []) n
only_name a b n h = inl h

-- members that say there is a value say it of a field that is never absent
one_there : {V : Type 0} (absent : V) (Means : Json → V → Type 0) (e : Json) (v : V)
    → MeansUnlessNull None (MeansSome Means) e (Some v) → MeansUnlessNull absent Means e v
one_there absent Means null v h = absurd cc
one_there absent Means (boolean b) v h = h
one_there absent Means (number text) v h = h
one_there absent Means (string bytes) v h = h
one_there absent Means (array es) v h = h
one_there absent Means (object ms) v h = h

said_there : {V : Type 0} (absent : V) (Means : Json → V → Type 0) (Named : List ℕ → Type 0)
    (ms : Members) (v : V) → FieldMeans None (MeansSome Means) Named ms (Some v)
    → FieldMeans absent Means Named ms v
said_there {V} absent Means Named ms v (values, are, means) = (values, are, all_mean values means)
  where
    all_mean : (es : List Json) → ValuesMean None (MeansSome Means) es (Some v)
        → ValuesMean absent Means es v
    all_mean [] h = absurd cc
    all_mean (e ∷ []) h = one_there absent Means e v h
    all_mean (e ∷ f ∷ more) h = absurd h

module _ {V : Type 0} (Means : Json → V → Type 0) (Tree : V → Json → Type 0)
    (name json_name : List ℕ) (Range : V → Type 0)
    (back : (v : V) → Range v → ComesBack Means Tree v) where
  pub field_back : (absent : V)
      → PartComesBack ((name, json_name) ∷ []) (FieldMeans absent Means (IsNameOf name json_name))
      (IsFieldTree absent Tree json_name) (IsInRangeUnless absent Range)
  field_back absent apart v range ms tree =
      let ascii = (both_hold (all_ascii json_name) true apart).0 in
      wider_part (FieldMeans absent Means (IsNameOf name json_name)) v ms (only_name name json_name)
      (field_part absent Means Tree name json_name v ms tree (name_is_text json_name ascii)
      (λ other. back v (range other)))

  -- the same of a field that is always written
  pub always_back : (absent : V)
      → PartComesBack ((name, json_name) ∷ []) (FieldMeans absent Means (IsNameOf name json_name))
      (IsMemberTree Tree json_name) Range
  always_back absent apart v range ms tree =
      let ascii = (both_hold (all_ascii json_name) true apart).0 in
      let part = member_part Means Tree name json_name v ms tree (name_is_text json_name ascii)
      (back v range) in
      wider_part (FieldMeans absent Means (IsNameOf name json_name)) v ms (only_name name json_name)
      (record {
        lawful = part.lawful;
        own = part.own;
        says = λ before behind none_before none_behind.
            said_there absent Means (IsNameOf name json_name)
            (members_joined (members_joined before ms) behind) v
            (part.says before behind none_before none_behind);
      })

  pub variant_back : ChoiceComesBack ((name, json_name) ∷ [])
      (FieldMeans None (MeansSome Means) (IsNameOf name json_name)) (IsMemberTree Tree json_name)
      Range
  variant_back = record {
    none = λ ms none. none_part Means (IsNameOf name json_name) ms
        (known_weaker (λ n h p. h (only_name name json_name n p)) ms none);
    some = λ apart v range ms tree.
        let ascii = (both_hold (all_ascii json_name) true apart).0 in
        wider_part (FieldMeans None (MeansSome Means) (IsNameOf name json_name)) (Some v) ms
        (only_name name json_name)
        (member_part Means Tree name json_name v ms tree (name_is_text json_name ascii)
        (back v range));
  }

module _ {V W : Type 0} (ps qs : List Names) where
  pub both_back : (P : Members → V → Type 0) (Q : Members → W → Type 0)
      (TreesP : V → Members → Type 0) (TreesQ : W → Members → Type 0) (RangeP : V → Type 0)
      (RangeQ : W → Type 0) → PartComesBack ps P TreesP RangeP → PartComesBack qs Q TreesQ RangeQ
      → PartComesBack (ps ++ qs) (BothSay P Q) (BothTrees TreesP TreesQ) (AreBoth RangeP RangeQ)
  both_back P Q TreesP TreesQ RangeP RangeQ p q apart (v, w) range ms (xs, ys, one, other, is) =
      let parts = parts_apart ps qs apart in
      let both = both_part (IsOneOf ps) (IsOneOf qs) P Q v w xs ys (p parts.these v range.0 xs one)
      (q parts.those w range.1 ys other) parts.apart in
      subst (λ l. PartBack (IsOneOf (ps ++ qs)) (BothSay P Q) (v, w) l) (sym is)
      (wider_part (BothSay P Q) (v, w) (members_joined xs ys) (λ n h. of_both ps qs n h) both)

  module _ (P : Members → Option V → Type 0) (Q : Members → Option W → Type 0)
      (TreesP : V → Members → Type 0) (TreesQ : W → Members → Type 0) (RangeP : V → Type 0)
      (RangeQ : W → Type 0) (p : ChoiceComesBack ps P TreesP RangeP)
      (q : ChoiceComesBack qs Q TreesQ RangeQ) where
    none_either : (ms : Members) → NoneNamed (IsOneOf (ps ++ qs)) ms → EitherSays P Q ms None
    none_either ms none = (
      None,
      None,
      p.none ms (known_weaker (λ n h k. h (of_both ps qs n (inl k))) ms none),
      q.none ms (known_weaker (λ n h k. h (of_both ps qs n (inr k))) ms none),
      refl,
    )

    some_either : are_apart (ps ++ qs) ≡ true → (x : V ⊎ W) → IsEitherInRange RangeP RangeQ x
        → (ms : Members) → EitherTrees TreesP TreesQ x ms
        → PartBack (IsOneOf (ps ++ qs)) (EitherSays P Q) (Some x) ms
    some_either apart (inl v) range ms tree =
        let parts = parts_apart ps qs apart in
        wider_part (EitherSays P Q) (Some (inl v)) ms (λ n h. of_both ps qs n h)
        (left_part (IsOneOf ps) (IsOneOf qs) P Q p.none q.none parts.apart ms v
        (p.some parts.these v range ms tree))
    some_either apart (inr w) range ms tree =
        let parts = parts_apart ps qs apart in
        wider_part (EitherSays P Q) (Some (inr w)) ms (λ n h. of_both ps qs n h)
        (right_part (IsOneOf ps) (IsOneOf qs) P Q p.none q.none parts.apart ms w
        (q.some parts.those w range ms tree))

    pub either_back : ChoiceComesBack (ps ++ qs) (EitherSays P Q) (EitherTrees TreesP TreesQ)
        (IsEitherInRange RangeP RangeQ)
    either_back = record { none = none_either; some = some_either }

-- a oneof as a part
pub oneof_back : {V : Type 0} (names : List Names) (Says : Members → Option V → Type 0)
    (Trees : V → Members → Type 0) (Range : V → Type 0) → ChoiceComesBack names Says Trees Range
    → PartComesBack names Says (OneofTrees Trees) (IsOneofInRange Range)
oneof_back names Says Trees Range back apart None range ms is = record {
  lawful = subst AreLawful (sym is) tt;
  own = subst (EachKnown (IsOneOf names)) (sym is) tt;
  says = λ before behind none_before none_behind.
      back.none (members_joined (members_joined before ms) behind)
      (known_joined (λ n. IsOneOf names n → ⊥) (members_joined before ms) behind
      (known_joined (λ n. IsOneOf names n → ⊥) before ms none_before
      (subst (NoneNamed (IsOneOf names)) (sym is) tt)) none_behind);
}
  where
    AreLawful : Members → Type 0
    AreLawful = λ l. IsLawful (object l)
oneof_back names Says Trees Range back apart (Some v) range ms tree =
    back.some apart v range ms tree

object_not_null : (ms : Members) (e : Json) → e ≡ object ms → e ≡ null → ⊥
object_not_null ms e is h = absurd cc

object_back : {V : Type 0} (Say : Members → V → Type 0) (v : V) (ms : Members) (json : Json)
    → AreLawfulMembers ms → Say ms v → json ≡ object ms → IsBack (ObjectMeans Say) json v
object_back Say v ms json lawful says is = record {
  lawful = subst IsLawful (sym is) lawful;
  means = subst (λ (j : Json). ObjectMeans Say j v) (sym is) says;
  present = object_not_null ms json is;
}

module _ {V : Type 0} (names : List Names) (Say : Members → V → Type 0)
    (Trees : V → Members → Type 0) (Range : V → Type 0) (apart : are_apart names ≡ true)
    (back : PartComesBack names Say Trees Range) where
  -- what is written of a message is read as it
  pub message_back : (v : V) → Range v
      → ComesBack (ObjectMeans (MembersSay names Say)) (IsObjectTree Trees) v
  message_back v range json (ms, trees, is) =
      let part = back apart v range ms trees in
      object_back (MembersSay names Say) v ms json part.lawful
      (part.own, said_alone (IsOneOf names) Say v ms part) is

  -- and where members that are of no field are passed over
  pub known_message_back : (v : V) → Range v → ComesBack (ObjectMeans Say) (IsObjectTree Trees) v
  known_message_back v range json (ms, trees, is) =
      let part = back apart v range ms trees in
      object_back Say v ms json part.lawful (said_alone (IsOneOf names) Say v ms part) is
