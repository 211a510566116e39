-- The fields of a message as parts of it: what is written of one is said of it, whatever members of
-- other fields stand beside it.
use Rattle.std.proofs.Common.{rules, ◌≡◌, ◌≢◌, ◌⊎◌, ℕ, Bool, true, false, ◌||◌, ◌&&◌, nat_eq, List, [], ◌∷◌, Option, Some, None, inl, inr, refl, sym, ap, ◌∙◌, subst, append-nil}
use Rattle.std.specs.Prelude.{IsUtf8}
use Rattle.wire_json.specs.Json.{Json, Members, no_member, member, AreLawfulMembers}
use Rattle.wire_jsonfields.specs.Back.{ComesBack}
use Rattle.wire_jsonfields.specs.Fields.{EachKnown, FieldMeans, IsSomeTree, MeansSome}
use Rattle.wire_jsonfields.specs.Messages.{IsFieldTree, members_joined}
use Rattle.wire_jsonfields.specs.Objects.{AreValuesOf, IsNameOf}
use Rattle.wire_jsonfields.specs.Oneofs.{EitherSays, IsMemberTree}
use Rattle.wire_jsonfields.specs.MembersBack.{field_known, field_lawful, field_values, known_joined, lawful_joined, values_joined}

-- no member has such a name
abbrev pub NoneNamed : (List ℕ → Type 0) → Members → Type 0
NoneNamed Named = EachKnown (λ n. Named n → ⊥)

abbrev pub AreApart : (List ℕ → Type 0) → (List ℕ → Type 0) → Type 0
AreApart P Q = (n : List ℕ) → P n → Q n → ⊥

pub record PartBack {V : Type 0} (Own : List ℕ → Type 0) (Says : Members → V → Type 0) (v : V)
    (ms : Members) : Type 0 where
  pub lawful : AreLawfulMembers ms
  pub own : EachKnown Own ms
  pub says : (before behind : Members) → NoneNamed Own before → NoneNamed Own behind
      → Says (members_joined (members_joined before ms) behind) v

-- ---- names

pub known_weaker : {P Q : List ℕ → Type 0} → ((n : List ℕ) → P n → Q n) → (ms : Members)
    → EachKnown P ms → EachKnown Q ms
known_weaker f no_member h = tt
known_weaker f (member n e ms) h = (f n h.0, known_weaker f ms h.1)

abbrev pub is_same : List ℕ → List ℕ → Bool
is_same [] [] = true
is_same [] (b ∷ bs) = false
is_same (a ∷ xs) [] = false
is_same (a ∷ xs) (b ∷ bs) = nat_eq a b && is_same xs bs

nat_same : (a : ℕ) → nat_eq a a ≡ true
nat_same a = search rules

text_same : (a : List ℕ) → is_same a a ≡ true
text_same [] = refl
text_same (a ∷ xs) = rw (nat_same a) (text_same xs)

pub texts_differ : (a b : List ℕ) → is_same a b ≡ false → a ≡ b → ⊥
texts_differ a b h is = two (sym (ap (is_same a) is) ∙ text_same a) h
  where
    two : is_same a b ≡ true → is_same a b ≡ false → ⊥
    two p q = absurd cc

no_or : (a b : Bool) → (a || b) ≡ false → (a ≡ false) × (b ≡ false)
no_or false b h = (refl, h)
no_or true b h = absurd cc

-- the names of two fields differ
pub names_apart : (a b c d : List ℕ)
    → (is_same a c || (is_same a d || (is_same b c || is_same b d))) ≡ false
    → AreApart (IsNameOf a b) (IsNameOf c d)
names_apart a b c d h n p q =
    let (ac, more) = no_or (is_same a c) (is_same a d || (is_same b c || is_same b d)) h in
    let (ad, rest) = no_or (is_same a d) (is_same b c || is_same b d) more in
    let (bc, bd) = no_or (is_same b c) (is_same b d) rest in
    by_names ac ad bc bd p q
  where
    by_names : is_same a c ≡ false → is_same a d ≡ false → is_same b c ≡ false
        → is_same b d ≡ false → IsNameOf a b n → IsNameOf c d n → ⊥
    by_names ac ad bc bd (inl x) (inl y) = texts_differ a c ac (sym x ∙ y)
    by_names ac ad bc bd (inl x) (inr y) = texts_differ a d ad (sym x ∙ y)
    by_names ac ad bc bd (inr x) (inl y) = texts_differ b c bc (sym x ∙ y)
    by_names ac ad bc bd (inr x) (inr y) = texts_differ b d bd (sym x ∙ y)

-- ---- members beside others

joined_once : (a b c : Members)
    → members_joined (members_joined a b) c ≡ members_joined a (members_joined b c)
joined_once no_member b c = refl
joined_once (member n e a) b c = ap (λ (l : Members). member n e l) (joined_once a b c)

none_values : (Named : List ℕ → Type 0) (ms : Members) → NoneNamed Named ms
    → AreValuesOf Named ms []
none_values Named no_member h = refl
none_values Named (member n e ms) h = inr (h.0, none_values Named ms h.1)

nothing_behind : (ms : Members) → members_joined ms no_member ≡ ms
nothing_behind no_member = refl
nothing_behind (member n e ms) = ap (λ (l : Members). member n e l) (nothing_behind ms)

-- what is said of a part by itself
pub said_alone : {V : Type 0} (Own : List ℕ → Type 0) (Says : Members → V → Type 0) (v : V)
    (ms : Members) → PartBack Own Says v ms → Says ms v
said_alone Own Says v ms part =
    subst (λ (l : Members). Says l v) (nothing_behind ms) (part.says no_member no_member tt tt)

-- ---- a field

module _ {V : Type 0} (absent : V) (Means : Json → V → Type 0) (Tree : V → Json → Type 0)
    (name json_name : List ℕ) (v : V) (ms : Members)
    (tree : IsFieldTree absent Tree json_name v ms) where
  pub field_part : IsUtf8 json_name → (v ≢ absent → ComesBack Means Tree v)
      → PartBack (IsNameOf name json_name) (FieldMeans absent Means (IsNameOf name json_name)) v ms
  field_part utf8 back = record {
    lawful = field_lawful absent Means Tree json_name v ms tree utf8 (λ e other t. back other e t);
    own = field_known absent Means Tree json_name v ms tree (IsNameOf name json_name) (inr refl);
    says = λ before behind none_before none_behind.
        let (own, are, means) = field_values absent Means Tree json_name v ms tree
        (IsNameOf name json_name) (inr refl) (λ e other t. back other e t) in
        let P : List Json → Type 0 = λ l. AreValuesOf (IsNameOf name json_name)
        (members_joined (members_joined before ms) behind) l in (
          own,
          subst P (append-nil own)
              (values_joined (IsNameOf name json_name) (members_joined before ms) behind own []
              (values_joined (IsNameOf name json_name) before ms [] own
              (none_values (IsNameOf name json_name) before none_before) are)
              (none_values (IsNameOf name json_name) behind none_behind)),
          means,
        );
  }

-- a field of which there is no member
pub none_part : {V : Type 0} (Means : Json → V → Type 0) (Named : List ℕ → Type 0) (ms : Members)
    → NoneNamed Named ms → FieldMeans None (MeansSome Means) Named ms None
none_part Means Named ms none = ([], none_values Named ms none, refl)

-- ---- two parts

module _ {A B : Type 0} (OwnA OwnB : List ℕ → Type 0) (SaysA : Members → A → Type 0)
    (SaysB : Members → B → Type 0) (a : A) (b : B) (ms ns : Members)
    (left : PartBack OwnA SaysA a ms) (right : PartBack OwnB SaysB b ns)
    (apart : AreApart OwnA OwnB) where
  pub both_part : PartBack {V = A × B} (λ n. OwnA n ⊎ OwnB n)
      (λ all v. SaysA all v.0 × SaysB all v.1) (a, b) (members_joined ms ns)
  both_part = record {
    lawful = lawful_joined ms ns left.lawful right.lawful;
    own = known_joined (λ n. OwnA n ⊎ OwnB n) ms ns
        (known_weaker (λ n h. inl h) ms left.own) (known_weaker (λ n h. inr h) ns right.own);
    says = λ before behind none_before none_behind.
        let before_a = known_weaker (λ n h p. h (inl p)) before none_before in
        let before_b = known_weaker (λ n h p. h (inr p)) before none_before in
        let behind_a = known_weaker (λ n h p. h (inl p)) behind none_behind in
        let behind_b = known_weaker (λ n h p. h (inr p)) behind none_behind in
        let ns_a = known_weaker (λ n h p. apart n p h) ns right.own in
        let ms_b = known_weaker (λ n h p. apart n h p) ms left.own in
        let said_a = left.says before (members_joined ns behind) before_a
        (known_joined (λ n. OwnA n → ⊥) ns behind ns_a behind_a) in
        let said_b = right.says (members_joined before ms) behind
        (known_joined (λ n. OwnB n → ⊥) before ms before_b ms_b) behind_b in
        let is_b = ap (λ (l : Members). members_joined l behind) (joined_once before ms ns) in
        let is_a = sym (joined_once (members_joined before ms) ns behind) ∙ is_b in
        (subst (λ (l : Members). SaysA l a) is_a said_a, subst (λ (l : Members). SaysB l b) is_b said_b);
  }

-- ---- a oneof of two

module _ {V W : Type 0} (OwnP OwnQ : List ℕ → Type 0) (P : Members → Option V → Type 0)
    (Q : Members → Option W → Type 0)
    (none_p : (ms : Members) → NoneNamed OwnP ms → P ms None)
    (none_q : (ms : Members) → NoneNamed OwnQ ms → Q ms None) where
  module _ (apart : AreApart OwnP OwnQ) (ms : Members) where
    pub left_part : (v : V) → PartBack OwnP P (Some v) ms
        → PartBack (λ n. OwnP n ⊎ OwnQ n) (EitherSays P Q) (Some (inl v)) ms
    left_part v part = record {
      lawful = part.lawful;
      own = known_weaker (λ n h. inl h) ms part.own;
      says = λ before behind none_before none_behind.
          let mine = known_weaker (λ n h p. apart n h p) ms part.own in
          let all = known_joined (λ n. OwnQ n → ⊥) (members_joined before ms) behind
          (known_joined (λ n. OwnQ n → ⊥) before ms
          (known_weaker (λ n h p. h (inr p)) before none_before) mine)
          (known_weaker (λ n h p. h (inr p)) behind none_behind) in (
            Some v,
            None,
            part.says before behind (known_weaker (λ n h p. h (inl p)) before none_before)
                (known_weaker (λ n h p. h (inl p)) behind none_behind),
            none_q (members_joined (members_joined before ms) behind) all,
            refl,
          );
    }

    pub right_part : (w : W) → PartBack OwnQ Q (Some w) ms
        → PartBack (λ n. OwnP n ⊎ OwnQ n) (EitherSays P Q) (Some (inr w)) ms
    right_part w part = record {
      lawful = part.lawful;
      own = known_weaker (λ n h. inr h) ms part.own;
      says = λ before behind none_before none_behind.
          let mine = known_weaker (λ n h p. apart n p h) ms part.own in
          let all = known_joined (λ n. OwnP n → ⊥) (members_joined before ms) behind
          (known_joined (λ n. OwnP n → ⊥) before ms
          (known_weaker (λ n h p. h (inl p)) before none_before) mine)
          (known_weaker (λ n h p. h (inl p)) behind none_behind) in (
            None,
            Some w,
            none_p (members_joined (members_joined before ms) behind) all,
            part.says before behind (known_weaker (λ n h p. h (inr p)) before none_before)
                (known_weaker (λ n h p. h (inr p)) behind none_behind),
            refl,
          );
    }

-- a member of a oneof as a field
module _ {V : Type 0} (Means : Json → V → Type 0) (Tree : V → Json → Type 0)
    (name json_name : List ℕ) (v : V) (ms : Members) where
  some_tree : IsMemberTree Tree json_name v ms → IsFieldTree None (IsSomeTree Tree) json_name (Some v) ms
  some_tree (e, tree, is) = inr (some_or_none, (e, tree, is))
    where
      some_or_none : Some v ≢ None
      some_or_none h = absurd cc

  pub member_part : IsMemberTree Tree json_name v ms → IsUtf8 json_name → ComesBack Means Tree v
      → PartBack (IsNameOf name json_name)
      (FieldMeans None (MeansSome Means) (IsNameOf name json_name)) (Some v) ms
  member_part tree utf8 back =
      field_part None (MeansSome Means) (IsSomeTree Tree) name json_name (Some v) ms (some_tree tree)
      utf8 (λ other e t. let b = back e t in
      record { lawful = b.lawful; means = b.means; present = b.present })
