-- What is written of a value of a kind is read as it.
use Rattle.std.proofs.Common.{◌≡◌, ℕ, ◌<◌, ◌^◌, Bool, true, false, ◌&&◌, not, List, [], ◌∷◌, Option, Some, None, inl, inr, refl, sym, ap, ◌∙◌, subst, arith}
use Rattle.std.proofs.lemmas.Fmt.{IsAscii-decimal}
use Rattle.std.proofs.lemmas.Str.{IsUtf8-from_ascii}
use Rattle.std.specs.Cmp.{IsTotalOrder}
use Rattle.std.specs.Fmt.{signed_decimal}
use Rattle.std.specs.Int.{w32, w64}
use Rattle.std.specs.List.{AllByRecursion}
use Rattle.std.specs.List.Sorted.{IsStrictlySortedBy}
use Rattle.std.specs.Map.{keys_of}
use Rattle.std.specs.Prelude.{ℤ, FitsSigned, IsUtf8, decimal}
use Rattle.std.specs.declared.cmp.Ordering.{Ordering}
use Rattle.itoa.proofs.Decimal.{IsAscii-signed_decimal}
use Rattle.wire_json.specs.Json.{Json}
use Rattle.wire_json.specs.Written.{word_text}
use Rattle.wire_protojson.specs.Enums.{AreTexts, EnumTable, IsEnumTree, IsFirst, MeansEnum, NamesAgree}
use Rattle.wire_protojson.proofs.NumberTexts.{fits_wider}
use Rattle.wire_jsonfields.specs.Back.{ComesBack, EachComesBack, EntriesComeBack}
use Rattle.wire_jsonfields.specs.Fields.{IsSomeTree, MeansSome}
use Rattle.wire_jsonfields.specs.Keys.{IsSignedKey, IsUnsignedKey}
use Rattle.wire_jsonfields.specs.Lists.{IsListTree, ListMeans}
use Rattle.wire_jsonfields.specs.Maps.{IsMapTree, MapMeans}
use Rattle.wire_jsonfields.specs.ListsBack.{list_back, map_back}
use Rattle.wire_jsonfields.specs.EnumsBack.{enum_back}
use Rattle.wire_jsonfields.specs.KeysBack.{signed_key_back, unsigned_key_back}
use Rattle.wire_jsonfields.specs.MembersBack.{all_ascii, name_is_text}
use Rattle.wire_jsonfields.specs.Names.{both_hold, negated}
use Rattle.wire_jsonfields.specs.PartsBack.{is_same, texts_differ}

-- there is a value, and it is in range
abbrev pub IsSomeInRange : {V : Type 0} → (V → Type 0) → Option V → Type 0
IsSomeInRange Range None = ⊥
IsSomeInRange Range (Some v) = Range v

-- the keys ascend, and each key and each value is in range
abbrev pub IsMapInRange : {K V : Type 0} → (K → K → Ordering) → (K → Type 0) → (V → Type 0)
    → List (K × V) → Type 0
IsMapInRange order Keys Values m =
    IsStrictlySortedBy order (keys_of m) × AllByRecursion (λ e. Keys e.0 × Values e.1) m

module _ {V : Type 0} (Means : Json → V → Type 0) (Tree : V → Json → Type 0) (Range : V → Type 0)
    (back : (v : V) → Range v → ComesBack Means Tree v) where
  pub some_back : (o : Option V) → IsSomeInRange Range o
      → ComesBack (MeansSome Means) (IsSomeTree Tree) o
  some_back None h e is = absurd h
  some_back (Some v) h e is =
      let b = back v h e is in
      record { lawful = b.lawful; means = b.means; present = b.present }

  each_back : (vs : List V) → AllByRecursion Range vs → EachComesBack Means Tree vs
  each_back [] h = tt
  each_back (v ∷ vs) h = (back v h.0, each_back vs h.1)

  pub all_back : (vs : List V) → AllByRecursion Range vs
      → ComesBack (ListMeans Means) (IsListTree Tree) vs
  all_back vs h = list_back Means Tree vs (each_back vs h)

module _ {K V : Type 0} (order : K → K → Ordering) (total : IsTotalOrder order)
    (Key : List ℕ → K → Type 0) (name : K → List ℕ) (Means : Json → V → Type 0)
    (Tree : V → Json → Type 0) (Keys : K → Type 0) (Range : V → Type 0)
    (key_back : (k : K) → Keys k → IsUtf8 (name k) × Key (name k) k)
    (back : (v : V) → Range v → ComesBack Means Tree v) where
  each_entry : (m : List (K × V)) → AllByRecursion (λ e. Keys e.0 × Range e.1) m
      → EntriesComeBack Key name Means Tree m
  each_entry [] h = tt
  each_entry (e ∷ es) h =
      let key = key_back e.0 h.0.0 in
      (key.0, key.1, back e.1 h.0.1, each_entry es h.1)

  pub entries_back : (m : List (K × V)) → IsMapInRange order Keys Range m
      → ComesBack (MapMeans order Key Means) (IsMapTree name Tree) m
  entries_back m h = map_back order total Key name Means Tree m h.0 (each_entry m h.1)

-- ---- keys

pub short_signed_key : (z : ℤ) → FitsSigned w32 z
    → IsUtf8 (signed_decimal z) × IsSignedKey w32 (signed_decimal z) z
short_signed_key z fits =
    let wide = fits_wider z fits in
    (IsUtf8-from_ascii _ (IsAscii-signed_decimal z wide), signed_key_back w32 z fits wide)

pub long_signed_key : (z : ℤ) → FitsSigned w64 z
    → IsUtf8 (signed_decimal z) × IsSignedKey w64 (signed_decimal z) z
long_signed_key z fits =
    (IsUtf8-from_ascii _ (IsAscii-signed_decimal z fits), signed_key_back w64 z fits fits)

pub short_unsigned_key : (n : ℕ) → n < 2 ^ 32 → IsUtf8 (decimal n) × IsUnsignedKey 32 (decimal n) n
short_unsigned_key n fits =
    let wide : n < 2 ^ 64 = omega (arith, fits) in
    (IsUtf8-from_ascii _ (IsAscii-decimal n wide), unsigned_key_back 32 n fits wide)

pub long_unsigned_key : (n : ℕ) → n < 2 ^ 64 → IsUtf8 (decimal n) × IsUnsignedKey 64 (decimal n) n
long_unsigned_key n fits =
    (IsUtf8-from_ascii _ (IsAscii-decimal n fits), unsigned_key_back 64 n fits fits)

pub text_key : (s : List ℕ) → IsUtf8 s → IsUtf8 s × (s ≡ s)
text_key s utf8 = (utf8, refl)

pub bool_key : (b : Bool) → IsUtf8 (word_text b) × (word_text b ≡ word_text b)
bool_key true = (name_is_text (word_text true) refl, refl)
bool_key false = (name_is_text (word_text false) refl, refl)

-- ---- enums

pub enum_comes_back : (names : EnumTable) → NamesAgree names → AreTexts names → (z : ℤ)
    → FitsSigned w32 z → ComesBack (MeansEnum names) (IsEnumTree names) z
enum_comes_back = enum_back

-- the name is none of these
abbrev pub is_new_name : List ℕ → EnumTable → Bool
is_new_name text [] = true
is_new_name text (e ∷ es) = not (is_same text e.0) && is_new_name text es

-- no name stands twice, and each is ASCII
abbrev pub are_enum_names : EnumTable → Bool
are_enum_names [] = true
are_enum_names (e ∷ es) = all_ascii e.0 && (is_new_name e.0 es && are_enum_names es)

new_is_other : (text : List ℕ) (es : EnumTable) → is_new_name text es ≡ true → (z : ℤ)
    → (e : List ℕ × ℤ) → IsFirst (λ x. x.1 ≡ z) es e → text ≡ e.0 → ⊥
new_is_other text [] h z e first is = first
new_is_other text (x ∷ es) h z e (inl (same, here)) is =
    let new = both_hold (not (is_same text x.0)) (is_new_name text es) h in
    texts_differ text x.0 (negated (is_same text x.0) new.0) (is ∙ ap (λ p. p.0) (sym here))
new_is_other text (x ∷ es) h z e (inr (other, first)) is =
    let new = both_hold (not (is_same text x.0)) (is_new_name text es) h in
    new_is_other text es new.1 z e first is

first_by_name : (names : EnumTable) → are_enum_names names ≡ true → (z : ℤ) (e : List ℕ × ℤ)
    → IsFirst (λ x. x.1 ≡ z) names e → IsFirst (λ x. x.0 ≡ e.0) names e
first_by_name [] h z e first = first
first_by_name (x ∷ es) h z e (inl (same, here)) = inl (ap (λ p. p.0) here, here)
first_by_name (x ∷ es) h z e (inr (other, first)) =
    let more = both_hold (all_ascii x.0) (is_new_name x.0 es && are_enum_names es) h in
    let new = both_hold (is_new_name x.0 es) (are_enum_names es) more.1 in
    inr (new_is_other x.0 es new.0 z e first, first_by_name es new.1 z e first)

first_has_number : (names : EnumTable) (z : ℤ) (e : List ℕ × ℤ) → IsFirst (λ x. x.1 ≡ z) names e
    → e.1 ≡ z
first_has_number [] z e first = absurd first
first_has_number (x ∷ es) z e (inl (same, here)) = ap (λ p. p.1) (sym here) ∙ same
first_has_number (x ∷ es) z e (inr (other, first)) = first_has_number es z e first

first_is_ascii : (names : EnumTable) → are_enum_names names ≡ true → (z : ℤ) (e : List ℕ × ℤ)
    → IsFirst (λ x. x.1 ≡ z) names e → IsUtf8 e.0
first_is_ascii [] h z e first = absurd first
first_is_ascii (x ∷ es) h z e (inl (same, here)) =
    let more = both_hold (all_ascii x.0) (is_new_name x.0 es && are_enum_names es) h in
    subst IsUtf8 (ap (λ p. p.0) here) (name_is_text x.0 more.0)
first_is_ascii (x ∷ es) h z e (inr (other, first)) =
    let more = both_hold (all_ascii x.0) (is_new_name x.0 es && are_enum_names es) h in
    first_is_ascii es (both_hold (is_new_name x.0 es) (are_enum_names es) more.1).1 z e first

pub names_agree : (names : EnumTable) → are_enum_names names ≡ true → NamesAgree names
names_agree names h z text (e, first, named) =
    let P : List ℕ → Type 0 = λ t. IsFirst (λ x. x.0 ≡ t) names e in
    (e, subst P named (first_by_name names h z e first), first_has_number names z e first)

pub names_are_texts : (names : EnumTable) → are_enum_names names ≡ true → AreTexts names
names_are_texts names h z text (e, first, named) =
    subst IsUtf8 named (first_is_ascii names h z e first)
