-- A tree means one value of a scalar type at most.
use Rattle.std.proofs.Common.{◌≡◌, ℕ, Bool, List, Some, Ok, Err, Result, inl, inr, sym, ap, ◌∙◌, subst}
use Rattle.std.specs.Prelude.{ℤ, pos, IsErr, codes}
use Rattle.std.specs.Float.{Float, Format}
use Rattle.std.specs.Float.Parse.{parse_float}
use Rattle.std.specs.Int.{Width}
use Rattle.base64.specs.Engines.{standard_pad_indifferent}
use Rattle.base64.specs.GeneralPurpose.{decode_of}
use Rattle.wire_json.specs.Json.{Json, null, boolean, number, string, array, object}
use Rattle.wire_json.specs.Number.{SpellsNumber}
use Rattle.wire_protojson.specs.Laws.{IsDecided}
use Rattle.wire_protojson.specs.Numbers.{HasNumber, MeansByNumber, MeansByWord, MeansFloat, MeansSigned, MeansUnsigned, whole_number}
use Rattle.wire_protojson.specs.Scalars.{MeansBase64, MeansBool, MeansBytes, MeansString}
use Rattle.wire_protojson.specs.Decided.{decided}

one_number : (json : Json) (s t : List ℕ) → HasNumber json s → HasNumber json t → s ≡ t
one_number null s t p q = absurd p
one_number (boolean b) s t p q = absurd p
one_number (number text) s t p q = sym p ∙ q
one_number (string bytes) s t p q = sym p.0 ∙ q.0
one_number (array es) s t p q = absurd p
one_number (object ms) s t p q = absurd p

pub one_signed : (w : Width) (json : Json) (y z : ℤ) → MeansSigned w json y → MeansSigned w json z
    → y ≡ z
one_signed w json y z (s, has, whole, is, fits) (t, again, all, same, fit) =
    sym is ∙ ap whole_number (one_number json s t has again) ∙ same

pub signed_decided : (w : Width) → IsDecided (MeansSigned w)
signed_decided w =
    decided (MeansSigned w) (one_signed w) (λ es z m. absurd m.1) (λ ms z m. absurd m.1)

one_pos : (m n : ℕ) → pos m ≡ pos n → m ≡ n
one_pos m n h = cc

one_unsigned : (bits : ℕ) (json : Json) (m n : ℕ) → MeansUnsigned bits json m
    → MeansUnsigned bits json n → m ≡ n
one_unsigned bits json m n (s, has, whole, is, fits) (t, again, all, same, fit) =
    one_pos m n (sym is ∙ ap whole_number (one_number json s t has again) ∙ same)

pub unsigned_decided : (bits : ℕ) → IsDecided (MeansUnsigned bits)
unsigned_decided bits =
    decided (MeansUnsigned bits) (one_unsigned bits) (λ es n m. absurd m.1) (λ ms n m. absurd m.1)

one_bool : (json : Json) (a b : Bool) → MeansBool json a → MeansBool json b → a ≡ b
one_bool null a b p q = absurd p
one_bool (boolean c) a b p q = sym p ∙ q
one_bool (number text) a b p q = absurd p
one_bool (string bytes) a b p q = absurd p
one_bool (array es) a b p q = absurd p
one_bool (object ms) a b p q = absurd p

pub bools_decided : IsDecided MeansBool
bools_decided = decided MeansBool one_bool (λ es b m. absurd m) (λ ms b m. absurd m)

pub one_string_meant : (json : Json) (s t : List ℕ) → MeansString json s → MeansString json t → s ≡ t
one_string_meant (string bytes) s t p q = sym p ∙ q
one_string_meant null s t p q = absurd p
one_string_meant (boolean b) s t p q = absurd p
one_string_meant (number text) s t p q = absurd p
one_string_meant (array es) s t p q = absurd p
one_string_meant (object ms) s t p q = absurd p

pub strings_decided : IsDecided MeansString
strings_decided = decided MeansString one_string_meant (λ es s m. absurd m) (λ ms s m. absurd m)

not_both : {A E : Type 0} (r : Result A E) (x : A) → r ≡ Ok x → IsErr r → ⊥
not_both (Ok y) x is bad = absurd cc
not_both (Err e) x is bad = absurd cc

one_base64 : (text a b : List ℕ) → MeansBase64 text a → MeansBase64 text b → a ≡ b
one_base64 text a b (inl p) (inl q) = cc
one_base64 text a b (inl p) (inr q) =
    absurd (not_both (decode_of standard_pad_indifferent text) a p q.0)
one_base64 text a b (inr p) (inl q) =
    absurd (not_both (decode_of standard_pad_indifferent text) b q p.0)
one_base64 text a b (inr (bad, p)) (inr (worse, q)) = cc

one_bytes : (json : Json) (a b : List ℕ) → MeansBytes json a → MeansBytes json b → a ≡ b
one_bytes json a b (s, is, p) (t, same, q) =
    let P : List ℕ → Type 0 = λ l. MeansBase64 l a in
    one_base64 t a b (subst P (one_string_meant json s t is same) p) q

pub bytes_decided : IsDecided MeansBytes
bytes_decided = decided MeansBytes one_bytes (λ es b m. absurd m.1) (λ ms b m. absurd m.1)

-- ---- floats

one_word : (json : Json) (x y : Float) → MeansByWord json x → MeansByWord json y → x ≡ y
one_word null x y p q = absurd p
one_word (boolean b) x y p q = absurd p
one_word (number text) x y p q = absurd p
one_word (string bytes) x y (inl (s, p)) (inl (t, q)) = p ∙ sym q
one_word (string bytes) x y (inl (s, p)) (inr (inl (t, q))) = absurd cc
one_word (string bytes) x y (inl (s, p)) (inr (inr (t, q))) = absurd cc
one_word (string bytes) x y (inr (inl (s, p))) (inl (t, q)) = absurd cc
one_word (string bytes) x y (inr (inl (s, p))) (inr (inl (t, q))) = p ∙ sym q
one_word (string bytes) x y (inr (inl (s, p))) (inr (inr (t, q))) = absurd cc
one_word (string bytes) x y (inr (inr (s, p))) (inl (t, q)) = absurd cc
one_word (string bytes) x y (inr (inr (s, p))) (inr (inl (t, q))) = absurd cc
one_word (string bytes) x y (inr (inr (s, p))) (inr (inr (t, q))) = p ∙ sym q
one_word (array es) x y p q = absurd p
one_word (object ms) x y p q = absurd p

no_word_spells : (bytes : List ℕ) (x : Float) → MeansByWord (string bytes) x → SpellsNumber bytes
    → ⊥
no_word_spells bytes x (inl (is, p)) spells = absurd (no_nan (subst SpellsNumber is spells))
  where
    no_nan : SpellsNumber (codes "NaN") → ⊥
    no_nan h = absurd cc
no_word_spells bytes x (inr (inl (is, p))) spells = absurd (none (subst SpellsNumber is spells))
  where
    none : SpellsNumber (codes "Infinity") → ⊥
    none h = absurd cc
no_word_spells bytes x (inr (inr (is, p))) spells = absurd (none (subst SpellsNumber is spells))
  where
    none : SpellsNumber (codes "-Infinity") → ⊥
    none h = absurd cc

word_or_number : (f : Format) (json : Json) (x y : Float) → MeansByWord json x
    → MeansByNumber f json y → ⊥
word_or_number f null x y p q = p
word_or_number f (boolean b) x y p q = p
word_or_number f (number text) x y p q = p
word_or_number f (string bytes) x y p (text, (is, spells), parses, finite) =
    no_word_spells bytes x p (subst SpellsNumber (sym is) spells)
word_or_number f (array es) x y p q = p
word_or_number f (object ms) x y p q = p

one_float : (f : Format) (json : Json) (x y : Float) → MeansFloat f json x → MeansFloat f json y
    → x ≡ y
one_float f json x y (inl p) (inl q) = one_word json x y p q
one_float f json x y (inl p) (inr q) = absurd (word_or_number f json x y p q)
one_float f json x y (inr p) (inl q) = absurd (word_or_number f json y x q p)
one_float f json x y (inr (s, has, is, finite)) (inr (t, again, same, small)) =
    let parsed = sym is ∙ ap (parse_float f) (one_number json s t has again) ∙ same in
    one_some x y parsed
  where
    one_some : (a b : Float) → Some a ≡ Some b → a ≡ b
    one_some a b h = cc

no_float : (f : Format) (json : Json) (x : Float) → (MeansByWord json x → ⊥)
    → ((text : List ℕ) → HasNumber json text → ⊥) → MeansFloat f json x → ⊥
no_float f json x no_words no_numbers (inl p) = no_words p
no_float f json x no_words no_numbers (inr p) = no_numbers p.0 p.1

pub floats_decided : (f : Format) → IsDecided (MeansFloat f)
floats_decided f =
    decided (MeansFloat f) (one_float f)
    (λ es x m. no_float f (array es) x (λ p. p) (λ t p. p) m)
    (λ ms x m. no_float f (object ms) x (λ p. p) (λ t p. p) m)
