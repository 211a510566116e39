-- Records measured part by part.
use Rattle.std.proofs.Common.{◌≡◌, inl, inr, ℕ, ◌+◌, ◌-◌, ◌^◌, min, List, [], ◌∷◌, ◌++◌, length, map}
use Rattle.std.proofs.Common.{refl, sym, ap, ◌∙◌, append_assoc, arith, length-append}
use Rattle.std.proofs.lemmas.List.{append-nil, map-append}
use Rattle.std.proofs.Math.Seq.{set-append_seam}
use Rattle.std.specs.Prelude.{slice_set, true, false, ◌==◌}
use Rattle.std.proofs.lemmas.Bool.Decides.{eqb_tells}
use Rattle.wire_codec.specs.Laws.{JoinedTextsAndSizes}
use Rattle.wire_codec.specs.Records.{Records, none, field, embedded, joined_records}
use Rattle.wire_codec.specs.Records.{text_size, text}
use Rattle.wire_codec.specs.Sizes.{sizes, cut, cut_sizes}
use Rattle.wire_codec.specs.Tag.{tag_text}
use Rattle.wire_codec.specs.Tape.{Tape, recorded}
use Rattle.wire_codec.specs.Varint.{shortest_varint}
use Rattle.wire_codec.specs.WireType.TheVariants.{LengthDelimited}
use Rattle.wire_fields.specs.Messages.{Encoding, message_each}
use Rattle.wire_fields.specs.Numbers.{in_64_bits, delimited_size}
use Rattle.wire_fields.specs.Measuring.{Measures}

-- records of which these come first
pub record Splits (left piece after : Records) : Type 0 where
  pub is : left ≡ joined_records piece after

-- records in front of these were measured, and these are left
pub record IsMeasuredTo (whole left : Records) (old now : Tape) (len : ℕ) : Type 0 where
  pub size : cut (len + text_size left) ≡ cut (text_size whole)
  pub sizes : recorded now (cut_sizes left) ≡ recorded old (cut_sizes whole)

recorded_twice : (t : Tape) (a b : List ℕ) → recorded (recorded t a) b ≡ recorded t (a ++ b)
recorded_twice t a b =
    ap (λ (ns : List ℕ). record { sizes = ns; cursor = t.cursor }) (append_assoc t.sizes a b)

pub nothing_recorded : (t : Tape) → t ≡ recorded t []
nothing_recorded t =
    ap (λ (ns : List ℕ). record { sizes = ns; cursor = t.cursor }) (sym (append-nil t.sizes))

pub start : (whole : Records) (t : Tape) → IsMeasuredTo whole whole t t 0
start whole t = record { size = omega arith; sizes = refl }

pub size_joined : JoinedTextsAndSizes → (a b : Records)
    → text_size (joined_records a b) ≡ text_size a + text_size b
size_joined joins a b = ap length (joins.text a b) ∙ length-append (text a) (text b)

cut_joined : JoinedTextsAndSizes → (a b : Records)
    → cut_sizes (joined_records a b) ≡ cut_sizes a ++ cut_sizes b
cut_joined joins a b = ap (map cut) (joins.sizes a b) ∙ map-append cut (sizes a) (sizes b)

summed : (len k sum left piece after whole : ℕ) → cut (len + left) ≡ cut whole
    → left ≡ piece + after → cut k ≡ cut piece → sum ≡ min (len + k) (2 ^ 64 - 1)
    → cut (sum + after) ≡ cut whole
summed len k sum left piece after whole so_far parts one is = omega arith

pub more : JoinedTextsAndSizes → (whole left piece after : Records) (old now next : Tape) (len k sum : ℕ)
    → IsMeasuredTo whole left old now len → Splits left piece after → Measures piece now next k
    → sum ≡ min (len + k) (2 ^ 64 - 1) → IsMeasuredTo whole after old next sum
more joins whole left piece after old now next len k sum w parts m is = record {
  size = summed len k sum (text_size left) (text_size piece) (text_size after) (text_size whole)
      w.size (ap text_size parts.is ∙ size_joined joins piece after) m.size is;
  sizes = ap (λ (t : Tape). recorded t (cut_sizes after)) m.sizes
      ∙ recorded_twice now (cut_sizes piece) (cut_sizes after)
      ∙ ap (λ (ns : List ℕ). recorded now ns) (sym (ap cut_sizes parts.is
      ∙ cut_joined joins piece after)) ∙ w.sizes;
}

pub last : (whole left : Records) (old now next : Tape) (len k sum : ℕ)
    → IsMeasuredTo whole left old now len → Measures left now next k
    → sum ≡ min (len + k) (2 ^ 64 - 1) → Measures whole old next sum
last whole left old now next len k sum w m is = record {
  size = omega (arith, w.size, m.size, is);
  sizes = m.sizes ∙ w.sizes;
}

pub unsized : (rs : Records) (t : Tape) (len : ℕ) → sizes rs ≡ [] → len ≡ in_64_bits (text_size rs)
    → Measures rs t t len
unsized rs t len flat is = record {
  size = omega (arith, is);
  sizes = nothing_recorded t ∙ ap (λ (ns : List ℕ). recorded t ns) (sym (ap (map cut) flat));
}

-- ---- embedded messages and groups

-- no messages have no records
pub no_messages : {T V : Type 0} (encoding : Encoding) (records : V → Records) (view : T → V)
    (n : ℕ) (ms : List T) → (length ms == 0) ≡ true
    → message_each encoding records n (map view ms) ≡ none
no_messages encoding records view n [] empty = refl
no_messages encoding records view n (m ∷ ms) empty = elim (eqb_tells (length (m ∷ ms)) 0) [
  | inl e ↦ absurd (omega (arith, e.1))
  | inr e ↦ absurd (true_false (sym empty ∙ e.0))
]
  where
    true_false : true ≡ false → ⊥
    true_false e = cc

-- the slot is set after the sizes inside are recorded
slot_set : (t : Tape) (slot len : ℕ) (inner : List ℕ) → slot ≡ length t.sizes
    → slice_set (recorded (recorded t (0 ∷ [])) inner).sizes slot len ≡ t.sizes ++ len ∷ inner
slot_set t slot len inner is = rw is (ap (λ (ns : List ℕ). slice_set ns (length t.sizes) len)
    (append_assoc t.sizes (0 ∷ []) inner) ∙ set-append_seam t.sizes 0 inner len)

-- a size that is cut makes the whole one that is cut too
embedded_size : (n len inner : ℕ) → len ≡ cut inner
    → cut (in_64_bits (delimited_size n len)) ≡ cut (delimited_size n inner)
embedded_size n len inner is =
    let same : len ≡ inner → length (shortest_varint len) ≡ length (shortest_varint inner) =
    λ e. ap (λ (k : ℕ). length (shortest_varint k)) e in
    grind (arith, same)

embedded_text_size : (n : ℕ) (rs : Records)
    → text_size (field n (embedded rs) none) ≡ delimited_size n (text_size rs)
embedded_text_size n rs =
    let tag = tag_text n LengthDelimited in
    let len = shortest_varint (text_size rs) in
    omega (
      arith,
      length-append tag ((len ++ text rs) ++ []),
      length-append (len ++ text rs) [],
      length-append len (text rs),
    )

pub embedded_measured : (n slot len wide total : ℕ) (rs : Records) (t reserved inside set : Tape)
    → slot ≡ length t.sizes → reserved ≡ recorded t (0 ∷ [])
    → inside ≡ recorded reserved (cut_sizes rs) → len ≡ cut (text_size rs)
    → set ≡ record { sizes = slice_set inside.sizes slot len; cursor = inside.cursor }
    → wide ≡ len → total ≡ in_64_bits (delimited_size n wide)
    → Measures (field n (embedded rs) none) t set total
embedded_measured n slot len wide total rs t reserved inside set is_slot is_reserved is_inside cuts
    is_set widens is_total = record {
      size = ap cut is_total ∙ embedded_size n wide (text_size rs) (widens ∙ cuts)
          ∙ ap cut (sym (embedded_text_size n rs));
      sizes = is_set ∙ ap (λ (u : Tape). record {
        sizes = slice_set u.sizes slot len;
        cursor = u.cursor;
      }) (is_inside ∙ ap (λ (u : Tape). recorded u (cut_sizes rs)) is_reserved)
          ∙ ap (λ (ns : List ℕ). record { sizes = ns; cursor = t.cursor })
          (slot_set t slot len (cut_sizes rs) is_slot ∙ ap (λ (ns : List ℕ). t.sizes ++ ns)
          (ap (λ (k : ℕ). k ∷ cut_sizes rs) cuts
          ∙ ap (λ (ns : List ℕ). cut (text_size rs) ∷ map cut ns) (sym (append-nil (sizes rs)))));
    }
