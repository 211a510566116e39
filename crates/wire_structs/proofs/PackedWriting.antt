-- Packed numbers that are measured and written from the values that a struct holds.
use Rattle.std.proofs.Common.{◌≡◌, ℕ, ◌+◌, ◌-◌, ◌^◌, ◌<◌, ◌≤◌, min, List, [], ◌∷◌, ◌++◌, length}
use Rattle.std.proofs.Common.{get_or, map, drop, add-one, drop-cons, suc, sym, ap, ◌∙◌}
use Rattle.std.proofs.Common.{append_assoc, arith, length-append}
use Rattle.std.proofs.lemmas.List.{append-nil, drop_all, length-map}
use Rattle.std.specs.Prelude.{false, ◌==◌}
use Rattle.wire_codec.specs.Records as records
use Rattle.wire_codec.specs.Records.{Records, none, field, text, text_size}
use Rattle.wire_codec.specs.Tag.{tag_text}
use Rattle.wire_codec.specs.ValueMap.{ValueMap}
use Rattle.wire_codec.specs.Varint.{shortest_varint}
use Rattle.wire_codec.specs.WireType.TheVariants.{LengthDelimited}
use Rattle.wire_fields.specs.Numbers.{in_64_bits, delimited_size}
use Rattle.wire_fields.specs.Packed.{number_text, packed_records, packed_text}
use Rattle.wire_fields.specs.declared.form.Form.{Form}
use Rattle.wire_structs.proofs.Writing.{delimited_cut}

module _ {T V : Type 0} (form : Form) (values : ValueMap V) (view : T → V) (ts : List T) where
  abbrev packed_from : ℕ → List ℕ
  packed_from i = packed_text form values (map view (drop i ts))

  -- the number at i, and those behind it
  pub next_number : (i : ℕ) (t : T) → i < length ts → t ≡ get_or ts i t
      → packed_from i ≡ number_text form (values.enc (view t)) ++ packed_from (i + 1)
  next_number i t within is =
      let front : drop i ts ≡ t ∷ drop (i + 1) ts = rw (add-one, drop-cons ts i t)
      (ap (λ (x : T). x ∷ drop (suc i) ts) (sym is)) in
      ap (λ (xs : List T). packed_text form values (map view xs)) front

  -- one number more is counted
  pub numbers_more : (i len size next : ℕ) (t : T) → i < length ts → t ≡ get_or ts i t
      → size ≡ length (number_text form (values.enc (view t)))
      → next ≡ min (len + size) (2 ^ 64 - 1)
      → in_64_bits (next + length (packed_from (i + 1)))
      ≡ in_64_bits (len + length (packed_from i))
  numbers_more i len size next t within is measured sum =
      omega (
        arith,
        ap length (next_number i t within is),
        length-append (number_text form (values.enc (view t))) (packed_from (i + 1)),
        measured,
        sum,
      )

  -- no number is left
  pub no_number_left : (i : ℕ) → length ts ≤ i → packed_from i ≡ []
  no_number_left i all =
      ap (λ (xs : List T). packed_text form values (map view xs)) (drop_all i ts all)

  pub numbers_measured : (i len : ℕ) → length ts ≤ i → len < 2 ^ 64
      → in_64_bits (len + length (packed_from i))
      ≡ in_64_bits (length (packed_text form values (map view ts)))
      → len ≡ in_64_bits (length (packed_text form values (map view ts)))
  numbers_measured i len all fits is =
      omega (arith, is, ap length (no_number_left i all))

-- as many values as are held
pub some_mapped : {T V : Type 0} (view : T → V) (ts : List T) → (length ts == 0) ≡ false
    → (length (map view ts) == 0) ≡ false
some_mapped view ts some = ap (λ (n : ℕ). n == 0) (length-map ts view) ∙ some

-- ---- the record

bytes_text : (n : ℕ) (b : List ℕ) → text (field n (records.bytes b) none)
    ≡ (tag_text n LengthDelimited ++ shortest_varint (length b)) ++ b
bytes_text n b =
    ap (λ (t : List ℕ). tag_text n LengthDelimited ++ t)
    (append-nil (shortest_varint (length b) ++ b))
    ∙ sym (append_assoc (tag_text n LengthDelimited) (shortest_varint (length b)) b)

bytes_size : (n : ℕ) (b : List ℕ)
    → text_size (field n (records.bytes b) none) ≡ delimited_size n (length b)
bytes_size n b =
    let tag = tag_text n LengthDelimited in
    let len = shortest_varint (length b) in
    omega (arith, ap length (bytes_text n b), length-append (tag ++ len) b, length-append tag len)

-- a length that 64 bits do not hold makes the record one too
bytes_len : (n len total : ℕ) (b : List ℕ) → len ≡ in_64_bits (length b)
    → total ≡ in_64_bits (delimited_size n len)
    → total ≡ in_64_bits (text_size (field n (records.bytes b) none))
bytes_len n len total b is sum =
    sum ∙ delimited_cut n len (length b) is ∙ ap in_64_bits (sym (bytes_size n b))

module _ {V : Type 0} (form : Form) (values : ValueMap V) (n : ℕ) where
  pub packed_len : (vs : List V) (len total : ℕ) → (length vs == 0) ≡ false
      → len ≡ in_64_bits (length (packed_text form values vs))
      → total ≡ in_64_bits (delimited_size n len)
      → total ≡ in_64_bits (text_size (packed_records form values n vs))
  packed_len [] len total some is sum = absurd cc
  packed_len (v ∷ vs) len total some is sum =
      bytes_len n len total (packed_text form values (v ∷ vs)) is sum

  -- the header, and then the numbers
  pub packed_parts : (vs : List V) (len : ℕ) → (length vs == 0) ≡ false
      → len ≡ in_64_bits (length (packed_text form values vs))
      → text_size (packed_records form values n vs) < 2 ^ 64
      → text (packed_records form values n vs)
      ≡ (tag_text n LengthDelimited ++ shortest_varint len) ++ packed_text form values vs
  packed_parts [] len some is small = absurd cc
  packed_parts (v ∷ vs) len some is small =
      let payload = packed_text form values (v ∷ vs) in
      let whole : length payload ≡ len = omega (arith, is, small, bytes_size n payload) in
      bytes_text n payload
      ∙ ap (λ (k : ℕ). (tag_text n LengthDelimited ++ shortest_varint k) ++ payload) whole
