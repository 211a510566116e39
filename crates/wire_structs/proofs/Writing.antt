-- Records that are measured and written as they are, with no sizes put aside.
use Rattle.std.proofs.Common.{◌≡◌, ℕ, ℤ, ◌+◌, ◌-◌, ◌^◌, ◌<◌, ◌≤◌, min, List, [], ◌++◌, length, get_or, map, drop, refl, sym, subst, ap, ◌∙◌, arith, length-append}
use Rattle.std.specs.Prelude.{Option, Some, None, Result}
use Rattle.std.proofs.lemmas.List.{drop_all}
use Rattle.wire_codec.specs.EncodeError.{EncodeError}
use Rattle.wire_codec.specs.Enumeration.{number_of, known_or}
use Rattle.wire_codec.specs.Field.{Payload}
use Rattle.wire_codec.specs.Laws.{JoinedTextsAndSizes}
use Rattle.wire_codec.specs.Records.{Records, none, field, embedded, joined_records, of_payload}
use Rattle.wire_codec.specs.Records.{text, text_size}
use Rattle.wire_codec.specs.Tag.{tag_text}
use Rattle.wire_codec.specs.Varint.{shortest_varint}
use Rattle.wire_codec.specs.WireType.TheVariants.{LengthDelimited}
use Rattle.wire_codec.specs.Writes.{Held, Writes}
use Rattle.wire_fields.specs.Messages.{length_prefixed, message_each, message_record}
use Rattle.wire_fields.specs.Numbers.{in_64_bits, delimited_size}
use Rattle.wire_fields.specs.Scalar.{ScalarType, scalar_record}
use Rattle.wire_fields.proofs.Measuring.{size_joined}
use Rattle.wire_fields.proofs.Messages.{next_message}

-- ---- records one behind another

module _ (joins : JoinedTextsAndSizes) (a b : Records) where
  pub joined_len : (m n sum : ℕ) → m ≡ in_64_bits (text_size a) → n ≡ in_64_bits (text_size b)
      → sum ≡ min (m + n) (2 ^ 64 - 1) → sum ≡ in_64_bits (text_size (joined_records a b))
  joined_len m n sum one other is = omega (arith, one, other, is, size_joined joins a b)

  pub first_small : text_size (joined_records a b) < 2 ^ 64 → text_size a < 2 ^ 64
  first_small small = omega (arith, small, size_joined joins a b)

  pub second_small : text_size (joined_records a b) < 2 ^ 64 → text_size b < 2 ^ 64
  second_small small = omega (arith, small, size_joined joins a b)

-- ---- a scalar value, by its payload

module _ {V : Type 0} (t : ScalarType V) (n : ℕ) (p : Payload) (v : V) (is : p ≡ t.payload v) where
  same_record : field n (of_payload p) none ≡ scalar_record t n v
  same_record = ap (λ (x : Payload). field n (of_payload x) none) is

  pub scalar_len : (size : ℕ) → size ≡ in_64_bits (text_size (field n (of_payload p) none))
      → size ≡ in_64_bits (text_size (scalar_record t n v))
  scalar_len size h = h ∙ ap (λ (rs : Records). in_64_bits (text_size rs)) same_record

  pub scalar_written : (old new : Held) (r : Result (Unit {0}) EncodeError)
      → Writes (text (field n (of_payload p) none)) old new r
      → Writes (text (scalar_record t n v)) old new r
  scalar_written old new r h = subst (λ (rs : Records). Writes (text rs) old new r) same_record h

-- ---- an enum

module _ {E : Type 0} (number : E → ℤ) (of : ℤ → Option E)
    (keeps : (n : ℤ) (e : E) → of n ≡ Some e → number e ≡ n) (n : ℤ) where
  number_kept : (o : Option E) → of n ≡ o → number_of number (known_or o n) ≡ n
  number_kept (Some e) is = keeps n e is
  number_kept None is = refl

  -- the value of a number has that number
  pub kept_number : number_of number (known_or (of n) n) ≡ n
  kept_number = number_kept (of n) refl

-- ---- an embedded message

embedded_text_size : (n : ℕ) (rs : Records)
    → text_size (field n (embedded rs) none) ≡ delimited_size n (text_size rs)
embedded_text_size n rs =
    let tag = tag_text n LengthDelimited in
    let len = shortest_varint (text_size rs) in
    omega (
      arith,
      length-append tag ((len ++ text rs) ++ []),
      length-append (len ++ text rs) [],
      length-append len (text rs),
    )

-- a length that 64 bits do not hold makes the record one too
pub delimited_cut : (n len size : ℕ) → len ≡ in_64_bits size
    → in_64_bits (delimited_size n len) ≡ in_64_bits (delimited_size n size)
delimited_cut n len size is =
    let same : len ≡ size → length (shortest_varint len) ≡ length (shortest_varint size) =
    λ e. ap (λ (k : ℕ). length (shortest_varint k)) e in
    grind (arith, same)

pub embedded_len : (n len total : ℕ) (rs : Records) → len ≡ in_64_bits (text_size rs)
    → total ≡ in_64_bits (delimited_size n len)
    → total ≡ in_64_bits (text_size (field n (embedded rs) none))
embedded_len n len total rs is sum =
    sum ∙ delimited_cut n len (text_size rs) is ∙ ap in_64_bits (sym (embedded_text_size n rs))

-- a message is no longer than its record
pub embedded_small : (n : ℕ) (rs : Records) → text_size (field n (embedded rs) none) < 2 ^ 64
    → text_size rs < 2 ^ 64
embedded_small n rs small = omega (arith, small, embedded_text_size n rs)

-- so its length is not cut
pub whole_len : (n len : ℕ) (rs : Records) → len ≡ in_64_bits (text_size rs)
    → text_size (field n (embedded rs) none) < 2 ^ 64 → len ≡ text_size rs
whole_len n len rs is small = omega (arith, is, embedded_small n rs small)

-- ---- messages one behind another

module _ {T V : Type 0} (records : V → Records) (view : T → V) (n : ℕ) (joins : JoinedTextsAndSizes)
    (ms : List T) where
  -- the records of messages
  abbrev each : List T → Records
  each ts = message_each length_prefixed records n (map view ts)

  abbrev one : T → Records
  one m = message_record length_prefixed n (records (view m))

  pub messages_text : (i : ℕ) (m : T) → i < length ms → m ≡ get_or ms i m
      → text (each (drop i ms)) ≡ text (one m) ++ text (each (drop (i + 1) ms))
  messages_text i m within is =
      ap text (next_message length_prefixed records view n ms i m within is).is
      ∙ joins.text (one m) (each (drop (i + 1) ms))

  -- one message more is counted
  pub messages_more : (i len size next : ℕ) (m : T) → i < length ms → m ≡ get_or ms i m
      → size ≡ in_64_bits (text_size (one m)) → next ≡ min (len + size) (2 ^ 64 - 1)
      → in_64_bits (next + text_size (each (drop (i + 1) ms)))
      ≡ in_64_bits (len + text_size (each (drop i ms)))
  messages_more i len size next m within is measured sum =
      omega (
        arith,
        ap length (messages_text i m within is),
        length-append (text (one m)) (text (each (drop (i + 1) ms))),
        measured,
        sum,
      )

  -- no message is left
  pub no_message : (i : ℕ) → length ms ≤ i → text (each (drop i ms)) ≡ []
  no_message i all = ap (λ (ts : List T). text (each ts)) (drop_all i ms all)

  pub messages_counted : (i len : ℕ) → length ms ≤ i → len < 2 ^ 64
      → in_64_bits (len + text_size (each (drop i ms))) ≡ in_64_bits (text_size (each ms))
      → len ≡ in_64_bits (text_size (each ms))
  messages_counted i len all fits is = omega (arith, is, ap length (no_message i all))

  -- what is left is no longer than all
  pub message_small : (i : ℕ) (m : T) → i < length ms → m ≡ get_or ms i m
      → text_size (each (drop i ms)) < 2 ^ 64
      → (text_size (one m) < 2 ^ 64) × (text_size (each (drop (i + 1) ms)) < 2 ^ 64)
  message_small i m within is small =
      let parts = ap length (messages_text i m within is) in
      let sum = length-append (text (one m)) (text (each (drop (i + 1) ms))) in
      (omega (arith, small, parts, sum), omega (arith, small, parts, sum))
