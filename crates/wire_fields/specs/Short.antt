-- Values in which each message and each group takes no more bytes than a message may, and what else
-- stands behind a length, a text or a packed list, has a length that can be written.
use Rattle.std.proofs.Common.{◌≡◌, ℕ, ◌+◌, ◌^◌, ◌<◌, ◌≤◌, ap, arith, ◌∙◌, List, [], ◌++◌, length, length-append}
use Rattle.wire_codec.specs.Field as grammar
use Rattle.wire_codec.specs.Laws.{JoinedTextsAndSizes}
use Rattle.wire_codec.specs.Records.{ValuePayload, varint, fixed64, fixed32, bytes, group, embedded}
use Rattle.wire_codec.specs.Records.{Records, none, field, plain, text, text_size, joined_records}
use Rattle.wire_codec.specs.Tag.{tag_text}
use Rattle.wire_codec.specs.Text.{size, text_of}
use Rattle.wire_codec.specs.Varint.{shortest_varint}
use Rattle.wire_codec.specs.WireType.TheVariants.{LengthDelimited, StartGroup, EndGroup}

abbrev mutual
  pub IsShort : ValuePayload → Type 0
  IsShort (varint v) = Unit {0}
  IsShort (fixed64 v) = Unit {0}
  IsShort (fixed32 v) = Unit {0}
  IsShort (bytes b) = length b < 2 ^ 64
  IsShort (group rs) = (text_size rs ≤ 2147483647) × AreShort rs
  IsShort (embedded rs) = (text_size rs ≤ 2147483647) × AreShort rs

  pub AreShort : Records → Type 0
  AreShort none = Unit {0}
  AreShort (field n p rest) = IsShort p × AreShort rest

-- ---- parts of a list

pub first_short : (rs qs : Records) → AreShort (joined_records rs qs) → AreShort rs
first_short none qs h = tt
first_short (field n p rest) qs h = (h.0, first_short rest qs h.1)

pub second_short : (rs qs : Records) → AreShort (joined_records rs qs) → AreShort qs
second_short none qs h = h
second_short (field n p rest) qs h = second_short rest qs h.1

pub joined_short : (rs qs : Records) → AreShort rs → AreShort qs → AreShort (joined_records rs qs)
joined_short none qs h k = k
joined_short (field n p rest) qs h k = (h.0, joined_short rest qs h.1 k)

-- ---- a whole that takes no more

-- where all takes no more bytes than a message may, each part does
abbrev pub WholeIsShort : Type 0
WholeIsShort = (rs : Records) → text_size rs ≤ 2147483647 → AreShort rs

-- bytes, and the records of a group, are no longer than their record
delimited_length : (n : ℕ) (b : List ℕ)
    → length b ≤ size (grammar.field n (grammar.bytes b) grammar.none)
delimited_length n b =
    let tag = tag_text n LengthDelimited in
    let len = shortest_varint (length b) in
    omega (
      arith,
      length-append tag ((len ++ b) ++ []),
      length-append (len ++ b) [],
      length-append len b,
    )

group_length : (n : ℕ) (fs : grammar.Fields)
    → size fs ≤ size (grammar.field n (grammar.group fs) grammar.none)
group_length n fs =
    let tag = tag_text n StartGroup in
    let end = tag_text n EndGroup in
    omega (
      arith,
      length-append tag ((text_of fs ++ end) ++ []),
      length-append (text_of fs ++ end) [],
      length-append (text_of fs) end,
    )

module _ (joined : JoinedTextsAndSizes) where
  joined_size : (rs qs : Records)
      → text_size (joined_records rs qs) ≡ text_size rs + text_size qs
  joined_size rs qs = ap length (joined.text rs qs) ∙ length-append (text rs) (text qs)

  mutual
    payload_short : (n : ℕ) (p : ValuePayload) → text_size (field n p none) ≤ 2147483647
        → IsShort p
    payload_short n (varint v) small = tt
    payload_short n (fixed64 v) small = tt
    payload_short n (fixed32 v) small = tt
    payload_short n (bytes b) small = omega (arith, small, delimited_length n b)
    payload_short n (group rs) small =
        let short : text_size rs ≤ 2147483647 = omega (arith, small, group_length n (plain rs)) in
        (short, short_whole rs short)
    payload_short n (embedded rs) small =
        let short : text_size rs ≤ 2147483647 = omega (arith, small, delimited_length n (text rs))
        in
        (short, short_whole rs short)

    pub short_whole : WholeIsShort
    short_whole none small = tt
    short_whole (field n p rest) small =
        let sum = joined_size (field n p none) rest in (
          payload_short n p (omega (arith, small, sum)),
          short_whole rest (omega (arith, small, sum)),
        )
