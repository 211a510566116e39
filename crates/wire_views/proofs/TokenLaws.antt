-- What is read behind a tag is what is left of the item there.
use Rattle.std.proofs.Common.{◌≡◌, ◌≢◌, ℕ, ◌+◌, ◌-◌, ◌^◌, ◌<◌, min, length-append, List, [], ◌∷◌, ◌++◌, length, refl, subst, ap, sym, ◌∙◌, arith}
use Rattle.std.specs.Int.{Width, w32, w64, from_le_bytes}
use Rattle.std.specs.Prelude.{None}
use Rattle.wire_base.specs.Delimited.{IsDelimited, DelimitedFault}
use Rattle.wire_base.specs.Field.{Payload, varint, fixed64, fixed32, bytes, group, none, field, type_of}
use Rattle.wire_base.specs.Fixed.{IsFixed}
use Rattle.wire_base.specs.Items.{Item, start, end, whole, IsItem, SpellsItems}
use Rattle.wire_base.specs.Read.{Reads}
use Rattle.wire_base.specs.Spells.{SpellsPayload, Spells}
use Rattle.wire_base.specs.Tag.{IsTagSpelling, TagFault}
use Rattle.wire_base.specs.TagLaws.{OneTag, NoTagBesideFault}
use Rattle.wire_base.proofs.FieldLaws.{Head, head_of, none_takes_nothing, rest_below}
use Rattle.wire_base.proofs.ReadLaws.{Reads-as}
use Rattle.wire_base.specs.Varint.{IsSpelling, VarintFault}
use Rattle.wire_base.specs.VarintLaws.{OneVarint, NoVarintBesideFault, OneDelimited, NoDelimitedBesideFault}
use Rattle.wire_base.specs.declared.error.DecodeError.{DecodeError}
use Rattle.wire_base.specs.declared.tag.WireType.{WireType}
use Rattle.wire_base.specs.declared.tag.WireType.TheVariants.{Varint, Fixed64, LengthDelimited, StartGroup, EndGroup, Fixed32}
use Rattle.wire_fields.specs.Numbers.{in_64_bits}
use Rattle.wire_fields.specs.Packed.{same_parts}
use Rattle.wire_views.specs.Tokens.{IsLeftOf}

-- the payload that a record has behind its tag
record Left (n : ℕ) (w : WireType) (i : Item) (old new : List ℕ) : Type 0 where
  pub payload : Payload
  pub item : i ≡ whole n payload
  pub kind : type_of payload ≡ w
  pub read : Reads old (SpellsPayload n payload) new

left_of : (n : ℕ) (w : WireType) (i : Item) (old new : List ℕ) → w ≢ StartGroup → w ≢ EndGroup
    → IsLeftOf n w i old new → Left n w i old new
left_of n w (start m) old new no_start no_end h = absurd (no_start h.1)
left_of n w (end m) old new no_start no_end h = absurd (no_end h.1)
left_of n w (whole m p) old new no_start no_end h =
    let r = h.2 in
    record {
      payload = p;
      item = ap (λ k. whole k p) h.0;
      kind = r.spelled.kind;
      read = record { text = r.text; parts = r.parts; spelled = r.spelled.spelled };
    }

-- ---- varints

varint_left : OneVarint → (n : ℕ) (p : Payload) (old new rest : List ℕ) (v : ℕ)
    → type_of p ≡ Varint → Reads old (SpellsPayload n p) rest → Reads old (IsSpelling v) new
    → (varint v ≡ p) × (new ≡ rest)
varint_left one n (varint u) old new rest v kind there read =
    let e = one old new rest v u read there in (ap varint e.0, e.1)
varint_left one n (fixed64 u) old new rest v kind there read = absurd cc
varint_left one n (fixed32 u) old new rest v kind there read = absurd cc
varint_left one n (bytes b) old new rest v kind there read = absurd cc
varint_left one n (group fs) old new rest v kind there read = absurd cc

pub varint_read : OneVarint → (n : ℕ) (w : WireType) (old new : List ℕ) (v : ℕ) → w ≡ Varint
    → Reads old (IsSpelling v) new → (i : Item) (rest : List ℕ) → IsLeftOf n w i old rest
    → (whole n (varint v) ≡ i) × (new ≡ rest)
varint_read one n w old new v is read i rest h =
    let l = left_of n w i old rest (λ e. absurd cc) (λ e. absurd cc) h in
    let e = varint_left one n l.payload old new rest v (l.kind ∙ is) l.read read in
    (ap (whole n) e.0 ∙ sym l.item, e.1)

no_varint_left : NoVarintBesideFault → (n : ℕ) (p : Payload) (old rest : List ℕ) (e : DecodeError)
    → type_of p ≡ Varint → Reads old (SpellsPayload n p) rest → VarintFault old e → ⊥
no_varint_left beside n (varint u) old rest e kind there fault = beside old rest u e there fault
no_varint_left beside n (fixed64 u) old rest e kind there fault = absurd cc
no_varint_left beside n (fixed32 u) old rest e kind there fault = absurd cc
no_varint_left beside n (bytes b) old rest e kind there fault = absurd cc
no_varint_left beside n (group fs) old rest e kind there fault = absurd cc

pub no_varint_read : NoVarintBesideFault → (n : ℕ) (w : WireType) (old : List ℕ) (e : DecodeError)
    → w ≡ Varint → VarintFault old e → (i : Item) (rest : List ℕ) → IsLeftOf n w i old rest → ⊥
no_varint_read beside n w old e is fault i rest h =
    let l = left_of n w i old rest (λ s. absurd cc) (λ s. absurd cc) h in
    no_varint_left beside n l.payload old rest e (l.kind ∙ is) l.read fault

-- ---- bytes

bytes_left : OneDelimited → (n : ℕ) (p : Payload) (old new rest b : List ℕ)
    → type_of p ≡ LengthDelimited → Reads old (SpellsPayload n p) rest
    → Reads old (IsDelimited b) new → (bytes b ≡ p) × (new ≡ rest)
bytes_left one n (varint u) old new rest b kind there read = absurd cc
bytes_left one n (fixed64 u) old new rest b kind there read = absurd cc
bytes_left one n (fixed32 u) old new rest b kind there read = absurd cc
bytes_left one n (bytes c) old new rest b kind there read =
    let e = one b c old new rest read there in (ap bytes e.0, e.1)
bytes_left one n (group fs) old new rest b kind there read = absurd cc

pub bytes_read : OneDelimited → (n : ℕ) (w : WireType) (old new b : List ℕ) → w ≡ LengthDelimited
    → Reads old (IsDelimited b) new → (i : Item) (rest : List ℕ) → IsLeftOf n w i old rest
    → (whole n (bytes b) ≡ i) × (new ≡ rest)
bytes_read one n w old new b is read i rest h =
    let l = left_of n w i old rest (λ e. absurd cc) (λ e. absurd cc) h in
    let e = bytes_left one n l.payload old new rest b (l.kind ∙ is) l.read read in
    (ap (whole n) e.0 ∙ sym l.item, e.1)

no_bytes_left : NoDelimitedBesideFault → (n : ℕ) (p : Payload) (old rest : List ℕ) (e : DecodeError)
    → type_of p ≡ LengthDelimited → Reads old (SpellsPayload n p) rest
    → DelimitedFault None old e → ⊥
no_bytes_left beside n (varint u) old rest e kind there fault = absurd cc
no_bytes_left beside n (fixed64 u) old rest e kind there fault = absurd cc
no_bytes_left beside n (fixed32 u) old rest e kind there fault = absurd cc
no_bytes_left beside n (bytes c) old rest e kind there fault = beside None c old rest e there tt fault
no_bytes_left beside n (group fs) old rest e kind there fault = absurd cc

pub no_bytes_read : NoDelimitedBesideFault → (n : ℕ) (w : WireType) (old : List ℕ) (e : DecodeError)
    → w ≡ LengthDelimited → DelimitedFault None old e → (i : Item) (rest : List ℕ)
    → IsLeftOf n w i old rest → ⊥
no_bytes_read beside n w old e is fault i rest h =
    let l = left_of n w i old rest (λ s. absurd cc) (λ s. absurd cc) h in
    no_bytes_left beside n l.payload old rest e (l.kind ∙ is) l.read fault

-- ---- numbers of a fixed width

one_fixed : (width : Width) (old new rest : List ℕ) (v u : ℕ) → Reads old (IsFixed width v) new
    → Reads old (IsFixed width u) rest → (v ≡ u) × (new ≡ rest)
one_fixed width old new rest v u read there =
    let e = same_parts read.text new there.text rest (sym read.parts ∙ there.parts)
    (read.spelled.0 ∙ sym there.spelled.0) in
    (sym read.spelled.1 ∙ ap (from_le_bytes width) e.0 ∙ there.spelled.1, e.1)

fixed64_left : (n : ℕ) (p : Payload) (old new rest : List ℕ) (v : ℕ) → type_of p ≡ Fixed64
    → Reads old (SpellsPayload n p) rest → Reads old (IsFixed w64 v) new
    → (fixed64 v ≡ p) × (new ≡ rest)
fixed64_left n (varint u) old new rest v kind there read = absurd cc
fixed64_left n (fixed64 u) old new rest v kind there read =
    let e = one_fixed w64 old new rest v u read there in (ap fixed64 e.0, e.1)
fixed64_left n (fixed32 u) old new rest v kind there read = absurd cc
fixed64_left n (bytes b) old new rest v kind there read = absurd cc
fixed64_left n (group fs) old new rest v kind there read = absurd cc

pub fixed64_read : (n : ℕ) (w : WireType) (old new : List ℕ) (v : ℕ) → w ≡ Fixed64
    → Reads old (IsFixed w64 v) new → (i : Item) (rest : List ℕ) → IsLeftOf n w i old rest
    → (whole n (fixed64 v) ≡ i) × (new ≡ rest)
fixed64_read n w old new v is read i rest h =
    let l = left_of n w i old rest (λ e. absurd cc) (λ e. absurd cc) h in
    let e = fixed64_left n l.payload old new rest v (l.kind ∙ is) l.read read in
    (ap (whole n) e.0 ∙ sym l.item, e.1)

fixed32_left : (n : ℕ) (p : Payload) (old new rest : List ℕ) (v : ℕ) → type_of p ≡ Fixed32
    → Reads old (SpellsPayload n p) rest → Reads old (IsFixed w32 v) new
    → (fixed32 v ≡ p) × (new ≡ rest)
fixed32_left n (varint u) old new rest v kind there read = absurd cc
fixed32_left n (fixed64 u) old new rest v kind there read = absurd cc
fixed32_left n (fixed32 u) old new rest v kind there read =
    let e = one_fixed w32 old new rest v u read there in (ap fixed32 e.0, e.1)
fixed32_left n (bytes b) old new rest v kind there read = absurd cc
fixed32_left n (group fs) old new rest v kind there read = absurd cc

pub fixed32_read : (n : ℕ) (w : WireType) (old new : List ℕ) (v : ℕ) → w ≡ Fixed32
    → Reads old (IsFixed w32 v) new → (i : Item) (rest : List ℕ) → IsLeftOf n w i old rest
    → (whole n (fixed32 v) ≡ i) × (new ≡ rest)
fixed32_read n w old new v is read i rest h =
    let l = left_of n w i old rest (λ e. absurd cc) (λ e. absurd cc) h in
    let e = fixed32_left n l.payload old new rest v (l.kind ∙ is) l.read read in
    (ap (whole n) e.0 ∙ sym l.item, e.1)

-- ---- an item, of which the tag is read first

record Begun (i : Item) (old : List ℕ) : Type 0 where
  pub number : ℕ
  pub kind : WireType
  pub behind : List ℕ
  pub tag : Reads old (IsTagSpelling number kind) behind

head_in : (n : ℕ) (p : Payload) (old rest : List ℕ) → Reads old (IsItem (whole n p)) rest
    → Head n p none old rest
head_in n p old rest h = head_of n p none old rest
    (Reads-as (IsItem (whole n p)) (Spells (field n p none)) old rest h h.spelled.1)

begun : (i : Item) (old rest : List ℕ) → Reads old (IsItem i) rest → Begun i old
begun (start n) old rest h = record { number = n; kind = StartGroup; behind = rest; tag = h }
begun (end n) old rest h = record { number = n; kind = EndGroup; behind = rest; tag = h }
begun (whole n p) old rest h =
    let head = head_in n p old rest h in
    record { number = n; kind = type_of p; behind = head.behind; tag = head.tag }

pub no_item : NoTagBesideFault → (old : List ℕ) (e : DecodeError) → TagFault old e → (i : Item)
    (rest : List ℕ) → Reads old (IsItem i) rest → ⊥
no_item beside old e fault i rest h =
    let b = begun i old rest h in beside old b.behind b.number b.kind e b.tag fault

-- no item is no bytes
pub item_there : (i : Item) (old rest : List ℕ) → Reads old (IsItem i) rest → old ≡ [] → ⊥
item_there i old rest h empty =
    let b = begun i old rest h in
    omega (arith, rest_below b.number b.kind old b.behind b.tag, ap length empty)

pub left_item : OneTag → (old behind : List ℕ) (n : ℕ) (w : WireType)
    → Reads old (IsTagSpelling n w) behind → (i : Item) (rest : List ℕ) → Reads old (IsItem i) rest
    → IsLeftOf n w i behind rest
left_item one old behind n w tag (start m) rest h =
    let e = one old rest behind m n StartGroup w h tag in (e.0, sym e.1, e.2)
left_item one old behind n w tag (end m) rest h =
    let e = one old rest behind m n EndGroup w h tag in (e.0, sym e.1, e.2)
left_item one old behind n w tag (whole m p) rest h =
    let head = head_in m p old rest h in
    let e = one old head.behind behind m n (type_of p) w head.tag tag in
    let read : Reads head.behind (SpellsPayload m p) rest =
    subst (Reads head.behind (SpellsPayload m p)) (none_takes_nothing head.rest rest head.others)
    head.payload in (
      e.0,
      h.spelled.0,
      record {
        text = read.text;
        parts = sym e.2 ∙ read.parts;
        spelled = record {
          kind = e.1;
          spelled = subst (λ k. SpellsPayload k p read.text) e.0 read.spelled;
        };
      },
    )

-- ---- items that are left

-- the next of them, and those behind it
pub record Next (left : List Item) (old : List ℕ) : Type 0 where
  pub item : Item
  pub more : List Item
  pub rest : List ℕ
  pub is : left ≡ item ∷ more
  pub read : Reads old (IsItem item) rest
  pub spelled : SpellsItems more rest

pub some_left : (left : List Item) (old : List ℕ) → SpellsItems left old → 0 < length old
    → Next left old
some_left [] old h some = absurd (omega (arith, some, ap length h))
some_left (i ∷ more) old (rest, read, others) some = record {
  item = i;
  more = more;
  rest = rest;
  is = refl;
  read = read;
  spelled = others;
}

pub none_left : (left : List Item) (old : List ℕ) → SpellsItems left old → length old ≡ 0
    → left ≡ []
none_left [] old h empty = refl
none_left (i ∷ more) [] (rest, read, others) empty = absurd (item_there i [] rest read refl)
none_left (i ∷ more) (b ∷ old) h empty = absurd (omega (arith, empty))

-- ---- lengths, cut at 64 bits

pub counted_first : (len : ℕ) (one more : List ℕ) → len ≡ in_64_bits (length one)
    → in_64_bits (len + length more) ≡ in_64_bits (length (one ++ more))
counted_first len one more is = omega (arith, is, length-append one more)

-- what was counted and a text, and what is left
pub counted_more : (size len sum : ℕ) (one more : List ℕ) → len ≡ in_64_bits (length one)
    → sum ≡ min (size + len) (2 ^ 64 - 1)
    → in_64_bits (sum + length more) ≡ in_64_bits (size + length (one ++ more))
counted_more size len sum one more is adds = omega (arith, is, adds, length-append one more)

pub counted_all : (size all : ℕ) → size < 2 ^ 64 → in_64_bits (size + 0) ≡ in_64_bits all
    → size ≡ in_64_bits all
counted_all size all fits so_far = omega (arith, fits, so_far)
