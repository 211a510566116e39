-- Records that fit their fields, and records that do not.
use Rattle.std.proofs.Common.{◌≡◌, ◌≢◌, ℕ, ◌+◌, ◌-◌, ◌<◌, Bool, true, false, List, [], ◌∷◌, ◌++◌, length, drop, refl, sym, ap, ◌∙◌, subst, append_assoc, append-nil, arith, length-append, Some, codes, decimal}
use Rattle.std.proofs.lemmas.List.{drop_at}
use Rattle.std.specs.List.{AllZip}
use Rattle.wire_base.specs.declared.tag.WireType.{WireType}
use Rattle.wire_base.specs.declared.tag.WireType.TheVariants as wire_types
use Rattle.wire_base.specs.Field.{Payload, varint, fixed64, fixed32, bytes, group, type_of}
use Rattle.wire_base.specs.Items.{IsItem}
use Rattle.wire_base.specs.Read.{Reads}
use Rattle.wire_base.specs.VarintLaws.{OneVarint}
use Rattle.wire_read.specs.declared.event.Value.{Value}
use Rattle.wire_read.specs.declared.event.Value.TheVariants as values
use Rattle.wire_read.specs.Reading.{item}
use Rattle.wire_scalar.specs.Packed.{SpellsEach}
use Rattle.wire_dynamic.specs.declared.field.Field.{Field}
use Rattle.wire_dynamic.specs.declared.field.Kind.{Kind}
use Rattle.wire_dynamic.specs.declared.field.Kind.TheVariants as kinds
use Rattle.wire_dump.specs.declared.layout.Layout.{Layout}
use Rattle.wire_dump.specs.Dumped.{ItemLines}
use Rattle.wire_dump.specs.Dumps.{DumpsRecord, number, eight_bytes, four_bytes, message, string, block}
use Rattle.wire_dump.specs.Lines.{end_line, escaped, hexadecimal, indented, line, opening}
use Rattle.wire_dump.specs.Numbers.{IsNumber, number_in, number_type}
use Rattle.wire_dump.specs.Places.{Line, line_of, range_text}
use Rattle.wire_dump.specs.Shown.{IsRecord, each_printed, event_payload}
use Rattle.wire_dump.specs.Shows.{BytesFit, FitsField, IsNoString, IsPackedOf, IsQuoted}
use Rattle.wire_dump.proofs.ShownPut.{EndsFull}

-- ---- numbers in packed lists

after_same : (n : ℕ) (a b r s : List ℕ) → length a ≡ n → length b ≡ n → a ++ r ≡ b ++ s → r ≡ s
after_same n a b r s first second e =
    sym (drop_at a r n first) ∙ ap (λ (x : List ℕ). drop n x) e ∙ drop_at b s n second

one_number : OneVarint → (w : WireType) (x y : ℕ) (all r s : List ℕ)
    → Reads all (IsNumber w x) r → Reads all (IsNumber w y) s → r ≡ s
one_number law wire_types.Varint x y all r s h i =
    (law all r s x y
    (record { text = h.text; parts = h.parts; spelled = h.spelled })
    (record { text = i.text; parts = i.parts; spelled = i.spelled })).1
one_number law wire_types.Fixed64 x y all r s h i =
    after_same 8 h.text i.text r s h.spelled.0 i.spelled.0 (sym h.parts ∙ i.parts)
one_number law wire_types.Fixed32 x y all r s h i =
    after_same 4 h.text i.text r s h.spelled.0 i.spelled.0 (sym h.parts ∙ i.parts)
one_number law wire_types.LengthDelimited x y all r s h i = absurd h.spelled
one_number law wire_types.StartGroup x y all r s h i = absurd h.spelled
one_number law wire_types.EndGroup x y all r s h i = absurd h.spelled

nothing_left : (a b : List ℕ) → a ++ b ≡ [] → b ≡ []
nothing_left [] b e = e
nothing_left (x ∷ a) b e = absurd (cc e)

-- where a front of a packed list is one, a number stands behind it, unless nothing does
pub number_behind : OneVarint → (w : WireType) (xs ys front rest : List ℕ)
    → SpellsEach (IsNumber w) xs front → SpellsEach (IsNumber w) ys (front ++ rest) → rest ≢ []
    → (z : ℕ) × (more : List ℕ) × Reads rest (IsNumber w z) more
number_behind law w [] [] front rest e f some =
    absurd (some (nothing_left front rest f))
number_behind law w [] (y ∷ ys) front rest e (one, more, parts, is, others) some =
    let here : rest ≡ one ++ more = ap (λ (x : List ℕ). x ++ rest) (sym e) ∙ parts in
    (y, more, record { text = one; parts = here; spelled = is })
number_behind law w (x ∷ xs) [] front rest h e some =
    absurd (some (nothing_left front rest e))
number_behind law w (x ∷ xs) (y ∷ ys) front rest (one, more, parts, is, others)
    (two, further, parts_too, is_too, others_too) some =
    let first : Reads (front ++ rest) (IsNumber w x) (more ++ rest) = record {
      text = one;
      parts = ap (λ (k : List ℕ). k ++ rest) parts ∙ append_assoc one more rest;
      spelled = is;
    } in
    let second : Reads (front ++ rest) (IsNumber w y) further = record {
      text = two;
      parts = parts_too;
      spelled = is_too;
    } in
    let same : more ++ rest ≡ further =
    one_number law w x y (front ++ rest) (more ++ rest) further first second in
    number_behind law w xs ys more rest others
    (subst (λ (k : List ℕ). SpellsEach (IsNumber w) ys k) (sym same) others_too) some

pub each_push : (w : WireType) (xs front one : List ℕ) (x : ℕ)
    → SpellsEach (IsNumber w) xs front → IsNumber w x one
    → SpellsEach (IsNumber w) (xs ++ x ∷ []) (front ++ one)
each_push w [] front one x e is =
    (one, [], ap (λ (k : List ℕ). k ++ one) e ∙ sym (append-nil one), is, refl)
each_push w (y ∷ xs) front one x (two, more, parts, is_two, others) is = (
  two,
  more ++ one,
  ap (λ (k : List ℕ). k ++ one) parts ∙ append_assoc two more one,
  is_two,
  each_push w xs more one x others is,
)

pub zip_push : {A B : Type 0} (R : A → B → Type 0) (xs : List A) (ys : List B) (x : A) (y : B)
    → AllZip R xs ys → R x y → AllZip R (xs ++ x ∷ []) (ys ++ y ∷ [])
zip_push R [] [] x y h r = (r, h)
zip_push R [] (b ∷ ys) x y h r = absurd h
zip_push R (a ∷ xs) [] x y h r = absurd h
zip_push R (a ∷ xs) (b ∷ ys) x y h r = (h.0, zip_push R xs ys x y h.1 r)

pub printed_push : (o : Bool) (start end : ℕ) (texts : List (List ℕ)) (line : List ℕ)
    → each_printed o start end (texts ++ line ∷ [])
    ≡ each_printed o start end texts ++ (range_text o start end ++ line)
printed_push o start end [] line =
    ap (λ (x : List ℕ). range_text o start end ++ x) (append-nil line)
printed_push o start end (text ∷ texts) line =
    let r = range_text o start end in
    let rest = each_printed o start end texts in
    ap (λ (x : List ℕ). r ++ (text ++ x)) (printed_push o start end texts line)
    ∙ ap (λ (x : List ℕ). r ++ x) (sym (append_assoc text rest (r ++ line)))
    ∙ sym (append_assoc r (text ++ rest) (r ++ line))

-- ---- events that are records

-- no start and no end of a group
abbrev pub IsFlat : Value → Type 0
IsFlat values.GroupStart = ⊥
IsFlat values.GroupEnd = ⊥
IsFlat _ = Unit {0}

pub flat_record : (n : ℕ) (v : Value) (text : List ℕ) → IsFlat v → IsItem (item n v) text
    → IsRecord n (event_payload v) text
flat_record n (values.Varint x) text flat is = record { flat = is.0; spelled = is.1 }
flat_record n (values.Fixed64 x) text flat is = record { flat = is.0; spelled = is.1 }
flat_record n (values.Fixed32 x) text flat is = record { flat = is.0; spelled = is.1 }
flat_record n (values.Bytes b) text flat is = record { flat = is.0; spelled = is.1 }
flat_record n values.GroupStart text flat is = absurd flat
flat_record n values.GroupEnd text flat is = absurd flat

pub record_item : (n : ℕ) (v : Value) (text : List ℕ) → IsRecord n (event_payload v) text
    → IsItem (item n v) text
record_item n (values.Varint x) text is = (is.flat, is.spelled)
record_item n (values.Fixed64 x) text is = (is.flat, is.spelled)
record_item n (values.Fixed32 x) text is = (is.flat, is.spelled)
record_item n (values.Bytes b) text is = (is.flat, is.spelled)
record_item n values.GroupStart text is = absurd (is.flat refl)
record_item n values.GroupEnd text is = absurd (is.flat refl)

unmoved : (y : Layout) (n : ℕ) (p : Payload) (text : List ℕ) (lines : List Line)
    → DumpsRecord (y.budget - 0) (y.level + 0) n p text lines
    → DumpsRecord y.budget y.level n p text lines
unmoved y n p text lines h =
    let no_less : y.budget - 0 ≡ y.budget = omega arith in
    let no_more : y.level + 0 ≡ y.level = omega arith in
    subst (λ (x : ℕ). DumpsRecord x y.level n p text lines) no_less
    (subst (λ (x : ℕ). DumpsRecord (y.budget - 0) x n p text lines) no_more h)

-- the lines of a record as without a schema
pub record_lines : (y : Layout) (n : ℕ) (v : Value) (text : List ℕ) (lines : List Line)
    → IsRecord n (event_payload v) text → ItemLines y 0 (item n v) text lines
    → DumpsRecord y.budget y.level n (event_payload v) text lines
record_lines y n (values.Varint x) text lines is h = unmoved y n (varint x) text lines h
record_lines y n (values.Fixed64 x) text lines is h = unmoved y n (fixed64 x) text lines h
record_lines y n (values.Fixed32 x) text lines is h = unmoved y n (fixed32 x) text lines h
record_lines y n (values.Bytes b) text lines is h = unmoved y n (bytes b.now) text lines h
record_lines y n values.GroupStart text lines is h = absurd (is.flat refl)
record_lines y n values.GroupEnd text lines is h = absurd (is.flat refl)

-- ---- lines end with a byte

pub line_full : (level n : ℕ) (rest : List ℕ) → 0 < length (line level n rest)
line_full level n rest =
    let tail = rest ++ codes "\n" in
    omega (
      arith,
      length-append (indented level) (decimal n ++ tail),
      length-append (decimal n) tail,
      length-append rest (codes "\n"),
    )

full_behind : (xs ys : List Line) → EndsFull ys → EndsFull (xs ++ ys)
full_behind [] ys full = full
full_behind (x ∷ []) [] full = absurd full
full_behind (x ∷ []) (y ∷ ys) full = full
full_behind (x ∷ (z ∷ xs)) ys full = full_behind (z ∷ xs) ys full

closing_full : (level : ℕ) → 0 < length (end_line level)
closing_full level = omega (arith, length-append (indented level) (codes "}\n"))

message_full : (first inside : List Line) (text : List ℕ) (level : ℕ)
    → EndsFull (first ++ (inside ++ line_of text (end_line level)))
message_full first inside text level =
    full_behind first (inside ++ line_of text (end_line level))
    (full_behind inside (line_of text (end_line level)) (closing_full level))

pub record_full : (b k n : ℕ) (p : Payload) (text : List ℕ) (lines : List Line)
    → DumpsRecord b k n p text lines → EndsFull lines
record_full b k n (varint v) text lines (number is e) =
    subst EndsFull (sym e) (line_full k n (codes ": " ++ decimal v))
record_full b k n (fixed64 v) text lines (eight_bytes is e) =
    subst EndsFull (sym e) (line_full k n (codes ": 0x" ++ hexadecimal 16 v))
record_full b k n (fixed32 v) text lines (four_bytes is e) =
    subst EndsFull (sym e) (line_full k n (codes ": 0x" ++ hexadecimal 8 v))
record_full b k n (bytes payload) text lines (message fs head inside is parts m h e) =
    subst EndsFull (sym e) (message_full (line_of head (opening k n)) inside [] k)
record_full b k n (bytes payload) text lines (string is other e) =
    subst EndsFull (sym e) (line_full k n (codes ": \"" ++ (escaped payload ++ codes "\"")))
record_full b k n (group fs) text lines (block start body end inside tag h last parts e) =
    subst EndsFull (sym e) (message_full (line_of start (opening k n)) inside end k)

-- ---- records that do not fit

pub packed_alone : (depth : ℕ) (f : Field) (kind : Kind) (b : List ℕ) → IsNoString kind
    → BytesFit depth f kind b → (f.is_repeated ≡ true) × ((xs : List ℕ) × IsPackedOf kind xs b)
packed_alone depth f kinds.Double b is h = h
packed_alone depth f kinds.Float b is h = h
packed_alone depth f kinds.Int64 b is h = h
packed_alone depth f kinds.Uint64 b is h = h
packed_alone depth f kinds.Int32 b is h = h
packed_alone depth f kinds.Fixed64 b is h = h
packed_alone depth f kinds.Fixed32 b is h = h
packed_alone depth f kinds.Bool b is h = h
packed_alone depth f kinds.Text b is h = absurd is
packed_alone depth f (kinds.Group place) b is h = h
packed_alone depth f (kinds.Message place) b is h = absurd is
packed_alone depth f kinds.Blob b is h = absurd is
packed_alone depth f kinds.Uint32 b is h = h
packed_alone depth f (kinds.Enum place) b is h = h
packed_alone depth f kinds.Sfixed32 b is h = h
packed_alone depth f kinds.Sfixed64 b is h = h
packed_alone depth f kinds.Sint32 b is h = h
packed_alone depth f kinds.Sint64 b is h = h

-- a number fits a field exactly where its wire type is that of the field's kind
pub single_fits : (depth x : ℕ) (f : Field) (p : Payload) → number_in p ≡ Some x
    → number_type f.kind ≡ Some (type_of p) → FitsField depth f p
single_fits depth x f (varint v) is e = e
single_fits depth x f (fixed64 v) is e = e
single_fits depth x f (fixed32 v) is e = e
single_fits depth x f (bytes b) is e = absurd (cc is)
single_fits depth x f (group fs) is e = absurd (cc is)

pub single_unfit : (depth x : ℕ) (f : Field) (p : Payload) → number_in p ≡ Some x
    → (number_type f.kind ≡ Some (type_of p) → ⊥) → FitsField depth f p → ⊥
single_unfit depth x f (varint v) is other e = other e
single_unfit depth x f (fixed64 v) is other e = other e
single_unfit depth x f (fixed32 v) is other e = other e
single_unfit depth x f (bytes b) is other e = absurd (cc is)
single_unfit depth x f (group fs) is other e = absurd (cc is)

pub string_fits : (depth : ℕ) (f : Field) (kind : Kind) (b : List ℕ) → IsQuoted kind
    → (kind ≡ kinds.Text → f.is_checked ≡ false) → BytesFit depth f kind b
string_fits depth f kinds.Text b is unchecked = λ checked. absurd (cc (checked, unchecked refl))
string_fits depth f kinds.Blob b is unchecked = tt
string_fits depth f kinds.Double b is unchecked = absurd is
string_fits depth f kinds.Float b is unchecked = absurd is
string_fits depth f kinds.Int64 b is unchecked = absurd is
string_fits depth f kinds.Uint64 b is unchecked = absurd is
string_fits depth f kinds.Int32 b is unchecked = absurd is
string_fits depth f kinds.Fixed64 b is unchecked = absurd is
string_fits depth f kinds.Fixed32 b is unchecked = absurd is
string_fits depth f kinds.Bool b is unchecked = absurd is
string_fits depth f (kinds.Group place) b is unchecked = absurd is
string_fits depth f (kinds.Message place) b is unchecked = absurd is
string_fits depth f kinds.Uint32 b is unchecked = absurd is
string_fits depth f (kinds.Enum place) b is unchecked = absurd is
string_fits depth f kinds.Sfixed32 b is unchecked = absurd is
string_fits depth f kinds.Sfixed64 b is unchecked = absurd is
string_fits depth f kinds.Sint32 b is unchecked = absurd is
string_fits depth f kinds.Sint64 b is unchecked = absurd is
