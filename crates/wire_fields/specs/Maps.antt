-- Maps: entries of a key and a value, in the order of the keys.
use Rattle.std.proofs.Common.{List, [], map}
use Rattle.std.specs.BTreeMap.{insert_entry}
use Rattle.std.specs.Cmp.Lexicographic.{slice_cmp}
use Rattle.std.specs.declared.cmp.Ordering.{Ordering}
use Rattle.std.specs.Ordering.{nat_cmp, int_cmp, bool_cmp}
use Rattle.std.specs.Prelude.{ℕ, ℤ, Bool, ⊤, ◌==◌, ◌||◌}
use Rattle.wire_codec.specs.Folds.{Step, IsSingle}
use Rattle.wire_codec.specs.Records.{Records, none, joined_records}
use Rattle.wire_codec.specs.ValueMap.{ValueMap, bool}
use Rattle.wire_fields.specs.declared.form.Form.{Form}
use Rattle.wire_fields.specs.declared.form.Form.TheVariants.{Varint}
use Rattle.wire_fields.specs.Dropped.{drops, drops_single}
use Rattle.wire_fields.specs.Messages.{length_prefixed, message_record, message_each, gathers, gathers_single}
use Rattle.wire_fields.specs.Numbers.{numeric}
use Rattle.wire_fields.specs.Presence.{sets, sets_single}
use Rattle.wire_fields.specs.Scalar.{ScalarType, scalar_record}
use Rattle.wire_fields.specs.Shape.{FieldKind, Lawful, either, single_either}
use Rattle.wire_fields.specs.Texts.{string}

-- ---- an entry

-- a key and a value as contracts see them, and no unknown fields
abbrev pub EntryOf : Type 0 → Type 0 → Type 0
EntryOf K V = (K × V) × ⊤

-- an entry is a message of the key, field 1, and the value, field 2, both always written
abbrev pub entry_records : {K V : Type 0} → ScalarType K → FieldKind V → K × V → Records
entry_records key value e =
    joined_records (joined_records (scalar_record key 1 e.0) (value.records 2 e.1)) none

-- other fields are lost
abbrev pub entry_takes : {K V : Type 0} → ScalarType K → FieldKind V → Step (EntryOf K V)
entry_takes key value =
    either (λ n p. n == 1 || n == 2) (either (λ n p. n == 1) (sets key) value.takes) drops

abbrev pub entry_default : {K V : Type 0} → ScalarType K → FieldKind V → EntryOf K V
entry_default key value = ((key.default, value.default), tt)

pub entry_single : {K V : Type 0} (key : ScalarType K) (value : FieldKind V) → IsSingle value.takes
    → IsSingle (entry_takes key value)
entry_single key value single =
    single_either (λ n p. n == 1 || n == 2) (either (λ n p. n == 1) (sets key) value.takes) drops
    (single_either (λ n p. n == 1) (sets key) value.takes (sets_single key) single) drops_single

-- an entry is read, and its place in memory charged
abbrev pub reads_entry : {K V : Type 0} → ℕ → ScalarType K → FieldKind V → Step (EntryOf K V)
reads_entry place key value =
    gathers place length_prefixed (entry_takes key value) (entry_default key value) (λ m e. e)

-- ---- entries

-- the record of an entry
abbrev pub entry_record : {K V : Type 0} → ScalarType K → FieldKind V → ℕ → K × V → Records
entry_record key value n e = message_record length_prefixed n (entry_records key value e)

-- a record for each entry, in order
abbrev pub each_entry : {K V : Type 0} → ScalarType K → FieldKind V → ℕ → List (K × V) → Records
each_entry key value = message_each length_prefixed (entry_records key value)

-- the entry takes its place, and its value that of the entry with the same key
abbrev pub puts_entry : {K V : Type 0} → (K → K → Ordering) → List (K × V) → EntryOf K V
    → List (K × V)
puts_entry order m e = insert_entry order m e.0.0 e.0.1

-- the entries of a map, as contracts see them
abbrev pub viewed : {S T K V : Type 0} → (S → K) → (T → V) → List (S × T) → List (K × V)
viewed key value = map (λ e. (key e.0, value e.1))

-- ---- the kind

abbrev pub map_kind : {K V : Type 0} → ℕ → (K → K → Ordering) → ScalarType K → FieldKind V
    → FieldKind (List (K × V))
map_kind place order key value = record {
  default = [];
  records = each_entry key value;
  takes = gathers place length_prefixed (entry_takes key value) (entry_default key value)
      (puts_entry order);
}

-- a map with keys of this order, each entry of it charged for so many bytes
abbrev pub map_of : {K V : Type 0} → ℕ → (K → K → Ordering) → ScalarType K → Lawful V
    → Lawful (List (K × V))
map_of place order key value = record {
  kind = map_kind place order key value.kind;
  single = λ reading. gathers_single length_prefixed (entry_takes key value.kind) reading
      (entry_single key value.kind (value.single reading)) place
      (entry_default key value.kind) (puts_entry order);
}

-- maps by the type of their keys: strings by their bytes, numbers by value, false before true
abbrev pub text_map : {V : Type 0} → ℕ → Lawful V → Lawful (List (List ℕ × V))
text_map place = map_of place (slice_cmp nat_cmp) string

abbrev pub unsigned_map : {V : Type 0} → ℕ → Form → ValueMap ℕ → Lawful V
    → Lawful (List (ℕ × V))
unsigned_map place form values = map_of place nat_cmp (numeric form values)

abbrev pub signed_map : {V : Type 0} → ℕ → Form → ValueMap ℤ → Lawful V
    → Lawful (List (ℤ × V))
signed_map place form values = map_of place int_cmp (numeric form values)

abbrev pub bool_map : {V : Type 0} → ℕ → Lawful V → Lawful (List (Bool × V))
bool_map place = map_of place bool_cmp (numeric Varint bool)
