-- What holds of records and of their texts. Each statement is proved as the contract of a law of
-- src/laws.rt.
use Rattle.std.specs.Prelude.{◌≡◌, ℕ, ◌+◌, ◌<◌, ◌≤◌, ◌↔◌, List, [], ◌++◌, length, All}
use Rattle.wire_base.specs.declared.tag.WireType.{WireType}
use Rattle.wire_base.specs.declared.tag.WireType.TheVariants.{StartGroup}
use Rattle.wire_base.specs.Charge.{charge}
use Rattle.wire_base.specs.Ending.{Ending, by_input, by_tag, GoesOn, Ends}
use Rattle.wire_base.specs.Field.{Payload, group, Fields, none, field, type_of, joined, count_top, push}
use Rattle.wire_base.specs.InRange.{AreFitting, AreNumbered}
use Rattle.wire_base.specs.Limits.{Limits, Charge, Fits, both, no_charge, left_after}
use Rattle.wire_base.specs.Read.{Reads}
use Rattle.wire_base.specs.Spells.{Spells, IsPayload}
use Rattle.wire_base.specs.Tag.{IsTagSpelling}
use Rattle.wire_base.specs.Taken.{TakesPayload, TakesFields, TakesUntil}
use Rattle.wire_base.specs.Text.{text_of}

-- ---- one reading

-- a tag and a payload are one record, and one record is a tag and a payload
abbrev pub PayloadIsField : Type 0
PayloadIsField =
    (n : ℕ) (p : Payload) (text : List ℕ)
    → Spells (field n p none) text
    ↔ ((payload : List ℕ) × Reads text (IsTagSpelling n (type_of p)) payload
    × IsPayload n (type_of p) p payload)

abbrev pub OnePayload : Type 0
OnePayload =
    (n : ℕ) (w : WireType) (p q : Payload) (bytes r s : List ℕ)
    → Reads bytes (IsPayload n w p) r → Reads bytes (IsPayload n w q) s → (p ≡ q) × (r ≡ s)

-- a text spells one list
abbrev pub OneSpelled : Type 0
OneSpelled = (fs gs : Fields) (text : List ℕ) → Spells fs text → Spells gs text → fs ≡ gs

-- one list ends so at the front of the same bytes, and at one place
abbrev pub OneList : Type 0
OneList =
    (ending : Ending) (fs gs : Fields) (c d : Charge) (l m : Limits) (bytes r s : List ℕ)
    → TakesUntil c l ending fs bytes r → TakesUntil d m ending gs bytes s → (fs ≡ gs) × (r ≡ s)

-- a list that ends with the input is spelled by all of the bytes
abbrev pub WholeInput : Type 0
WholeInput =
    (c : Charge) (l : Limits) (fs : Fields) (bytes new : List ℕ)
    → TakesUntil c l by_input fs bytes new ↔ (Spells fs bytes × Fits c l × (new ≡ []))

-- a list up to the end tag of a group is the payload of that group
abbrev pub GroupIsList : Type 0
GroupIsList =
    (c : Charge) (l : Limits) (n : ℕ) (fs : Fields) (bytes new : List ℕ)
    → TakesUntil c l (by_tag n) fs bytes new
    ↔ (Reads bytes (IsPayload n StartGroup (group fs)) new × Fits c l)

-- ---- lists

abbrev pub JoinedTextsSpell : Type 0
JoinedTextsSpell =
    (fs gs : Fields) (t u : List ℕ) → Spells fs t → Spells gs u → Spells (joined fs gs) (t ++ u)

abbrev pub JoinedAddsUp : Type 0
JoinedAddsUp =
    (fs gs : Fields)
    → (text_of (joined fs gs) ≡ text_of fs ++ text_of gs)
    × (count_top (joined fs gs) ≡ count_top fs + count_top gs)
    × (charge (joined fs gs) ≡ both (charge fs) (charge gs))

-- no record takes nothing; and a record behind others takes what these leave
pub record RecordsOneByOne : Type 0 where
  pub none : (l : Limits) (old : List ℕ) → TakesFields no_charge l Fields.none old old
  pub more : (c d : Charge) (l : Limits) (fs : Fields) (n : ℕ) (w : WireType) (p : Payload)
      (old mid behind new : List ℕ)
      → TakesFields c l fs old mid → Reads mid (IsTagSpelling n w) behind
      → TakesPayload d (left_after l c) n w p behind new
      → TakesFields (both c d) l (push fs n p) old new

-- A list up to its end, from the front: it has no record, or the first one stands where the list
-- goes on, and the others take what it leaves.
pub record RecordsFromTheFront : Type 0 where
  pub ended : (l : Limits) (ending : Ending) (old new : List ℕ) → Ends ending old new
      → TakesUntil no_charge l ending Fields.none old new
  pub more : (c d : Charge) (l : Limits) (ending : Ending) (n : ℕ) (w : WireType) (p : Payload)
      (others : Fields) (old behind next new : List ℕ)
      → GoesOn ending old → Reads old (IsTagSpelling n w) behind
      → TakesPayload d l n w p behind next → TakesUntil c (left_after l d) ending others next new
      → TakesUntil (both d c) l ending (field n p others) old new
  pub none : (c : Charge) (l : Limits) (ending : Ending) (old new : List ℕ)
      → TakesUntil c l ending Fields.none old new → Ends ending old new
  pub first : (c d : Charge) (l : Limits) (ending : Ending) (n : ℕ) (p : Payload)
      (others : Fields) (old new : List ℕ)
      → TakesUntil (both d c) l ending (field n p others) old new
      → (behind : List ℕ) × (next : List ℕ) × GoesOn ending old
      × Reads old (IsTagSpelling n (type_of p)) behind
      × TakesPayload d l n (type_of p) p behind next
      × TakesUntil c (left_after l d) ending others next new

-- ---- the shortest text

abbrev pub ShortestTextSpells : Type 0
ShortestTextSpells = (fs : Fields) → AreFitting fs → AreNumbered fs → Spells fs (text_of fs)

abbrev pub NoTextIsShorter : Type 0
NoTextIsShorter = (fs : Fields) (text : List ℕ) → Spells fs text → length (text_of fs) ≤ length text

-- Nor is another as short, among texts of bytes: of a number above 255, which stands for no byte, a
-- spelling tells only what it is modulo 128.
abbrev pub NoOtherTextIsAsShort : Type 0
NoOtherTextIsAsShort =
    (fs : Fields) (text : List ℕ) → All (λ b. b < 256) text → Spells fs text
    → length text ≡ length (text_of fs) → text ≡ text_of fs

abbrev pub TextSpellsOneList : Type 0
TextSpellsOneList =
    (fs : Fields) → AreFitting fs → AreNumbered fs
    → Spells fs (text_of fs) × ((gs : Fields) → Spells gs (text_of fs) → gs ≡ fs)

-- what is spelled has field numbers that a field may have
abbrev pub SpelledAreNumbered : Type 0
SpelledAreNumbered = (fs : Fields) (text : List ℕ) → Spells fs text → AreNumbered fs

-- a joined list has such numbers exactly where both lists have
abbrev pub NumberedTogether : Type 0
NumberedTogether =
    (fs gs : Fields) → AreNumbered (joined fs gs) ↔ (AreNumbered fs × AreNumbered gs)
