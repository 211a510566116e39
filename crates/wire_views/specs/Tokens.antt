-- What stands between two tags of records, and the shortest text of items.
use Rattle.std.specs.Prelude.{◌≡◌, ◌≢◌, ℕ, List, [], ◌∷◌, ◌++◌}
use Rattle.wire_base.specs.Field.{varint, fixed64, fixed32, bytes, type_of}
use Rattle.wire_base.specs.Items.{Item, start, end, whole}
use Rattle.wire_base.specs.Read.{Reads}
use Rattle.wire_base.specs.Spells.{IsPayload}
use Rattle.wire_base.specs.Tag.{tag_text}
use Rattle.wire_base.specs.Text.{record_text}
use Rattle.wire_base.specs.declared.tag.WireType.{WireType}
use Rattle.wire_base.specs.declared.tag.WireType.TheVariants.{StartGroup, EndGroup}
use Rattle.wire_views.specs.declared.token.Token.{Token}
use Rattle.wire_views.specs.declared.token.Token.TheVariants as tokens

-- the shortest text of an item, and of items one after another
abbrev pub shortest_item : Item → List ℕ
shortest_item (start n) = tag_text n StartGroup
shortest_item (end n) = tag_text n EndGroup
shortest_item (whole n p) = record_text n p

abbrev pub shortest_items : List Item → List ℕ
shortest_items [] = []
shortest_items (i ∷ items) = shortest_item i ++ shortest_items items

-- the item of a number that has this behind its tag
abbrev pub token_item : ℕ → Token → Item
token_item n (tokens.Varint v) = whole n (varint v)
token_item n (tokens.Fixed64 v) = whole n (fixed64 v)
token_item n (tokens.Bytes b) = whole n (bytes b.now)
token_item n tokens.GroupStart = start n
token_item n tokens.GroupEnd = end n
token_item n (tokens.Fixed32 v) = whole n (fixed32 v)

-- behind a tag (n, w) what is left of an item stands at the front of old, and new is what follows
abbrev pub IsLeftOf : ℕ → WireType → Item → List ℕ → List ℕ → Type 0
IsLeftOf n w (start m) old new = (m ≡ n) × (w ≡ StartGroup) × (new ≡ old)
IsLeftOf n w (end m) old new = (m ≡ n) × (w ≡ EndGroup) × (new ≡ old)
IsLeftOf n w (whole m p) old new =
    (m ≡ n) × (type_of p ≢ StartGroup) × Reads old (IsPayload n w p) new
