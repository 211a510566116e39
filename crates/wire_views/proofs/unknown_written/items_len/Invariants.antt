use Rattle.std.proofs.Common.{◌≡◌, ◌∷◌, ℕ, ◌+◌, ◌^◌, ◌<◌, List, length}
use Rattle.wire_base.specs.Items.{Item, SpellsItems}
use Rattle.wire_codec.specs.TagView.{tag_number, tag_type}
use Rattle.wire_fields.specs.Numbers.{in_64_bits}
use Rattle.wire_views.specs.Tokens.{IsLeftOf, shortest_items}
use Rattle.wire_views.proofs.unknown_written.items_len.Given as goal

-- the items so far are counted, and those that are left come next
abbrev pub invariant-loop-buf : goal.invariant-loop-buf
invariant-loop-buf l = record {
  fits : l.size < 2 ^ 64;
  counted : (item : Item) (items : List Item) (rest : List ℕ)
      → IsLeftOf (tag_number l.fn.tag) (tag_type l.fn.tag) item l.fn.payload rest
      → SpellsItems items rest
      → (left : List Item) × SpellsItems left l.buf
      × (in_64_bits (l.size + length (shortest_items left))
      ≡ in_64_bits (length (shortest_items (item ∷ items))));
}

abbrev pub decreases-loop-buf : goal.decreases-loop-buf
decreases-loop-buf l = length l.buf
