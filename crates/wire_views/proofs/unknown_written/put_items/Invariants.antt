use Rattle.std.proofs.Common.{◌∷◌, ℕ, List, length}
use Rattle.wire_base.specs.Items.{Item, SpellsItems}
use Rattle.wire_codec.specs.TagView.{tag_number, tag_type}
use Rattle.wire_codec.specs.Writes.{IsWrittenTo}
use Rattle.wire_views.specs.Tokens.{IsLeftOf, shortest_items}
use Rattle.wire_views.proofs.unknown_written.put_items.Given as goal

-- the items so far are written, and those that are left come next
abbrev pub invariant-loop-buf : goal.invariant-loop-buf
invariant-loop-buf g l =
    (item : Item) (items : List Item) (rest : List ℕ)
    → IsLeftOf (tag_number l.fn.tag) (tag_type l.fn.tag) item l.fn.payload rest
    → SpellsItems items rest
    → (left : List Item) × SpellsItems left l.buf
    × IsWrittenTo (shortest_items (item ∷ items)) (g.S.EncodeSink.held l.fn.sink)
    (g.S.EncodeSink.held l.sink) (shortest_items left)

abbrev pub decreases-loop-buf : goal.decreases-loop-buf
decreases-loop-buf g l = length l.buf
