-- Records put together again from items.
use Rattle.std.specs.Prelude.{List, [], ◌∷◌}
use Rattle.wire_base.specs.Field.{Fields, none, group, push}
use Rattle.wire_base.specs.Items.{Item, start, end, whole}
use Rattle.wire_read.specs.Opened.{Group}

-- the open groups, the innermost first, and the records of the innermost open list
pub record Records : Type 0 where
  pub levels : List Group
  pub fields : Fields

-- an end tag closes the innermost group; one outside of a group is passed over
abbrev pub closed : List Group → Fields → Records
closed [] fs = record { levels = []; fields = fs }
closed (g ∷ outside) fs =
    record { levels = outside; fields = push g.before g.number (group fs) }

-- one item more
abbrev pub put : Item → Records → Records
put (start n) r =
    record { levels = record { before = r.fields; number = n } ∷ r.levels; fields = none }
put (end n) r = closed r.levels r.fields
put (whole n p) r = record { levels = r.levels; fields = push r.fields n p }

abbrev pub put_all : List Item → Records → Records
put_all [] r = r
put_all (i ∷ items) r = put_all items (put i r)

-- the records of items
abbrev pub rebuilt : List Item → Records
rebuilt items = put_all items (record { levels = []; fields = none })
