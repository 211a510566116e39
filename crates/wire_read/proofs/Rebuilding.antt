-- Records from their items.
use Rattle.std.proofs.Common.{◌≡◌, ℕ, List, [], ◌∷◌, ◌++◌, refl, sym, ap, ◌∙◌}
use Rattle.wire_base.specs.Field.{Payload, varint, fixed64, fixed32, bytes, group, Fields, none, field, push, joined}
use Rattle.wire_base.specs.Items.{Item, start, end}
use Rattle.wire_read.specs.Laws.{ItemsTellRecords}
use Rattle.wire_read.specs.Opened.{Group, items_of, payload_items, items_open}
use Rattle.wire_read.specs.Rebuilt.{Records, put, put_all}

put_all-append : (items more : List Item) (r : Records)
    → put_all (items ++ more) r ≡ put_all more (put_all items r)
put_all-append [] more r = refl
put_all-append (i ∷ items) more r = put_all-append items more (put i r)

joined-push : (fs : Fields) (n : ℕ) (p : Payload) (gs : Fields)
    → joined (push fs n p) gs ≡ joined fs (field n p gs)
joined-push none n p gs = refl
joined-push (field m q fs) n p gs = ap (field m q) (joined-push fs n p gs)

joined-none : (fs : Fields) → joined fs none ≡ fs
joined-none none = refl
joined-none (field n p rest) = ap (field n p) (joined-none rest)

abbrev with : List Group → Fields → Records
with levels fs = record { levels = levels; fields = fs }

mutual
  put_payload : (n : ℕ) (p : Payload) (levels : List Group) (fs : Fields)
      → put_all (payload_items n p) (with levels fs) ≡ with levels (push fs n p)
  put_payload n (varint v) levels fs = refl
  put_payload n (fixed64 v) levels fs = refl
  put_payload n (fixed32 v) levels fs = refl
  put_payload n (bytes b) levels fs = refl
  put_payload n (group gs) levels fs =
      let g : Group = record { before = fs; number = n } in
      put_all-append (items_of gs) (end n ∷ []) (with (g ∷ levels) none)
      ∙ ap (put_all (end n ∷ [])) (put_fields gs (g ∷ levels) none)

  put_fields : (gs : Fields) (levels : List Group) (fs : Fields)
      → put_all (items_of gs) (with levels fs) ≡ with levels (joined fs gs)
  put_fields none levels fs = ap (with levels) (sym (joined-none fs))
  put_fields (field n p gs) levels fs =
      put_all-append (payload_items n p) (items_of gs) (with levels fs)
      ∙ ap (put_all (items_of gs)) (put_payload n p levels fs)
      ∙ put_fields gs levels (push fs n p)
      ∙ ap (with levels) (joined-push fs n p gs)

pub items_tell : ItemsTellRecords
items_tell [] fs = put_fields fs [] none
items_tell (g ∷ outside) fs =
    put_all-append (items_open outside g.before) (start g.number ∷ items_of fs) (with [] none)
    ∙ ap (put_all (start g.number ∷ items_of fs)) (items_tell outside g.before)
    ∙ put_fields fs (g ∷ outside) none
