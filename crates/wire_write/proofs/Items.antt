-- The shortest encoding, item by item.
use Rattle.std.proofs.Common.{◌≡◌, ℕ, ◌-◌, ◌^◌, ◌<◌, min, List, [], ◌∷◌, ◌++◌, append-nil, append_assoc, length, Ok, Err, refl, sym, ap, subst, ◌∙◌, arith}
use Rattle.wire_base.specs.declared.error.EncodeError.{EncodeError}
use Rattle.wire_base.specs.declared.tag.WireType.TheVariants.{StartGroup, EndGroup}
use Rattle.wire_base.specs.Charge.{charge}
use Rattle.wire_base.specs.Ending.{by_input}
use Rattle.wire_base.specs.Field.{Payload, varint, fixed64, fixed32, bytes, group, Fields, none, field, type_of}
use Rattle.wire_base.specs.Items.{Item, end}
use Rattle.wire_base.specs.Limits.{Limits}
use Rattle.wire_base.specs.FaultLaws.{NoListBesideFault}
use Rattle.wire_base.specs.RecordLaws.{NoTextIsShorter, WholeInput}
use Rattle.wire_base.specs.Sink.{Held, Writes}
use Rattle.wire_base.specs.Tag.{tag_text}
use Rattle.wire_base.specs.Text.{payload_text, record_text, size, text_of}
use Rattle.wire_base.specs.WriteLaws.{TwoParts}
use Rattle.wire_read.specs.declared.event.Event.{Event}
use Rattle.wire_read.specs.declared.event.Fault.{Fault}
use Rattle.wire_read.specs.declared.reader.Reader.{Reader}
use Rattle.wire_read.specs.Laws.{EventsAreInFront, ReaderGoesOn, ReaderIsDone, ReaderStops}
use Rattle.wire_read.specs.Opened.{items_of, payload_items}
use Rattle.wire_read.specs.Reading.{Gives, IsAt, IsDone, Stops, at, item}
use Rattle.wire_write.specs.Shortest.{SpellsIn, item_text}

abbrev pub items_text : List Item → List ℕ
items_text [] = []
items_text (i ∷ items) = item_text i ++ items_text items

pub items_text-append : (items more : List Item)
    → items_text (items ++ more) ≡ items_text items ++ items_text more
items_text-append [] more = refl
items_text-append (i ∷ items) more =
    ap (λ (t : List ℕ). item_text i ++ t) (items_text-append items more)
    ∙ sym (append_assoc (item_text i) (items_text items) (items_text more))

mutual
  text_of_payload : (n : ℕ) (p : Payload) → items_text (payload_items n p) ≡ record_text n p
  text_of_payload n (varint v) = append-nil _
  text_of_payload n (fixed64 v) = append-nil _
  text_of_payload n (fixed32 v) = append-nil _
  text_of_payload n (bytes b) = append-nil _
  text_of_payload n (group fs) =
      ap (λ (t : List ℕ). tag_text n StartGroup ++ t) (
      items_text-append (items_of fs) (end n ∷ [])
      ∙ ap (λ (t : List ℕ). t ++ (tag_text n EndGroup ++ [])) (text_of_items fs)
      ∙ ap (λ (t : List ℕ). text_of fs ++ t) (append-nil (tag_text n EndGroup))
      )

  -- the items of records have the text of the records
  pub text_of_items : (fs : Fields) → items_text (items_of fs) ≡ text_of fs
  text_of_items none = refl
  text_of_items (field n p fs) =
      items_text-append (payload_items n p) (items_of fs)
      ∙ ap (λ (t : List ℕ). t ++ items_text (items_of fs)) (text_of_payload n p)
      ∙ ap (λ (t : List ℕ). record_text n p ++ t) (text_of_items fs)
      ∙ append_assoc (tag_text n (type_of p)) (payload_text n p) (text_of fs)

-- the text is that of the items so far
pub record Seen (l : Limits) (all : List ℕ) (r : Reader) (text : List ℕ) : Type 0 where
  pub items : List Item
  pub place : IsAt l all items (at r all)
  pub is : text ≡ items_text items

pub seen_more : ReaderGoesOn → (l : Limits) (all : List ℕ) (r t : Reader) (text next : List ℕ)
    (e : Event) → Seen l all r text → Gives e all (at r all) (at t all)
    → next ≡ text ++ item_text (item e.number e.value) → Seen l all t next
seen_more law l all r t text next e h given is =
    let i = item e.number e.value in
    record {
      items = h.items ++ i ∷ [];
      place = law l all h.items i (at r all) (at t all) given.behind h.place given.moves;
      is = is ∙ ap (λ (x : List ℕ). x ++ item_text i) h.is
          ∙ ap (λ (x : List ℕ). items_text h.items ++ x) (sym (append-nil (item_text i)))
          ∙ sym (items_text-append h.items (i ∷ []));
    }

pub all_seen : ReaderIsDone → (l : Limits) (all : List ℕ) (r : Reader) (text : List ℕ)
    → Seen l all r text → IsDone (at r all)
    → (fs : Fields) × SpellsIn l fs all × (text ≡ text_of fs)
all_seen law l all r text h done =
    let (fs, spelled, fits, is) = law l all h.items (at r all) h.place done in (
      fs,
      record { spelled = spelled; fits = fits },
      h.is ∙ ap items_text is ∙ text_of_items fs,
    )

-- of so many bytes, counted as far as 64 bits go, all are counted in the end
pub all_counted : NoTextIsShorter → ReaderIsDone → (l : Limits) (all : List ℕ) (r : Reader)
    (text : List ℕ) (len : ℕ) → Seen l all r text → len ≡ min (length text) (2 ^ 64 - 1)
    → length all < 2 ^ 64 → IsDone (at r all)
    → (fs : Fields) × SpellsIn l fs all × (len ≡ size fs)
all_counted shorter law l all r text len h counted short done =
    let (fs, decodes, is) = all_seen law l all r text h done in
    (fs, decodes, omega (arith, counted, ap length is, shorter fs all decodes.spelled, short))

-- an item that comes next is of the text of all, behind those before it
pub ahead : EventsAreInFront → ReaderGoesOn
    → (l : Limits) (all : List ℕ) (fs : Fields) (r t : Reader) (text : List ℕ)
    (e : Event) → SpellsIn l fs all → Seen l all r text → Gives e all (at r all) (at t all)
    → (rest : List ℕ) × (text_of fs ≡ (text ++ item_text (item e.number e.value)) ++ rest)
ahead front law l all fs r t text e decodes h given =
    let more = seen_more law l all r t text _ e h given refl in
    let on = front l all more.items (at t all) fs more.place decodes.spelled decodes.fits in (
      items_text on.0,
      sym (text_of_items fs) ∙ ap items_text on.1 ∙ items_text-append more.items on.0
          ∙ ap (λ (x : List ℕ). x ++ items_text on.0) (sym more.is),
    )

-- where all of the bytes spell records no fault comes
pub no_stop : ReaderStops → NoListBesideFault → WholeInput
    → (l : Limits) (all : List ℕ) (fs : Fields) (r : Reader) (text : List ℕ)
    (f : Fault) → SpellsIn l fs all → Seen l all r text → Stops f all (at r all) → ⊥
no_stop law beside input l all fs r text f decodes h stops =
    beside l by_input all [] f.error fs
    (law l all h.items (at r all) f h.place stops).0.of_list
    ((input (charge fs) l fs all []).1 (decodes.spelled, decodes.fits, refl))

-- a piece that is refused behind others is of the text of all
pub refused_ahead : TwoParts → (whole text more rest : List ℕ) (old now new : Held)
    (e : EncodeError) → whole ≡ (text ++ more) ++ rest → Writes text old now (Ok tt)
    → Writes more now new (Err e) → Writes whole old new (Err e)
refused_ahead two whole text more rest old now new e is written refused =
    subst (λ (t : List ℕ). Writes t old new (Err e)) (sym is) (two.refused (text ++ more) rest old
    new e (two.behind text more old now new tt (Err e) written refused))
