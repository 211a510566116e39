-- Items that are shortened where they stand.
use Rattle.std.proofs.Common.{◌≡◌, ℕ, ◌+◌, ◌-◌, ◌≤◌, List, [], ◌∷◌, ◌++◌, length, take, drop, refl, sym, ap, subst, ◌∙◌, append-nil, append_assoc, length-append, length-drop, take-append-drop, arith}
use Rattle.std.specs.List.{copy_within}
use Rattle.std.proofs.lemmas.List.{drop_at, drop-drop, length-take-le, take_at}
use Rattle.wire_base.specs.declared.tag.WireType.TheVariants.{StartGroup, EndGroup, LengthDelimited}
use Rattle.wire_base.specs.Field.{none, field, type_of, bytes}
use Rattle.wire_base.specs.Items.{Item, start, end, whole}
use Rattle.wire_base.specs.Limits.{Limits}
use Rattle.wire_base.specs.RecordLaws.{NoTextIsShorter}
use Rattle.wire_base.specs.Spells.{Spells}
use Rattle.wire_base.specs.TagLaws.{NoTagTextIsShorter}
use Rattle.wire_base.specs.Text.{payload_text, record_text, text_of}
use Rattle.wire_base.specs.Tag.{tag_text}
use Rattle.wire_base.specs.Varint.{shortest_varint}
use Rattle.wire_base.specs.WriteLaws.{FillsSlice}
use Rattle.wire_read.specs.declared.event.Value.{Value}
use Rattle.wire_read.specs.declared.event.Value.TheVariants as values
use Rattle.wire_read.specs.declared.reader.Reader.{Reader}
use Rattle.wire_read.specs.Laws.{ReaderGoesOn, ReaderIsDone}
use Rattle.wire_read.specs.Reading.{At, IsAt, IsDone, Moves, at, facing, item, place_of}
use Rattle.wire_write.specs.Shortest.{item_text}
use Rattle.wire_write.proofs.Items.{items_text, items_text-append, text_of_items}
use Rattle.wire_min.specs.declared.shorten.Kind.{Kind}
use Rattle.wire_min.specs.declared.shorten.Kind.TheVariants as kinds
use Rattle.wire_min.specs.declared.shorten.Taken.{Taken}
use Rattle.wire_min.specs.Run.{IsShortest, run_limits}
use Rattle.wire_min.specs.Shorten.{Takes, head_text, item_of, read_kind, payload_len}

-- ---- a text in the stead of others

module _ (text old new : List ℕ) (place behind : ℕ) (h : FillsSlice text place old new behind) where
  front_length : length (take place old ++ text) ≡ place + length text
  front_length =
      length-append (take place old) text
      ∙ ap (λ (n : ℕ). n + length text) (length-take-le place old (omega (arith, h.room)))

  pub take_filled : take behind new ≡ take place old ++ text
  take_filled =
      ap (λ (x : List ℕ). take behind x) h.written
      ∙ take_at (take place old ++ text) (drop (place + length text) old) behind
      (front_length ∙ sym h.moved)

  pub drop_filled : (n : ℕ) → place + length text ≤ n → drop n new ≡ drop n old
  drop_filled n past =
      let m = place + length text in
      let k = n - m in
      let parts : m + k ≡ n = omega (arith, past) in
      let front = take place old ++ text in
      ap (λ (x : List ℕ). drop n x) h.written
      ∙ ap (λ (x : ℕ). drop x (front ++ drop m old)) (sym parts)
      ∙ sym (drop-drop k m (front ++ drop m old))
      ∙ ap (λ (x : List ℕ). drop k x) (drop_at front (drop m old) m front_length)
      ∙ drop-drop k m old ∙ ap (λ (x : ℕ). drop x old) parts

  pub length_filled : length new ≡ length old
  length_filled =
      omega (
        arith,
        ap length h.written,
        front_length,
        length-append (take place old ++ text) (drop (place + length text) old),
        length-drop (place + length text) old,
        h.room,
      )

-- a payload is moved behind its head
pub moved_behind : (head old mid new : List ℕ) (place behind last count : ℕ)
    → FillsSlice head place old mid behind → place + (length head + count) ≤ last
    → last ≤ length old → new ≡ copy_within mid (last - count) last behind
    → FillsSlice (head ++ take count (drop (last - count) old)) place old new (behind + count)
moved_behind head old mid new place behind last count h room within is =
    let from = last - count in
    let payload = take count (drop from old) in
    let long : length payload ≡ count =
    length-take-le count (drop from old) (omega (arith, length-drop from old, room, within)) in
    let both : length (head ++ payload) ≡ length head + count =
    length-append head payload ∙ ap (λ (n : ℕ). length head + n) long in
    let moved = take (last - from) (drop from mid) in
    let rest = drop (behind + (last - from)) mid in
    let moved_is : moved ≡ payload =
    ap (λ (x : List ℕ). take (last - from) x)
    (drop_filled head old mid place behind h from (omega (arith, room)))
    ∙ ap (λ (n : ℕ). take n (drop from old)) (omega (arith, room)) in
    let past : behind + (last - from) ≡ place + length (head ++ payload) =
    omega (arith, h.moved, both, room) in
    let rest_is : rest ≡ drop (place + length (head ++ payload)) old =
    drop_filled head old mid place behind h (behind + (last - from)) (omega (arith, h.moved))
    ∙ ap (λ (n : ℕ). drop n old) past in
    record {
      room = omega (arith, both, room, within);
      moved = omega (arith, both, h.moved);
      written = is
          ∙ ap (λ (x : List ℕ). x ++ moved ++ rest) (take_filled head old mid place behind h)
          ∙ ap (λ (x : List ℕ). (take place old ++ head) ++ x ++ rest) moved_is
          ∙ ap (λ (x : List ℕ). (take place old ++ head) ++ payload ++ x) rest_is
          ∙ ap (λ (x : List ℕ). x ++ drop (place + length (head ++ payload)) old)
          (append_assoc (take place old) head payload);
    }

-- bytes that are copied onto themselves stay
pub copied_onto : (xs : List ℕ) (i j : ℕ) → copy_within xs i j i ≡ xs
copied_onto xs i j =
    let count = j - i in
    append_assoc (take i xs) (take count (drop i xs)) (drop (i + count) xs)
    ∙ ap (λ (x : List ℕ). take i xs ++ (take count (drop i xs) ++ x)) (sym (drop-drop count i xs))
    ∙ ap (λ (x : List ℕ). take i xs ++ x) (take-append-drop count (drop i xs))
    ∙ take-append-drop i xs

-- ---- items

-- the shortest text of an item is no longer than what was taken
pub no_longer : NoTagTextIsShorter → NoTextIsShorter → (i : Item) (s t : At) (behind : List ℕ)
    → Moves i s behind t → length (item_text i) + length t.rest ≤ length s.rest
no_longer tag text (start n) s t behind (opens, is, groups, limits) =
    omega (
      arith,
      tag n StartGroup opens.tag.text opens.tag.spelled,
      ap length opens.tag.parts ∙ length-append opens.tag.text t.rest,
    )
no_longer tag text (end n) s t behind (read, is, groups, limits) =
    omega (
      arith,
      tag n EndGroup read.text read.spelled,
      ap length read.parts ∙ length-append read.text t.rest,
    )
no_longer tag text (whole n p) s t behind (read, taken, flat, groups, left) =
    let payload = taken.read in
    let spelled : Spells (field n p none) (read.text ++ payload.text) = (
      payload.text,
      [],
      record { text = read.text; parts = refl; spelled = read.spelled },
      record {
        text = payload.text;
        parts = sym (append-nil payload.text);
        spelled = payload.spelled.spelled;
      },
      refl,
    ) in
    let same : record_text n p ≡ text_of (field n p none) =
    ap (λ (x : List ℕ). tag_text n (type_of p) ++ x) (sym (append-nil (payload_text n p))) in
    omega (
      arith,
      text (field n p none) (read.text ++ payload.text) spelled,
      ap length same,
      length-append read.text payload.text,
      ap length read.parts ∙ length-append read.text behind,
      ap length payload.parts ∙ length-append payload.text t.rest,
    )

-- a payload is the last of what was taken
payload_last : (n : ℕ) (b : List ℕ) (s t : At) (behind : List ℕ)
    → Moves (whole n (bytes b)) s behind t
    → (head : List ℕ) × (s.rest ≡ head ++ (b ++ t.rest))
payload_last n b s t behind (read, taken, flat, groups, left) =
    let payload = taken.read in
    let inner = payload.spelled.spelled in (
      read.text ++ inner.text,
      read.parts
          ∙ ap (λ (x : List ℕ). read.text ++ x) (payload.parts
          ∙ ap (λ (x : List ℕ). x ++ t.rest) inner.parts ∙ append_assoc inner.text b t.rest)
          ∙ sym (append_assoc read.text inner.text (b ++ t.rest)),
    )

-- so it stands before the end of all that was taken
payload_before : (all front b rest : List ℕ) (last : ℕ) → all ≡ front ++ (b ++ rest)
    → last ≡ place_of all rest
    → (length b ≤ last) × (take (length b) (drop (last - length b) all) ≡ b)
payload_before all front b rest last parts is =
    let place : last ≡ length front + length b =
    omega (
      arith,
      is,
      ap length parts ∙ length-append front (b ++ rest),
      length-append b rest,
    ) in
    let from : last - length b ≡ length front = omega (arith, place) in (
      omega (arith, place),
      ap (λ (x : List ℕ). take (length b) (drop (last - length b) x)) parts
          ∙ ap (λ (x : List ℕ). take (length b) x)
          (drop_at front (b ++ rest) (last - length b) (sym from))
          ∙ take_at b rest (length b) refl,
    )

-- what a reader gives, with its payload by its length
pub taken_from : (n : ℕ) (v : Value) (all front : List ℕ) (s t : At) (behind : List ℕ) (last : ℕ)
    → all ≡ front ++ s.rest → Moves (item n v) s behind t → last ≡ place_of all t.rest
    → Takes (record { number = n; kind = read_kind v; end = last }) all s t
taken_from n (values.Bytes b) all front s t behind last parts moves is =
    let (head, at_rest) = payload_last n b.now s t behind moves in
    let all_parts : all ≡ (front ++ head) ++ (b.now ++ t.rest) =
    parts ∙ ap (λ (x : List ℕ). front ++ x) at_rest
    ∙ sym (append_assoc front head (b.now ++ t.rest)) in
    let (count, cut) = payload_before all (front ++ head) b.now t.rest last all_parts is in
    record {
      behind = behind;
      moves = subst (λ (x : List ℕ). Moves (whole n (bytes x)) s behind t) (sym cut) moves;
      payload = count;
      end = is;
    }
taken_from n v all front s t behind last parts moves is =
    record { behind = behind; moves = moves; payload = omega arith; end = is }

-- ---- a payload, by its length

-- it is moved behind its tag and its length
payload_moved : (n count last place behind : ℕ) (old mid new : List ℕ)
    → FillsSlice (head_text n (kinds.Bytes count)) place old mid behind → count ≤ last
    → place + length (record_text n (bytes (take count (drop (last - count) old)))) ≤ last
    → last ≤ length old → new ≡ copy_within mid (last - count) last behind
    → FillsSlice (record_text n (bytes (take count (drop (last - count) old)))) place old new
    (behind + count)
payload_moved n count last place behind old mid new h few room within is =
    let head = head_text n (kinds.Bytes count) in
    let from = drop (last - count) old in
    let payload = take count from in
    let long : length payload ≡ count =
    length-take-le count from (omega (arith, length-drop (last - count) old, few, within)) in
    let parts : record_text n (bytes payload) ≡ head ++ payload =
    ap (λ (x : ℕ). tag_text n LengthDelimited ++ (shortest_varint x ++ payload)) long
    ∙ sym (append_assoc (tag_text n LengthDelimited) (shortest_varint count) payload) in
    let fits : place + (length head + count) ≤ last =
    omega (arith, ap length parts, length-append head payload, long, room) in
    subst (λ (x : List ℕ). FillsSlice x place old new (behind + count)) (sym parts)
    (moved_behind head old mid new place behind last count h fits within is)

pub item_moved : (t : Taken) (count place behind : ℕ) (old mid new : List ℕ)
    → t.kind ≡ kinds.Bytes count → FillsSlice (head_text t.number t.kind) place old mid behind
    → payload_len t.kind ≤ t.end → place + length (item_text (item_of t old)) ≤ t.end
    → t.end ≤ length old → new ≡ copy_within mid (t.end - count) t.end behind
    → FillsSlice (item_text (item_of t old)) place old new (behind + count)
item_moved t count place behind old mid new is h few room within copied =
    let P : Kind → Type 0 = λ k. FillsSlice (head_text t.number k) place old mid behind
    → payload_len k ≤ t.end
    → place + length (item_text (item_of (record t { kind = k }) old)) ≤ t.end
    → FillsSlice (item_text (item_of (record t { kind = k }) old)) place old new (behind + count) in
    let moved : P (kinds.Bytes count) = λ fills less fits.
    payload_moved t.number count t.end place behind old mid new fills less fits within copied in
    subst P (sym is) moved h few room

-- ---- the items so far

-- The shortest text of the items so far is the front of what the bytes are now, and what is left of
-- them is as it was.
pub record Sofar (l : Limits) (all now : List ℕ) (r : Reader) (len : ℕ) : Type 0 where
  pub items : List Item
  pub place : IsAt l all items (at r now)
  pub is : take len now ≡ items_text items
  pub within : len + length (drop r.place now) ≤ length now

-- an item more, whose text is written behind those before it
module _ (tag : NoTagTextIsShorter) (text : NoTextIsShorter) (l : Limits) (all now : List ℕ)
    (r t : Reader) (len : ℕ) (taken : Taken) (h : Sofar l all now r len)
    (takes : Takes taken now (at r now) (at t now)) where
  fits : length (item_text (item_of taken now)) + length (drop t.place now)
      ≤ length (drop r.place now)
  fits = no_longer tag text (item_of taken now) (at r now) (at t now) takes.behind takes.moves

  pub has_room : len + length (item_text (item_of taken now)) ≤ taken.end
  has_room = omega (arith, h.within, fits, takes.end)

  module _ (new : List ℕ) (behind : ℕ)
      (fills : FillsSlice (item_text (item_of taken now)) len now new behind) where
    pub same_rest : drop t.place new ≡ drop t.place now
    same_rest =
        drop_filled (item_text (item_of taken now)) now new len behind fills t.place
        (omega (arith, h.within, fits, length-drop t.place now))

    pub one_more : ReaderGoesOn → Sofar l all new t behind
    one_more law =
        let i = item_of taken now in
        let more = item_text i in
        let place = law l all h.items i (at r now) (at t now) takes.behind h.place takes.moves in
        record {
          items = h.items ++ i ∷ [];
          place = subst (λ (x : List ℕ). IsAt l all (h.items ++ i ∷ []) (facing t x))
              (sym same_rest) place;
          is = take_filled more now new len behind fills
              ∙ ap (λ (x : List ℕ). x ++ more) h.is
              ∙ ap (λ (x : List ℕ). items_text h.items ++ x) (sym (append-nil more))
              ∙ sym (items_text-append h.items (i ∷ []));
          within = omega (
            arith,
            h.within,
            fits,
            fills.moved,
            ap length same_rest,
            length_filled more now new len behind fills,
          );
        }

-- at the end they are the items of all
pub all_shortened : ReaderIsDone → (all now : List ℕ) (r : Reader) (len : ℕ)
    → Sofar run_limits all now r len → IsDone (at r now) → IsShortest all (take len now)
all_shortened law all now r len h done =
    let (fs, spelled, fits, is) = law run_limits all h.items (at r now) h.place done in
    record {
      fields = fs;
      taken = record {
        read = record { text = all; parts = sym (append-nil all); spelled = spelled };
        fits = fits;
      };
      shortest = h.is ∙ ap items_text is ∙ text_of_items fs;
    }
