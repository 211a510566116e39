-- Where the value of an event stands.
use Rattle.std.proofs.Common.{◌≡◌, ℕ, ◌+◌, ◌-◌, List, ◌++◌, length, length-append, append_assoc, take, drop, refl, sym, ap, ◌∙◌, arith}
use Rattle.std.proofs.lemmas.List.{drop_at, take_at, take-append-drop}
use Rattle.wire_read.specs.declared.event.Event.{Event}
use Rattle.wire_read.specs.declared.event.Value.{Value}
use Rattle.wire_read.specs.declared.event.Value.TheVariants as values
use Rattle.wire_read.specs.declared.reader.Reader.{Reader}
use Rattle.wire_read.specs.Reading.{At, Gives, Moves, at, item}
use Rattle.wire_c.specs.Read.{HasRange, InPlace, length_in, told_event}

-- bytes between others stand at their range
between : (all front b rest : List ℕ) (end : ℕ) → all ≡ front ++ (b ++ rest)
    → end ≡ length all - length rest
    → ((end - length b) + length b ≡ end) × (take (length b) (drop (end - length b) all) ≡ b)
between all front b rest end parts is =
    let count = ap length parts ∙ length-append front (b ++ rest) in
    let more = length-append b rest in
    let front_len : end - length b ≡ length front = omega (arith, is, count, more) in (
      omega (arith, front_len, is, count, more),
      ap (λ n. take (length b) (drop n all)) front_len
          ∙ ap (λ (l : List ℕ). take (length b) (drop (length front) l)) parts
          ∙ ap (take (length b)) (drop_at front (b ++ rest) (length front) refl)
          ∙ take_at b rest (length b) refl,
    )

-- the value ends where the event does, and a payload stands at its range
ranged : (all front : List ℕ) (s t : At) (behind : List ℕ) (n end payload : ℕ) (v : Value)
    → all ≡ front ++ s.rest → Moves (item n v) s behind t → end ≡ length all - length t.rest
    → ((end - length_in v (end - payload)) + length_in v (end - payload) ≡ end)
    × InPlace all v (end - length_in v (end - payload)) (length_in v (end - payload))
ranged all front s t behind n end payload (values.Varint x) parts move is = (omega arith, tt)
ranged all front s t behind n end payload (values.Fixed64 x) parts move is = (omega arith, tt)
ranged all front s t behind n end payload (values.Fixed32 x) parts move is = (omega arith, tt)
ranged all front s t behind n end payload values.GroupStart parts move is = (omega arith, tt)
ranged all front s t behind n end payload values.GroupEnd parts move is = (omega arith, tt)
ranged all front s t behind n end payload (values.Bytes b) parts
    (tag, taken, flat, groups, left) is =
    let text = taken.read.spelled.spelled in
    between all (front ++ (tag.text ++ text.text)) b.now t.rest end (
    parts
    ∙ ap (λ (l : List ℕ). front ++ l) (
    tag.parts
    ∙ ap (λ (l : List ℕ). tag.text ++ l) (
    taken.read.parts
    ∙ ap (λ (l : List ℕ). l ++ t.rest) text.parts
    ∙ append_assoc text.text b.now t.rest
    )
    ∙ sym (append_assoc tag.text text.text (b.now ++ t.rest))
    )
    ∙ sym (append_assoc front (tag.text ++ text.text) (b.now ++ t.rest))
    ) is

pub has_range : (all : List ℕ) (r t : Reader) (e : Event) → Gives e all (at r all) (at t all)
    → HasRange all e (told_event e)
has_range all r t e given =
    let both = ranged all (take r.place all) (at r all) (at t all) given.behind e.number e.end
    e.payload e.value (sym (take-append-drop r.place all)) given.moves given.end in
    record { ends = both.0; inside = omega (arith, given.end); in_place = both.1 }
