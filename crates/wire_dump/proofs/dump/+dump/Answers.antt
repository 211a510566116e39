use Rattle.std.proofs.Common.{◌≡◌, ℕ, ◌+◌, ◌-◌, ◌^◌, ◌<◌, List, [], ◌++◌, length, arith, rules}
use Rattle.std.proofs.lemmas.Result.{on_ok_weaker}
use Rattle.std.proofs.Common.{true, false, nat_eq, Err, refl, ◌∷◌, subst, sym, ap, ◌∙◌, take, drop, length-drop}
use Rattle.std.proofs.lemmas.List.{length-take-le}
use Rattle.std.proofs.lemmas.Result.{IfOk-weaker, err_from_is_err_and}
use Rattle.wire_base.specs.Field.{Fields, bytes}
use Rattle.wire_base.specs.Limits.{uncounted}
use Rattle.wire_base.specs.Spells.{Spells}
use Rattle.wire_read.specs.Reading.{At, Gives, IsAt, IsDone, Stops, at, groups_of, item, limits_in}
use Rattle.wire_read.specs.declared.event.Fault.{Fault}
use Rattle.wire_dump.specs.declared.layout.Layout.{Layout}
use Rattle.wire_dump.specs.declared.stop.Stop.TheVariants as stops
use Rattle.wire_dump.specs.Dumped.{IsDumped, ItemLines, Prints, RecordLines, further_in}
use Rattle.wire_dump.specs.Front.{IsNoGuess, PrintsRecord}
use Rattle.wire_dump.specs.Lines.{end_line, fixed_line, number_line, opening, string_line}
use Rattle.wire_dump.specs.Places.{range_text}
use Rattle.wire_dump.proofs.Front.{front_and_rest, front_begun, front_more, front_no_guess, from_place, nothing_begins, payload_taken, stands}
use Rattle.wire_dump.proofs.Put.{IsMargin, line_put, number_lines, eight_lines, four_lines, start_lines, end_lines, no_budget, no_bytes, no_records, message_put, no_guess_begins, no_guess_put}
use Rattle.wire_dump.proofs.Texts.{cut_out, event_text}
use Rattle.wire_dump.proofs.Walk.{begun, counted_open, few_open, finished, next_item, stopped}
use Rattle.wire_dump.proofs.dump.+dump.Goals as goal

pub put_item-returns-in-Varint : goal.put_item-returns-in-Varint
put_item-returns-in-Varint t c =
    let y = c.args.layout in
    let count = c.args.count in
    let n = c.args.event.now.number in
    let v = c.args.event.now.value in
    let text = c.args.text.now in
    let level = c.inside-inside.result.level in
    let at_level = ap (λ (z : Layout). z.level) c.inside-inside.ensures in
    let is : IsMargin y c.args.place (c.args.place + length text) c.margin-margin.result = record {
      shown = c.margin-margin.ensures.shown;
      start = c.margin-margin.ensures.start;
      end_is = c.margin-margin.ensures.end;
    } in
    on_ok_weaker c.put_number.result
    (line_put y c.args.place c.margin-margin.result text
    (number_line level n c.in-Varint.value) c.args.out.now.items
    c.put_number.new.out.items (ItemLines y count (item n v) text)
    (number_lines y count level n c.in-Varint.value v text at_level
    c.in-Varint.is c.requires.is) is)
    c.put_number.ensures

pub put_item-returns-in-Fixed64 : goal.put_item-returns-in-Fixed64
put_item-returns-in-Fixed64 t c =
    let y = c.args.layout in
    let count = c.args.count in
    let n = c.args.event.now.number in
    let v = c.args.event.now.value in
    let text = c.args.text.now in
    let level = c.inside-inside.result.level in
    let at_level = ap (λ (z : Layout). z.level) c.inside-inside.ensures in
    let is : IsMargin y c.args.place (c.args.place + length text) c.margin-margin.result = record {
      shown = c.margin-margin.ensures.shown;
      start = c.margin-margin.ensures.start;
      end_is = c.margin-margin.ensures.end;
    } in
    on_ok_weaker c.put_fixed.result
    (line_put y c.args.place c.margin-margin.result text
    (fixed_line level n 16 c.in-Fixed64.value) c.args.out.now.items
    c.put_fixed.new.out.items (ItemLines y count (item n v) text)
    (eight_lines y count level n c.in-Fixed64.value v text at_level
    c.in-Fixed64.is c.requires.is) is)
    c.put_fixed.ensures

pub put_item-returns-in-Fixed32 : goal.put_item-returns-in-Fixed32
put_item-returns-in-Fixed32 t c =
    let y = c.args.layout in
    let count = c.args.count in
    let n = c.args.event.now.number in
    let v = c.args.event.now.value in
    let text = c.args.text.now in
    let level = c.inside-inside.result.level in
    let at_level = ap (λ (z : Layout). z.level) c.inside-inside.ensures in
    let is : IsMargin y c.args.place (c.args.place + length text) c.margin-margin.result = record {
      shown = c.margin-margin.ensures.shown;
      start = c.margin-margin.ensures.start;
      end_is = c.margin-margin.ensures.end;
    } in
    on_ok_weaker c.put_fixed-in-Fixed32.result
    (line_put y c.args.place c.margin-margin.result text
    (fixed_line level n 8 c.in-Fixed32.value) c.args.out.now.items
    c.put_fixed-in-Fixed32.new.out.items (ItemLines y count (item n v) text)
    (four_lines y count level n c.in-Fixed32.value v text at_level
    c.in-Fixed32.is c.requires.is) is)
    c.put_fixed-in-Fixed32.ensures

pub put_item-returns-in-GroupStart : goal.put_item-returns-in-GroupStart
put_item-returns-in-GroupStart t c =
    let y = c.args.layout in
    let count = c.args.count in
    let n = c.args.event.now.number in
    let v = c.args.event.now.value in
    let text = c.args.text.now in
    let outside = y.level + c.saturating_sub.result in
    let at_outside : outside ≡ y.level + (count - 1) = search rules in
    let is : IsMargin y c.args.place (c.args.place + length text) c.margin-margin.result = record {
      shown = c.margin-margin.ensures.shown;
      start = c.margin-margin.ensures.start;
      end_is = c.margin-margin.ensures.end;
    } in
    on_ok_weaker c.put_opening.result
    (line_put y c.args.place c.margin-margin.result text
    (opening outside n) c.args.out.now.items
    c.put_opening.new.out.items (ItemLines y count (item n v) text)
    (start_lines y count outside n v text at_outside c.in-GroupStart.is) is)
    c.put_opening.ensures

pub put_item-returns-in-GroupEnd : goal.put_item-returns-in-GroupEnd
put_item-returns-in-GroupEnd t c =
    let y = c.args.layout in
    let count = c.args.count in
    let n = c.args.event.now.number in
    let v = c.args.event.now.value in
    let text = c.args.text.now in
    let level = c.inside-inside.result.level in
    let at_level = ap (λ (z : Layout). z.level) c.inside-inside.ensures in
    let is : IsMargin y c.args.place (c.args.place + length text) c.margin-margin.result = record {
      shown = c.margin-margin.ensures.shown;
      start = c.margin-margin.ensures.start;
      end_is = c.margin-margin.ensures.end;
    } in
    on_ok_weaker c.put_closing.result
    (line_put y c.args.place c.margin-margin.result text
    (end_line level) c.args.out.now.items
    c.put_closing.new.out.items (ItemLines y count (item n v) text)
    (end_lines y count level n v text at_level c.in-GroupEnd.is) is)
    c.put_closing.ensures

-- ---- payloads

nat_eq-true : (a b : ℕ) → nat_eq a b ≡ true → a ≡ b
nat_eq-true a b e = grind arith

nothing_in : (xs : List ℕ) → length xs ≡ 0 → xs ≡ []
nothing_in [] e = refl
nothing_in (x ∷ xs) e = absurd (omega arith)

pub put_payload-returns-then-layout-eq0 : goal.put_payload-returns-then-layout-eq0
put_payload-returns-then-layout-eq0 t c =
    let y = c.args.layout in
    let n = c.args.number in
    let text = c.args.text.now in
    let payload = c.args.payload.now in
    let old = c.args.out.now.items in
    let is : IsMargin y c.args.place (c.args.place + length text) c.margin-whole.result = record {
      shown = c.margin-whole.ensures.shown;
      start = c.margin-whole.ensures.start;
      end_is = c.margin-whole.ensures.end;
    } in
    on_ok_weaker c.put_string.result
    (line_put y c.args.place c.margin-whole.result text (string_line y.level n payload) old
    c.put_string.new.out.items (RecordLines y n (bytes payload) text)
    (no_budget y n payload text c.if-layout-eq0.true c.requires.is) is)
    c.put_string.ensures

pub put_payload-returns-then-is_empty : goal.put_payload-returns-then-is_empty
put_payload-returns-then-is_empty t c =
    let y = c.args.layout in
    let n = c.args.number in
    let text = c.args.text.now in
    let payload = c.args.payload.now in
    let old = c.args.out.now.items in
    let is : IsMargin y c.args.place (c.args.place + length text) c.margin-whole.result = record {
      shown = c.margin-whole.ensures.shown;
      start = c.margin-whole.ensures.start;
      end_is = c.margin-whole.ensures.end;
    } in
    let empty : c.is_empty.result ≡ true = search rules in
    let zero : length payload ≡ 0 =
    nat_eq-true (length payload) 0 (sym c.is_empty.ensures ∙ empty) in
    on_ok_weaker c.put_string-then-is_empty.result
    (line_put y c.args.place c.margin-whole.result text (string_line y.level n payload) old
    c.put_string-then-is_empty.new.out.items (RecordLines y n (bytes payload) text)
    (no_bytes y n payload text (nothing_in payload zero) c.requires.is) is)
    c.put_string-then-is_empty.ensures

pub put_payload-returns-then-begins_no_record : goal.put_payload-returns-then-begins_no_record
put_payload-returns-then-begins_no_record t c =
    let y = c.args.layout in
    let n = c.args.number in
    let text = c.args.text.now in
    let payload = c.args.payload.now in
    let old = c.args.out.now.items in
    let is : IsMargin y c.args.place (c.args.place + length text) c.margin-whole.result = record {
      shown = c.margin-whole.ensures.shown;
      start = c.margin-whole.ensures.start;
      end_is = c.margin-whole.ensures.end;
    } in
    let never : (fs : Fields) → Spells fs payload → ⊥ = search rules in
    on_ok_weaker c.put_string-then-begins_no_record.result
    (line_put y c.args.place c.margin-whole.result text (string_line y.level n payload) old
    c.put_string-then-begins_no_record.new.out.items (RecordLines y n (bytes payload) text)
    (no_records y n payload text never c.requires.is) is)
    c.put_string-then-begins_no_record.ensures

pub put_message-returns-then-is_message : goal.put_message-returns-then-is_message
put_message-returns-then-is_message t c =
    let y = c.args.layout in
    let text = c.args.text.now in
    let payload = c.args.payload.now in
    let end = c.args.place + length text in
    let inner = end - length payload in
    let levels = uncounted (y.budget - 1 + 1) in
    let old = c.args.out.now.items in
    let mid = c.put_opening.new.out.items in
    let first : IsMargin y c.args.place inner c.margin.result = record {
      shown = c.margin.ensures.shown;
      start = c.margin.ensures.start;
      end_is = c.margin.ensures.end;
    } in
    let last : IsMargin y end end c.margin-then-is_message.result = record {
      shown = c.margin-then-is_message.ensures.shown;
      start = c.margin-then-is_message.ensures.start;
      end_is = c.margin-then-is_message.ensures.end;
    } in
    let put = c.put_guess.new.out.items in
    let given : IsDumped c.inside.result inner
    (uncounted (c.inside.result.budget + 1)) payload mid put =
    c.in_ok-is_message.ensures.message (search rules) in
    let dumped : IsDumped (further_in 1 y) inner levels payload mid put =
    subst (λ (z : Layout). IsDumped z inner (uncounted (z.budget + 1)) payload mid put)
    c.inside.ensures given in
    on_ok_weaker c.put_closing.result
    (message_put y c.args.number c.args.place inner end levels payload text old mid put
    c.put_closing.new.out.items c.margin.result c.margin-then-is_message.result c.requires.some
    c.requires.full refl c.requires.is refl refl first last c.in_ok-put_opening.ensures dumped)
    c.put_closing.ensures

pub put_message-returns : goal.put_message-returns
put_message-returns t c =
    let y = c.args.layout in
    let n = c.args.number in
    let text = c.args.text.now in
    let payload = c.args.payload.now in
    let old = c.args.out.now.items in
    let mid = c.put_opening.new.out.items in
    let put = c.put_guess.new.out.items in
    let is : IsMargin y c.args.place (c.args.place + length text) c.margin-whole.result = record {
      shown = c.margin-whole.ensures.shown;
      start = c.margin-whole.ensures.start;
      end_is = c.margin-whole.ensures.end;
    } in
    let given : IsNoGuess c.inside.result payload mid put =
    c.in_ok-is_message.ensures.none (search rules) in
    let none : IsNoGuess (further_in 1 y) payload mid put =
    subst (λ (z : Layout). IsNoGuess z payload mid put) c.inside.ensures given in
    on_ok_weaker c.put_string.result
    (no_guess_put y n c.args.place c.len-start.result payload text old mid put
    c.truncate.new.self.items c.put_string.new.out.items
    (range_text c.margin.result.is_shown c.margin.result.start c.margin.result.end
    ++ opening y.level n) c.margin-whole.result c.requires.some (search rules)
    c.in_ok-put_opening.ensures c.requires.is is none c.truncate.ensures.items)
    c.put_string.ensures

-- ---- guesses

pub put_guess-returns-clause-message : goal.put_guess-returns-clause-message
put_guess-returns-clause-message t c =
    let y = c.args.layout in
    let all = c.args.bytes.now in
    let count = c.in_ok-count.count in
    let old = c.args.out.now.items in
    let mid = c.put_front.new.out.items in
    let new = c.put_rest.new.out.items in
    let rest = take (length all - count) (drop count all) in
    IfOk-weaker c.put_rest.result
    (λ is. is ≡ true
    → IsDumped y (c.args.place + count) (uncounted (y.budget + 1)) rest mid new)
    (λ is. is ≡ true → IsDumped y c.args.place (uncounted (y.budget + 1)) all old new)
    (λ is h yes. front_and_rest c.joined_texts_spell.ensures c.joined_adds_up.ensures y
    c.args.place count all old mid new c.in_ok-count.ensures
    (subst (λ (x : List ℕ). IsDumped y (c.args.place + count) (uncounted (y.budget + 1)) x mid new)
    (from_place count all) (h yes)))
    c.put_rest.ensures.message

pub put_guess-returns-clause-none : goal.put_guess-returns-clause-none
put_guess-returns-clause-none t c =
    let y = c.args.layout in
    let all = c.args.bytes.now in
    let count = c.in_ok-count.count in
    let old = c.args.out.now.items in
    let mid = c.put_front.new.out.items in
    let new = c.put_rest.new.out.items in
    let rest = take (length all - count) (drop count all) in
    IfOk-weaker c.put_rest.result (λ is. is ≡ false → IsNoGuess y rest mid new)
    (λ is. is ≡ false → IsNoGuess y all old new)
    (λ is h no. front_no_guess c.one_tag.ensures c.one_payload.ensures c.joined_adds_up.ensures y
    c.args.place count all old mid new c.in_ok-count.ensures
    (subst (λ (x : List ℕ). IsNoGuess y x mid new) (from_place count all) (h no)))
    c.put_rest.ensures.none

pub put_guess-returns-then-begins_no_record-clause-none :
    goal.put_guess-returns-then-begins_no_record-clause-none
put_guess-returns-then-begins_no_record-clause-none t c = λ _.
    let y = c.args.layout in
    let all = c.args.bytes.now in
    let count = c.in_ok-count.count in
    let old = c.args.out.now.items in
    let mid = c.put_front.new.out.items in
    let rest = take (length all - count) (drop count all) in
    let never : (fs : Fields) → Spells fs rest → ⊥ = search rules in
    front_no_guess c.one_tag.ensures c.one_payload.ensures c.joined_adds_up.ensures y
    c.args.place count all old mid mid c.in_ok-count.ensures
    (nothing_begins y (drop count all) mid
    (subst (λ (x : List ℕ). (fs : Fields) → Spells fs x → ⊥) (from_place count all) never))

pub put_rest-returns-in-Err-Fault-clause-none : goal.put_rest-returns-in-Err-Fault-clause-none
put_rest-returns-in-Err-Fault-clause-none t c = λ _.
    let y = c.args.layout in
    let all = c.args.bytes.now in
    let f = c.in-Err-Fault.field-0-0 in
    let was : c.put_records.result ≡ Err (stops.Fault f) = search rules in
    no_guess_begins c.whole_input.ensures c.no_list_beside_fault.ensures y c.args.place
    (limits_in c.new-reader.result) all c.args.out.now.items c.put_records.new.out.items f
    (groups_of c.put_records.new.reader) c.requires.shallow c.new-reader.ensures.limits
    (c.put_records.ensures.fault f was)

pub put_front-loop-count-init : goal.put_front-loop-count-init
put_front-loop-count-init t c =
    front_begun c.args.layout c.args.place c.args.bytes.now c.args.out.now.items

pub put_front-loop-count-preserved : goal.put_front-loop-count-preserved
put_front-loop-count-preserved t c =
    let y = c.args.layout in
    let all = c.args.bytes.now in
    let count = c.loop-count.count in
    let mid = c.loop-count.out.items in
    let new = c.put_record.new.out.items in
    front_more c.joined_texts_spell.ensures c.joined_adds_up.ensures y c.args.place count
    c.in_ok-len.len all c.args.out.now.items mid new c.loop-count.invariant
    (subst (λ (x : List ℕ). PrintsRecord y (c.args.place + count) x c.in_ok-len.len mid new)
    (from_place count all) c.in_ok-len.ensures) (omega arith)

pub put_bytes-put_payload-requires : goal.put_bytes-put_payload-requires
put_bytes-put_payload-requires t c =
    let all = c.args.bytes.now in
    let mid = c.decode_length.new.buf.now in
    let len = c.in-Ok.len in
    let count = length all - (length mid - len) in
    let is : count ≡ length all - length (drop len mid) = omega (arith, length-drop len mid) in
    let h = stands c.args.number (bytes (take len mid)) all c.args.behind.now (drop len mid) count
    c.requires.tag c.in-Ok.ensures.payload is in
    let placed : c.args.place + length (take count all) < 2 ^ 64 =
    omega (arith, c.requires.placed, h.within, length-take-le count all h.within) in
    (search rules, (c.requires.room, (c.requires.shallow, (placed, h.spelled))))

pub put_bytes-returns : goal.put_bytes-returns
put_bytes-returns t c =
    let all = c.args.bytes.now in
    let mid = c.decode_length.new.buf.now in
    let len = c.in-Ok.len in
    let count = length all - (length mid - len) in
    let is : count ≡ length all - length (drop len mid) = omega (arith, length-drop len mid) in
    payload_taken c.args.layout c.args.place c.args.number count len all c.args.behind.now mid
    (take count all) (take len mid) c.args.out.now.items c.put_payload.new.out.items
    c.requires.tag c.in-Ok.ensures.payload is refl refl c.in_ok-put_payload.ensures

-- ---- records

pub put_records-loop-event-init : goal.put_records-loop-event-init
put_records-loop-event-init t c =
    let all = c.args.bytes.now in
    let r = c.args.reader.now in
    let whole : drop r.place all ≡ all = ap (λ (x : ℕ). drop x all) c.requires.begins.place in
    let start : at r all ≡ record { rest = all; groups = groups_of r; limits = limits_in r } =
    ap (λ (x : List ℕ). record { rest = x; groups = groups_of r; limits = limits_in r }) whole in
    begun c.args.layout c.args.place (limits_in r) all (at r all) c.args.out.now.items
    (subst (λ (x : At). IsAt (limits_in r) all [] x) (sym start)
    (c.reader_begins.ensures (limits_in r) r all c.requires.begins)) (sym whole)

pub put_records-put_item-requires : goal.put_records-put_item-requires
put_records-put_item-requires t c =
    let all = c.args.bytes.now in
    let e = c.in-Some.event in
    let text = event_text e all in
    let place = c.args.place + e.start in
    let given : Gives e all (at c.loop-event.reader all) (at c.next.new.self all) = search rules in
    let cut = cut_out e all c.loop-event.invariant.front (at c.loop-event.reader all)
    (at c.next.new.self all) c.loop-event.invariant.parts given in
    let few = few_open c.next.new.self c.open_groups.result.now c.open_groups.ensures in
    let placed : place + length text < 2 ^ 64 = omega (arith, cut.within, c.requires.placed) in
    (search rules, (c.requires.room, (c.requires.shallow, (few, (placed, cut.is)))))

pub put_records-loop-event-preserved : goal.put_records-loop-event-preserved
put_records-loop-event-preserved t c =
    let y = c.args.layout in
    let all = c.args.bytes.now in
    let e = c.in-Some.event in
    let i = item e.number e.value in
    let text = event_text e all in
    let place = c.args.place + e.start in
    let h = c.loop-event.invariant in
    let given : Gives e all (at c.loop-event.reader all) (at c.next.new.self all) = search rules in
    let cut = cut_out e all h.front (at c.loop-event.reader all) (at c.next.new.self all) h.parts
    given in
    let puts : Prints y place (ItemLines y (length c.open_groups.result.now) i text) text
    c.loop-event.out.items c.put_item.new.out.items = c.in_ok-put_item.ensures in
    let same = counted_open c.next.new.self c.open_groups.result.now c.open_groups.ensures in
    next_item c.items_tell_records.ensures c.reader_goes_on.ensures y c.args.place
    (limits_in c.args.reader.now) all i (at c.loop-event.reader all) (at c.next.new.self all)
    given.behind text c.args.out.now.items c.loop-event.out.items c.put_item.new.out.items place h
    given.moves cut.parts cut.is (ap (λ (x : ℕ). c.args.place + x) cut.start)
    (subst (λ (x : ℕ). Prints y place (ItemLines y x i text) text c.loop-event.out.items
    c.put_item.new.out.items) same puts)

pub put_records-loop-event-smaller : goal.put_records-loop-event-smaller
put_records-loop-event-smaller t c =
    let all = c.args.bytes.now in
    let e = c.in-Some.event in
    let given : Gives e all (at c.loop-event.reader all) (at c.next.new.self all) = search rules in
    c.reader_moves_on.ensures (item e.number e.value) (at c.loop-event.reader all)
    (at c.next.new.self all) given.behind given.moves

pub put_records-returns-clause-ok : goal.put_records-returns-clause-ok
put_records-returns-clause-ok t c =
    let all = c.args.bytes.now in
    let done : IsDone (at c.loop-event.reader all) = search rules in
    finished c.items_tell_records.ensures c.reader_is_done.ensures c.args.layout c.args.place
    (limits_in c.args.reader.now) all (at c.loop-event.reader all) c.args.out.now.items
    c.loop-event.out.items c.loop-event.invariant done

pub put_records-returns-in_err-event-clause-fault :
    goal.put_records-returns-in_err-event-clause-fault
put_records-returns-in_err-event-clause-fault t c =
    let all = c.args.bytes.now in
    let p = err_from_is_err_and c.from_residual.result c.from_residual.ensures.1 in
    λ f e.
    let same : p.0 ≡ stops.Fault f = (cc (p.1, e)) in
    let given : p.0 ≡ stops.Fault c.in_err-event.field-0.0 = p.2 in
    let is : c.in_err-event.field-0.0 ≡ f = (cc (same, given)) in
    let stops_here : Stops f all (at c.loop-event.reader all) =
    subst (λ (x : Fault). Stops x all (at c.loop-event.reader all)) is
    c.in_err-event.ensures.fault in
    let kept : c.next.new.self ≡ c.loop-event.reader = search rules in
    rw kept (stopped c.items_tell_records.ensures c.reader_stops.ensures c.args.layout c.args.place
    (limits_in c.args.reader.now) all (at c.loop-event.reader all) f c.args.out.now.items
    c.loop-event.out.items c.loop-event.invariant stops_here)
