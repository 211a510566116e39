use Rattle.std.proofs.Common.{◌≡◌, ℕ, ◌+◌, ◌-◌, ◌^◌, ◌<◌, List, [], ◌++◌, Err, length, min, drop, refl, sym, ap, ◌∙◌, subst, arith, rules}
use Rattle.std.proofs.lemmas.Result.{err_from_is_err_and}
use Rattle.std.specs.Option.{option_copied}
use Rattle.wire_base.specs.Limits.{uncounted}
use Rattle.wire_read.specs.declared.event.Fault.{Fault}
use Rattle.wire_read.specs.Reading.{At, Gives, IsAt, IsDone, Stops, at, groups_of, item, limits_in}
use Rattle.wire_dynamic.specs.declared.schema.Schema.{Schema}
use Rattle.wire_dynamic.specs.Told.{reader_of, root_of, schema_of}
use Rattle.wire_dynamic.specs.Walks.{field_in, innermost, told_in}
use Rattle.wire_dump.specs.declared.layout.Layout.{Layout}
use Rattle.wire_dump.specs.declared.layout.Margin.{Margin}
use Rattle.wire_dump.specs.declared.typed.Halt.TheVariants as halts
use Rattle.wire_dump.specs.declared.typed_record.Spot.{Spot}
use Rattle.wire_dump.specs.Lines.{end_line}
use Rattle.wire_dump.specs.Places.{range_text}
use Rattle.wire_dump.specs.Shown.{AreRecords, IsShownFront, ItemSpans, PutsSpans}
use Rattle.wire_dump.specs.Shows.{field_opening}
use Rattle.wire_dump.proofs.Put.{IsMargin, with_margin}
use Rattle.wire_dump.proofs.ShownMessage.{broken_inside, message_shown}
use Rattle.wire_dump.proofs.ShownPut.{one_line}
use Rattle.wire_dump.proofs.ShownUnfit.{end_lines, guessed_put}
use Rattle.wire_dump.proofs.ShownWalk.{begun, finished, next_item, stopped}
use Rattle.wire_dump.proofs.Spots.{spot_within, within_here}
use Rattle.wire_dump.proofs.Texts.{cut_out, event_text}
use Rattle.wire_dump.proofs.Walk.{counted_open, few_open}
use Rattle.wire_dump.proofs.output.Typed.+typed.Goals as goal

-- ---- a message in a message

pub put_embedded-returns-in_ok-put_closing-in-Ok-clause-fits :
    goal.put_embedded-returns-in_ok-put_closing-in-Ok-clause-fits
put_embedded-returns-in_ok-put_closing-in-Ok-clause-fits t c =
    let y = c.args.self.now in
    let s = y.schema.now in
    let r = c.args.found.now in
    let f = r.field.now in
    let d = r.spot.depth in
    let k = r.spot.level in
    let place = r.spot.place in
    let end = place + length r.text.now in
    let inner = c.saturating_sub-place.result in
    let payload = c.args.payload.now in
    let old = c.args.out.now.text.items in
    let one = c.put_opening.new.out.items in
    let two = c.put_message.new.out in
    let last = c.put_closing.new.out.items in
    let layout = c.new-layout.result in
    let l = limits_in (reader_of c.new-walk.result) in
    let at_inner : inner ≡ end - length payload = search rules in
    let fewer : min (d - 1) 100 ≡ d - 1 = omega (arith, c.requires.shallow) in
    let limits : l ≡ uncounted (d - 1) = c.new-walk.ensures.begins.limits ∙ ap uncounted fewer in
    let some : 0 < d = search rules in
    let first : IsMargin layout place inner c.margin.result = record {
      shown = c.margin.ensures.shown;
      start = c.margin.ensures.start;
      end_is = c.margin.ensures.end;
    } in
    let tail : IsMargin layout end end c.margin-in-Ok.result = record {
      shown = c.margin-in-Ok.ensures.shown;
      start = c.margin-in-Ok.ensures.start;
      end_is = c.margin-in-Ok.ensures.end;
    } in
    let opened = subst (λ (z : Layout). one
    ≡ old ++ (range_text z.has_offsets place inner ++ field_opening s z.level f))
    c.new-layout.ensures
    (with_margin layout place inner c.margin.result (field_opening s layout.level f) old one first
    c.in_ok-put_opening.ensures) in
    let closed = subst (λ (z : Layout). last
    ≡ two.text.items ++ (range_text z.has_offsets end end ++ end_line z.level))
    c.new-layout.ensures
    (with_margin layout end end c.margin-in-Ok.result (end_line layout.level) two.text.items last
    tail c.in_ok-put_closing-in-Ok.ensures) in
    let put = subst (λ (x : ℕ). PutsSpans y inner (AreRecords s (d - 1) (k + 1) x l payload)
    payload one c.args.out.now.has_note two) c.new-walk.ensures.root c.in-Ok.ensures.ok in
    message_shown y d r.spot.budget k r.event.number c.args.root place inner end f l payload r.text.now old
    c.args.out.now.has_note
    (record { text = c.put_opening.new.out; has_note = c.args.out.now.has_note }) two
    (record { text = c.put_closing.new.out; has_note = two.has_note }) some c.requires.kind limits
    c.requires.is refl at_inner opened refl put closed refl

pub put_embedded-returns-in-Err-Fault-clause-unfit :
    goal.put_embedded-returns-in-Err-Fault-clause-unfit
put_embedded-returns-in-Err-Fault-clause-unfit t c =
    let y = c.args.self.now in
    let r = c.args.found.now in
    let d = r.spot.depth in
    let k = r.spot.level in
    let inner = c.saturating_sub-place.result in
    let payload = c.args.payload.now in
    let one = c.put_opening.new.out.items in
    let two = c.put_message.new.out in
    let fault = c.in-Err-Fault.fault in
    let l = limits_in (reader_of c.new-walk.result) in
    let fewer : min (d - 1) 100 ≡ d - 1 = omega (arith, c.requires.shallow) in
    let limits : l ≡ uncounted (d - 1) = c.new-walk.ensures.begins.limits ∙ ap uncounted fewer in
    let failed : c.put_message.result ≡ Err (halts.Fault fault) = search rules in
    let front = subst (λ (x : ℕ). IsShownFront y (d - 1) (k + 1) x inner l payload fault one
    c.args.out.now.has_note two) c.new-walk.ensures.root (c.put_message.ensures.fault fault failed) in
    broken_inside c.whole_input.ensures c.no_list_beside_fault.ensures y d k c.args.root inner
    r.field.now l payload c.args.out.now.text.items _ fault
    (record { text = c.put_opening.new.out; has_note = c.args.out.now.has_note }) two
    c.requires.kind limits c.in_ok-put_opening.ensures front

-- ---- records and groups

pub put_flat-returns-in_ok-put_item-in-None-clause-ok :
    goal.put_flat-returns-in_ok-put_item-in-None-clause-ok
put_flat-returns-in_ok-put_item-in-None-clause-ok t c =
    let told = c.args.told.now in
    guessed_put c.args.self.now c.args.spot.depth c.args.spot.budget c.args.spot.level
    told.event.number c.args.spot.place told.event.value (option_copied told.field) c.args.text.now
    c.args.out.now.text.items c.args.out.now.has_note
    (record { text = c.put_item.new.out; has_note = c.args.out.now.has_note }) c.guessing-layout.result
    c.guessing-layout.ensures (ap option_copied c.in-None.is) c.requires.is
    c.in_ok-put_item-in-None.ensures refl

pub put_told-returns-in_ok-put_closing-in-GroupEnd-clause-ok :
    goal.put_told-returns-in_ok-put_closing-in-GroupEnd-clause-ok
put_told-returns-in_ok-put_closing-in-GroupEnd-clause-ok t c =
    let y = c.args.self.now in
    let told = c.args.told.now in
    let n = told.event.number in
    let v = told.event.value in
    let level = c.args.spot.level + c.args.count in
    let old = c.args.out.now.text.items in
    let new = c.put_closing.new.out.items in
    let put = subst (λ (m : Margin). new
    ≡ old ++ (range_text m.is_shown m.start m.end ++ end_line level)) c.margin-margin.ensures
    c.in_ok-put_closing-in-GroupEnd.ensures in
    one_line y c.args.place
    (ItemSpans y.schema.now c.args.spot.depth c.args.spot.budget c.args.spot.level c.args.count
    (option_copied told.field) (item n v) c.args.text.now) c.args.text.now (end_line level) old
    c.args.out.now.has_note
    (record { text = c.put_closing.new.out; has_note = c.args.out.now.has_note })
    (end_lines y.schema.now c.args.spot.depth c.args.spot.budget c.args.spot.level c.args.count n
    (option_copied told.field) v c.args.text.now c.in-GroupEnd.is) put refl

-- ---- messages

pub put_message-loop-told-init : goal.put_message-loop-told-init
put_message-loop-told-init t c =
    let all = c.args.bytes.now in
    let r = reader_of c.args.walk.now in
    let whole : drop r.place all ≡ all = ap (λ (x : ℕ). drop x all) c.requires.begins.place in
    let start : at r all ≡ record { rest = all; groups = groups_of r; limits = limits_in r } =
    ap (λ (x : List ℕ). record { rest = x; groups = groups_of r; limits = limits_in r }) whole in (
      begun c.args.self.now c.args.spot.depth c.args.spot.level (root_of c.args.walk.now)
          c.args.spot.place (limits_in r) all (at r all) c.args.out.now
          (subst (λ (x : At). IsAt (limits_in r) all [] x) (sym start)
          (c.reader_begins.ensures (limits_in r) r all c.requires.begins)) (sym whole),
      c.requires.schema,
      refl,
    )

pub put_message-put_told-requires : goal.put_message-put_told-requires
put_message-put_told-requires t c =
    let all = c.args.bytes.now in
    let e = c.in-Some.told.event in
    let text = event_text e all in
    let place = c.args.spot.place + e.start in
    let h = c.loop-told.invariant.0 in
    let old = reader_of c.loop-told.walk in
    let new = reader_of c.next.new.self in
    let given : Gives e all (at old all) (at new all) = search rules in
    let cut = cut_out e all h.front (at old all) (at new all) h.parts given in
    let few = few_open new c.open_groups.result.now
    (c.open_groups.ensures ∙ ap groups_of c.reader.ensures) in
    let placed : place + length text < 2 ^ 64 = omega (arith, cut.within, c.requires.placed) in
    let within = spot_within c.args.spot c.unknown_groups.result c.within-here.result c.within-here.ensures in
    let (shallow, bounded, guesses) = within c.requires.shallow c.requires.bounded in
    (search rules, (shallow, (bounded, (guesses, (few, (placed, cut.is))))))

pub put_message-loop-told-preserved : goal.put_message-loop-told-preserved
put_message-loop-told-preserved t c =
    let y = c.args.self.now in
    let s = y.schema.now in
    let all = c.args.bytes.now in
    let told = c.in-Some.told in
    let e = told.event in
    let n = e.number in
    let v = e.value in
    let text = event_text e all in
    let place = c.args.spot.place + e.start in
    let d = c.args.spot.depth in
    let k = c.args.spot.level in
    let root = root_of c.args.walk.now in
    let w = c.loop-told.walk in
    let h = c.loop-told.invariant.0 in
    let same_schema = c.loop-told.invariant.1 in
    let same_root = c.loop-told.invariant.2 in
    let a = at (reader_of w) all in
    let b = at (reader_of c.next.new.self) all in
    let given : Gives e all a b = search rules in
    let cut = cut_out e all h.front a b h.parts given in
    let raw : option_copied told.field ≡ field_in (schema_of w) n
    (innermost (schema_of w) (root_of w) (told_in v a.groups b.groups)) = search rules in
    let tells = raw ∙ ap (λ (x : Schema). field_in x n
    (innermost x (root_of w) (told_in v a.groups b.groups))) same_schema
    ∙ ap (λ (x : ℕ). field_in s n (innermost s x (told_in v a.groups b.groups))) same_root in
    let count = counted_open (reader_of c.next.new.self) c.open_groups.result.now
    (c.open_groups.ensures ∙ ap groups_of c.reader.ensures) in
    let Puts = λ (x : Spot) (groups : ℕ). PutsSpans y place
    (ItemSpans s x.depth x.budget x.level groups (option_copied told.field) (item n v) text) text
    c.loop-told.out.text.items c.loop-told.out.has_note c.put_told.new.out in
    let here = within_here s root c.args.spot c.next.new.self c.unknown_groups.result
    c.within-here.result c.within-here.ensures c.unknown_groups.ensures
    (c.next.ensures.same.schema ∙ same_schema) (c.next.ensures.same.root ∙ same_root) in
    let puts = subst (λ (x : Spot). Puts x (length b.groups)) here
    (subst (λ (x : ℕ). Puts c.within-here.result x) count c.in-Ok.ensures.ok) in (
      next_item c.items_tell_records.ensures c.reader_goes_on.ensures y d k root
          c.args.spot.place (limits_in (reader_of c.args.walk.now)) all n v
          (option_copied told.field) a b given.behind text c.args.out.now.text.items
          c.args.out.now.has_note c.loop-told.out.text.items c.loop-told.out.has_note
          c.put_told.new.out.text.items c.put_told.new.out.has_note place h given.moves cut.parts
          cut.is (ap (λ (x : ℕ). c.args.spot.place + x) cut.start) tells puts,
      c.next.ensures.same.schema ∙ same_schema,
      c.next.ensures.same.root ∙ same_root,
    )

pub put_message-returns-clause-ok : goal.put_message-returns-clause-ok
put_message-returns-clause-ok t c =
    let all = c.args.bytes.now in
    let a = at (reader_of c.loop-told.walk) all in
    let done : IsDone a = search rules in
    finished c.items_tell_records.ensures c.reader_is_done.ensures c.args.self.now
    c.args.spot.depth c.args.spot.level (root_of c.args.walk.now) c.args.spot.place
    (limits_in (reader_of c.args.walk.now)) all a c.args.out.now.text.items
    c.args.out.now.has_note c.loop-told.out.text.items c.loop-told.out.has_note
    c.loop-told.invariant.0 done

pub put_message-returns-in_err-told-clause-fault :
    goal.put_message-returns-in_err-told-clause-fault
put_message-returns-in_err-told-clause-fault t c =
    let all = c.args.bytes.now in
    let a = at (reader_of c.loop-told.walk) all in
    let p = err_from_is_err_and c.from_residual.result c.from_residual.ensures.1 in
    λ f e.
    let same : p.0 ≡ halts.Fault f = (cc (p.1, e)) in
    let given : p.0 ≡ halts.Fault c.in_err-told.field-0.0 = p.2 in
    let is : c.in_err-told.field-0.0 ≡ f = (cc (same, given)) in
    let stops_here : Stops f all a =
    subst (λ (x : Fault). Stops x all a) is c.in_err-told.ensures.fault in
    stopped c.items_tell_records.ensures c.reader_stops.ensures c.args.self.now
    c.args.spot.depth c.args.spot.level (root_of c.args.walk.now) c.args.spot.place
    (limits_in (reader_of c.args.walk.now)) all a f c.args.out.now.text.items
    c.args.out.now.has_note c.loop-told.out.text.items c.loop-told.out.has_note
    c.loop-told.invariant.0 stops_here
