use Rattle.std.proofs.Common.{◌≡◌, ℕ, ◌+◌, ◌^◌, ◌<◌, List, [], ◌++◌, length, drop, refl, sym, ap, ◌∙◌, subst, arith, rules}
use Rattle.std.proofs.lemmas.Result.{err_from_is_err_and}
use Rattle.std.specs.Option.{option_copied}
use Rattle.wire_read.specs.declared.event.Fault.{Fault}
use Rattle.wire_read.specs.Reading.{At, Gives, IsAt, IsDone, Stops, at, groups_of, item, limits_in}
use Rattle.wire_dynamic.specs.declared.schema.Schema.{Schema}
use Rattle.wire_dynamic.specs.Told.{reader_of, root_of, schema_of}
use Rattle.wire_dynamic.specs.Walks.{field_in, innermost, told_in}
use Rattle.wire_dump.specs.declared.parts.Cut.TheVariants as cuts
use Rattle.wire_dump.specs.declared.typed.Halt.TheVariants as halts
use Rattle.wire_dump.specs.declared.typed_record.Spot.{Spot}
use Rattle.wire_dump.specs.Shown.{ItemSpans, PutsSpans}
use Rattle.wire_dump.specs.Shows.{budget_at}
use Rattle.wire_dump.proofs.Sent.{more_sent, none_sent, spans_behind}
use Rattle.wire_dump.proofs.ShownWalk.{Sofar, begun, finished, next_item, stopped}
use Rattle.wire_dump.proofs.Spots.{spot_within, within_here}
use Rattle.wire_dump.proofs.Texts.{cut_out, event_text}
use Rattle.wire_dump.proofs.Walk.{counted_open, few_open}
use Rattle.wire_dump.proofs.output.Typed.write_message.Goals as goal

pub loop-told-init : goal.loop-told-init
loop-told-init g c =
    let all = c.args.bytes.now in
    let r = reader_of c.args.walk.now in
    let out = c.args.out.now in
    let whole : drop r.place all ≡ all = ap (λ (x : ℕ). drop x all) c.requires.begins.place in
    let start : at r all ≡ record { rest = all; groups = groups_of r; limits = limits_in r } =
    ap (λ (x : List ℕ). record { rest = x; groups = groups_of r; limits = limits_in r }) whole in (
      none_sent (g.W.Write.contents c.args.sink.now) out.text.items
          (λ (x : List ℕ). Sofar c.args.self.now c.args.spot.depth c.args.spot.level
          (root_of c.args.walk.now) c.args.spot.place (limits_in r) all (at r all) out.text.items
          out.has_note x out.has_note)
          (begun c.args.self.now c.args.spot.depth c.args.spot.level (root_of c.args.walk.now)
          c.args.spot.place (limits_in r) all (at r all) out
          (subst (λ (x : At). IsAt (limits_in r) all [] x) (sym start)
          (c.reader_begins.ensures (limits_in r) r all c.requires.begins)) (sym whole)),
      c.requires.schema,
      refl,
    )

pub put_told-requires : goal.put_told-requires
put_told-requires g c =
    let all = c.args.bytes.now in
    let e = c.in-Some.told.event in
    let text = event_text e all in
    let place = c.args.spot.place + e.start in
    let (sent, gone, h) = c.loop-told.invariant.0 in
    let old = reader_of c.loop-told.walk in
    let new = reader_of c.next.new.self in
    let given : Gives e all (at old all) (at new all) = search rules in
    let cut = cut_out e all h.front (at old all) (at new all) h.parts given in
    let few = few_open new c.open_groups.result.now
    (c.open_groups.ensures ∙ ap groups_of c.reader.ensures) in
    let placed : place + length text < 2 ^ 64 = omega (arith, cut.within, c.requires.placed) in
    let within = spot_within c.args.spot c.unknown_groups.result c.within-here.result c.within-here.ensures in
    let (shallow, bounded, guesses) = within c.requires.shallow c.requires.bounded in
    record {
      shallow = shallow;
      bounded = bounded;
      guesses = guesses;
      few = few;
      placed = placed;
      is = cut.is;
    }

pub loop-told-preserved : goal.loop-told-preserved
loop-told-preserved g c =
    let y = c.args.self.now in
    let s = y.schema.now in
    let all = c.args.bytes.now in
    let told = c.in-Some.told in
    let e = told.event in
    let n = e.number in
    let v = e.value in
    let text = event_text e all in
    let place = c.args.spot.place + e.start in
    let d = c.args.spot.depth in
    let k = c.args.spot.level in
    let root = root_of c.args.walk.now in
    let l = limits_in (reader_of c.args.walk.now) in
    let w = c.loop-told.walk in
    let old = c.args.out.now in
    let mid = c.loop-told.out in
    let new = c.put_told.new.out in
    let (sent, gone, h) = c.loop-told.invariant.0 in
    let same_schema = c.loop-told.invariant.1 in
    let same_root = c.loop-told.invariant.2 in
    let a = at (reader_of w) all in
    let b = at (reader_of c.next.new.self) all in
    let given : Gives e all a b = search rules in
    let cut = cut_out e all h.front a b h.parts given in
    let raw : option_copied told.field ≡ field_in (schema_of w) n
    (innermost (schema_of w) (root_of w) (told_in v a.groups b.groups)) = search rules in
    let tells = raw ∙ ap (λ (x : Schema). field_in x n
    (innermost x (root_of w) (told_in v a.groups b.groups))) same_schema
    ∙ ap (λ (x : ℕ). field_in s n (innermost s x (told_in v a.groups b.groups))) same_root in
    let count = counted_open (reader_of c.next.new.self) c.open_groups.result.now
    (c.open_groups.ensures ∙ ap groups_of c.reader.ensures) in
    let Puts = λ (x : Spot) (groups : ℕ). PutsSpans y place
    (ItemSpans s x.depth x.budget x.level groups (option_copied told.field) (item n v) text) text
    mid.text.items mid.has_note new in
    let here = within_here s root c.args.spot c.next.new.self c.unknown_groups.result
    c.within-here.result c.within-here.ensures c.unknown_groups.ensures
    (c.next.ensures.same.schema ∙ same_schema) (c.next.ensures.same.root ∙ same_root) in
    let puts = subst (λ (x : Spot). Puts x (length b.groups)) here
    (subst (λ (x : ℕ). Puts c.within-here.result x) count c.in_default-put_told.ensures.ok) in (
      more_sent (g.W.Write.contents c.args.sink.now) (g.W.Write.contents c.loop-told.sink)
          (g.W.Write.contents c.send_part.new.sink) sent new.text.items c.send_part.new.out.items
          (λ (x : List ℕ). Sofar y d k root c.args.spot.place l all b old.text.items old.has_note x
          new.has_note) gone c.in_default-send_part.ensures
          (next_item c.items_tell_records.ensures c.reader_goes_on.ensures y d k root
          c.args.spot.place l all n v (option_copied told.field) a b given.behind text
          old.text.items old.has_note (sent ++ mid.text.items) mid.has_note
          (sent ++ new.text.items) new.has_note place h given.moves cut.parts cut.is
          (ap (λ (x : ℕ). c.args.spot.place + x) cut.start) tells
          (spans_behind y place
          (ItemSpans s d (budget_at s root b.groups) k (length b.groups)
          (option_copied told.field) (item n v) text) text sent
          mid.text.items mid.has_note new.text.items new.has_note puts)),
      c.next.ensures.same.schema ∙ same_schema,
      c.next.ensures.same.root ∙ same_root,
    )

pub returns-clause-ok : goal.returns-clause-ok
returns-clause-ok g c =
    let all = c.args.bytes.now in
    let a = at (reader_of c.loop-told.walk) all in
    let (sent, gone, h) = c.loop-told.invariant.0 in
    let done : IsDone a = search rules in (
      sent,
      gone,
      finished c.items_tell_records.ensures c.reader_is_done.ensures c.args.self.now
          c.args.spot.depth c.args.spot.level (root_of c.args.walk.now) c.args.spot.place
          (limits_in (reader_of c.args.walk.now)) all a c.args.out.now.text.items
          c.args.out.now.has_note (sent ++ c.loop-told.out.text.items) c.loop-told.out.has_note h
          done,
    )

pub returns-in_err-told-clause-fault : goal.returns-in_err-told-clause-fault
returns-in_err-told-clause-fault g c =
    let all = c.args.bytes.now in
    let a = at (reader_of c.loop-told.walk) all in
    let p = err_from_is_err_and c.from_residual.result c.from_residual.ensures.1 in
    λ f e.
    let same : p.0 ≡ cuts.Stop (halts.Fault f) = (cc (p.1, e)) in
    let given : p.0 ≡ cuts.Stop (halts.Fault c.in_err-told.field-0.0) = p.2 in
    let is : c.in_err-told.field-0.0 ≡ f = (cc (same, given)) in
    let stops_here : Stops f all a =
    subst (λ (x : Fault). Stops x all a) is c.in_err-told.ensures.fault in
    let (sent, gone, h) = c.loop-told.invariant.0 in (
      sent,
      gone,
      stopped c.items_tell_records.ensures c.reader_stops.ensures c.args.self.now
          c.args.spot.depth c.args.spot.level (root_of c.args.walk.now) c.args.spot.place
          (limits_in (reader_of c.args.walk.now)) all a f c.args.out.now.text.items
          c.args.out.now.has_note (sent ++ c.loop-told.out.text.items) c.loop-told.out.has_note h
          stops_here,
    )
