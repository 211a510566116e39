use Rattle.std.proofs.Common.{◌≡◌, [], ◌∙◌, subst, ap, rules, refl, arith, Bool, true, false}
use Rattle.std.specs.Prelude.{IsTrue}
use Rattle.std.proofs.lemmas.List.{nil_from_length}
use Rattle.std.proofs.lemmas.Result.{err_from_is_err_and}
use Rattle.wire_frames.specs.Frames.{in_prefix}
use Rattle.wire_frames.specs.Stream.{Stream, unread, fed}
use Rattle.wire_frames.proofs.Prefixes.{nothing_is_begun}
use Rattle.wire_callers.proofs.Chunks.{said_of_success, nothing_fed, chunk_more, stops_in_chunk, stops_at_end}
use Rattle.wire_callers.proofs.frames.frames_of.Goals as goal

pub loop-chunk-init : goal.loop-chunk-init
loop-chunk-init c =
    nothing_fed c.args.framing c.args.limit _ _ _ _ (in_prefix (nothing_is_begun c.args.framing))
    (search rules) c.new-decoder.ensures c.new-frames.ensures.items

pub loop-chunk-preserved : goal.loop-chunk-preserved
loop-chunk-preserved c =
    let before = c.loop-chunk.invariant in
    let was_fed : c.feed.new.self ≡ fed c.loop-chunk.decoder c.in-Some.chunk =
    said_of_success c.feed.result _ c.in_ok-or.field-0 _ c.in_ok-or.ensures c.feed.ensures.ok in
    let form : c.feed.new.self.framing ≡ c.args.framing =
    ap (λ (s : Stream). s.framing) was_fed ∙ before.framing in
    let limit : c.feed.new.self.limit ≡ c.args.limit =
    ap (λ (s : Stream). s.limit) was_fed ∙ before.limit_is in
    let taken = rw (form, limit) at c.in_ok-take_whole.ensures.frames in
    let form_after = c.in_ok-take_whole.ensures.framing ∙ form in
    let limit_after = c.in_ok-take_whole.ensures.limit ∙ limit in
    chunk_more c.args.framing c.args.limit _ c.bytes_behind.ensures c.frames_add_up.ensures
    c.in-Some.chunk _ _ c.loop-chunk.decoder c.feed.new.self c.take_whole.new.decoder _ _ taken.0
    before c.in-Some.ensures.steps.0 (ap (λ (s : Stream). unread s) was_fed) taken.1 taken.2
    (rw (form_after, limit_after) at c.in_ok-take_whole.ensures.unfinished) form_after limit_after

pub returns-in_err-take_whole-clause-err : goal.returns-in_err-take_whole-clause-err
returns-in_err-take_whole-clause-err c =
    let p = err_from_is_err_and c.from_residual-in_err-take_whole.result
    c.from_residual-in_err-take_whole.ensures.1 in
    let before = c.loop-chunk.invariant in
    let was_fed : c.feed.new.self ≡ fed c.loop-chunk.decoder c.in-Some.chunk =
    said_of_success c.feed.result _ c.in_ok-or.field-0 _ c.in_ok-or.ensures c.feed.ensures.ok in
    let form : c.feed.new.self.framing ≡ c.args.framing =
    ap (λ (s : Stream). s.framing) was_fed ∙ before.framing in
    let limit : c.feed.new.self.limit ≡ c.args.limit =
    ap (λ (s : Stream). s.limit) was_fed ∙ before.limit_is in
    let stops = rw (form, limit) at c.in_err-take_whole.ensures.err in
    rw (p.1, p.2) (λ other. stops_in_chunk c.args.framing c.args.limit _ c.bytes_behind.ensures
    c.frames_add_up.ensures c.in-Some.chunk _ _ c.loop-chunk.decoder c.feed.new.self _ _ before
    c.in-Some.ensures.steps.0 (ap (λ (s : Stream). unread s) was_fed) other
    c.in_err-take_whole.ensures.whole (stops other))

pub returns-clause-err : goal.returns-clause-err
returns-clause-err c = λ _.
    let none : c.loop-chunk.chunk-iterator.rest.items ≡ [] =
    nil_from_length _
    (omega (arith, c.loop-chunk.chunk-iterator.rest.ok, c.in-None.ensures.steps.0)) in
    let some = λ (empty : unread c.loop-chunk.decoder ≡ []).
    let no : false ≡ true = subst (λ (b : Bool). IsTrue b) c.if-is_empty.false
    (c.is_empty.ensures.1 empty) in absurd cc in
    stops_at_end c.args.framing c.args.limit _ _ c.loop-chunk.decoder _ _
    c.loop-chunk.invariant none some refl
