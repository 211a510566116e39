use Rattle.std.proofs.Common.{ℕ, Bool, List, [], drop, sym, ap, subst, ◌∙◌, arith}
use Rattle.wire_frames.specs.declared.frame.FrameText.{FrameText}
use Rattle.wire_frames.specs.declared.frame.Framing.{Framing}
use Rattle.wire_frames.specs.Extent.{IsExtent, text_at}
use Rattle.wire_frames.specs.Frames.{in_prefix}
use Rattle.wire_frames.specs.Stream.{Stream, left, unread}
use Rattle.wire_frames.proofs.Extents.{held_is_less, run_is, rest_is}
use Rattle.wire_frames.proofs.Prefixes.{nothing_is_begun}
use Rattle.wire_frames.proofs.decoder.FrameDecoder.take.Goals as goal

abbrev text_with : Bool → ℕ → List ℕ → FrameText
text_with compressed prefix text =
    record { compressed = compressed; prefix = prefix; text = text }

abbrev stream_with : Framing → ℕ → List ℕ → List ℕ → Stream
stream_with framing limit held chunk =
    record { framing = framing; limit = limit; held = held; chunk = chunk }

pub overflow_sub-more : goal.overflow_sub-more
overflow_sub-more c =
    let inside = c.self.inside in
    let stands = subst (λ (s : Stream). IsExtent s.framing s.limit (unread s) c.args.extent)
    (sym c.self.view_is) c.requires in
    let less = held_is_less c.unfinished_has_no_next.ensures inside.framing inside.limit
    inside.held.items inside.chunk c.args.extent c.self.invariant stands in
    omega (arith, less, c.len.ensures, inside.held.ok)

pub invariant_of-self : goal.invariant_of-self
invariant_of-self c = rw c.in_err-text.ensures.held_stays c.self.invariant

pub invariant_of-self-2 : goal.invariant_of-self-2
invariant_of-self-2 c = rw c.in_ok-text.ensures.held (in_prefix (nothing_is_begun _))

pub returns-clause-text : goal.returns-clause-text
returns-clause-text c =
    let inside = c.self.inside in
    let x = c.args.extent in
    let stands = subst (λ (s : Stream). IsExtent s.framing s.limit (unread s) x)
    (sym c.self.view_is) c.requires in
    let less = held_is_less c.unfinished_has_no_next.ensures inside.framing inside.limit
    inside.held.items inside.chunk x c.self.invariant stands in
    let run = run_is inside.held.items inside.chunk _ x.len c.len.result
    (omega (arith, c.len.ensures, inside.held.ok)) (omega (arith, less))
    c.in_ok-text.ensures.run in
    ap (λ (t : List ℕ). text_with x.compressed x.prefix t) run
    ∙ ap (λ (s : Stream). text_at (unread s) x) c.self.view_is

pub returns-clause-rest : goal.returns-clause-rest
returns-clause-rest c =
    let inside = c.self.inside in
    let x = c.args.extent in
    let stands = subst (λ (s : Stream). IsExtent s.framing s.limit (unread s) x)
    (sym c.self.view_is) c.requires in
    let less = held_is_less c.unfinished_has_no_next.ensures inside.framing inside.limit
    inside.held.items inside.chunk x c.self.invariant stands in
    let rest = rest_is inside.held.items inside.chunk _ x.len c.len.result
    (omega (arith, c.len.ensures, inside.held.ok)) (omega (arith, less))
    c.in_ok-text.ensures.chunk in
    ap (λ (h : List ℕ). stream_with inside.framing inside.limit h c.split_joined.new.chunk)
    c.in_ok-text.ensures.held
    ∙ ap (λ (t : List ℕ). stream_with inside.framing inside.limit [] t) rest
    ∙ ap (λ (s : Stream). left s (drop x.len (unread s))) c.self.view_is
