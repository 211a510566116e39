use Rattle.std.proofs.Common.{◌≡◌, ◌<◌, Bool, true, false, length, ap, subst, ◌∙◌, arith}
use Rattle.std.proofs.lemmas.Grind.{common_steps}
use Rattle.std.specs.Prelude.{IsTrue}
use Rattle.wire_frames.specs.Stream.{Stream, unread}
use Rattle.wire_frames.proofs.Extents.{nothing_joined}
use Rattle.wire_frames.proofs.decoder.FrameDecoder.is_empty.Goals as goal

pub returns-else-is_empty : goal.returns-else-is_empty
returns-else-is_empty c =
    let inside = c.self.inside in
    let some : 0 < length inside.held.items = grind (arith, common_steps, inside.held.ok) in (
      λ t.
          let no : false ≡ true = subst (λ (b : Bool). IsTrue b) c.if-is_empty.false t in absurd cc,
      λ none. absurd (omega (
        arith,
        some,
        nothing_joined inside.held.items inside.chunk
            (ap (λ (s : Stream). unread s) c.self.view_is ∙ none),
      )),
    )
