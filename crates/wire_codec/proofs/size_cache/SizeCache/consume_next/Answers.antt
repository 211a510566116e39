-- The size that is read is the first of those to be read, on its side of the border.
use Rattle.std.proofs.Common.{◌<◌, arith}
use Rattle.std.proofs.lemmas.Grind.{common_steps}
use Rattle.wire_codec.proofs.Slots.{next-inside, next-behind}
use Rattle.wire_codec.proofs.size_cache.SizeCache.consume_next.Goals as goal
use Rattle.wire_codec.proofs.size_cache.SizeCache.consume_next.Goals.{then-next-lt-INLINE_SLOTS}
use Rattle.wire_codec.proofs.size_cache.SizeCache.consume_next.Goals.{else-next-lt-INLINE_SLOTS}

pub returns-clause-next : goal.returns-clause-next
returns-clause-next c =
    let within : c.self.inside.cursor < c.self.inside.slots = grind (arith, common_steps) in
    elim c.if-next-lt-INLINE_SLOTS.branch [
      | then-next-lt-INLINE_SLOTS w ↦ rw (← c.self.view_is)
          (next-inside c.self.inside.inline c.self.inside.spill.items c.self.inside.slots
          c.self.inside.cursor 0 _ c.self.invariant.0 c.self.invariant.1 within
          w.if-next-lt-INLINE_SLOTS.true w.result-is)
      | else-next-lt-INLINE_SLOTS w ↦ rw (← c.self.view_is)
          (next-behind c.self.inside.inline c.self.inside.spill.items c.self.inside.slots
          c.self.inside.cursor c.if-next-lt-INLINE_SLOTS.result _ c.self.invariant.0
          c.self.invariant.1 within w.if-next-lt-INLINE_SLOTS.false (cc))
    ]
