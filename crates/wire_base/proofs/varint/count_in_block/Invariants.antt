use Rattle.std.proofs.Common.{◌≡◌, ◌+◌, ◌≤◌, drop}
use Rattle.std.specs.Prelude.{count_by, nat_lt}
use Rattle.wire_base.proofs.varint.count_in_block.Given as goal

-- what is counted so far, and what is left
abbrev pub invariant-loop-byte : goal.invariant-loop-byte
invariant-loop-byte l = record {
  few : l.count ≤ l.byte-index;
  counted : l.count + count_by (λ byte. nat_lt byte 128) (drop l.byte-index l.block) ≡ count_by
      (λ byte. nat_lt byte 128) l.fn.block;
}
