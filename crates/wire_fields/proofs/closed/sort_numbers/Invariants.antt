use Rattle.std.proofs.Common.{◌≡◌, drop}
use Rattle.wire_codec.specs.Limits.{Fits, NoCountGrew, left_after}
use Rattle.wire_fields.specs.Closed.{adds_known, all_sorted, all_charge}
use Rattle.wire_fields.proofs.closed.sort_numbers.Given as goal

-- the numbers so far are sorted and charged, and those that are left come next
abbrev pub invariant-loop-x : goal.invariant-loop-x
invariant-loop-x g l =
    let of_number = g.E.Enumeration.of_number in
    let rest = drop l.x-index l.numbers in
    record {
      sorted : all_sorted adds_known of_number l.fn.number (l.held.items, l.unknown) rest
          ≡ all_sorted adds_known of_number l.fn.number (l.fn.held.items, l.fn.unknown) l.fn.numbers;
      left : left_after l.context (all_charge of_number rest)
          ≡ left_after l.fn.context (all_charge of_number l.fn.numbers);
      fits : Fits (all_charge of_number rest) l.context
          → Fits (all_charge of_number l.fn.numbers) l.fn.context;
      only : Fits (all_charge of_number l.fn.numbers) l.fn.context
          → Fits (all_charge of_number rest) l.context;
      grew : NoCountGrew l.fn.context l.context;
    }
