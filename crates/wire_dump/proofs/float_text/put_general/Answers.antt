use Rattle.wire_dump.proofs.Behind.{IsBehind, further}
use Rattle.wire_dump.proofs.float_text.put_general.Goals as goal

pub returns-then-exponent-lt0 : goal.returns-then-exponent-lt0
returns-then-exponent-lt0 c =
    let old = c.args.out.now.items in
    let one = c.extend_from_slice.new.self.items in
    let two = c.extend_from_slice-then-exponent-lt0.new.self.items in
    let three = c.put_zeros.new.out.items in
    let four = c.extend_from_slice-then-exponent-lt0-2.new.self.items in
    let new = c.extend_from_slice-then-exponent-lt0-3.new.self.items in
    let to_one : IsBehind old one = (_, c.in_ok-extend_from_slice.ensures.items) in
    let to_two : IsBehind one two = (_, c.in_ok-extend_from_slice-2.ensures.items) in
    let to_three : IsBehind two three = c.in_ok-put_zeros.ensures in
    let to_four : IsBehind three four = (_, c.in_ok-extend_from_slice-3.ensures.items) in
    let to_all = further old three four
    (further old two three (further old one two to_one to_two) to_three) to_four in
    further old four new to_all (_, c.in_ok-extend_from_slice-4.ensures.items)
