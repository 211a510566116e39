use Rattle.std.proofs.Common.{map, subst, sym, ap}
use Rattle.std.specs.Prelude.{IsUtf8, string_bytes}
use Rattle.wire_well_known_json.proofs.MaskTexts.{last_utf8, path_utf8}
use Rattle.wire_well_known_json.proofs.masks.paths_of.Goals as goal

pub in_text-requires : goal.in_text-requires
in_text-requires c =
    let path = c.loop-byte.path.items in
    let utf8 = path_utf8 (map string_bytes c.loop-byte.paths.items) path
    c.as_bytes-bytes.result.now c.loop-byte.byte-index c.as_bytes-bytes.ensures.utf8
    c.loop-byte.invariant c.loop-byte-test.true c.if-byte-eq44.true in
    subst IsUtf8 (sym (ap (λ v. v.items) c.replace-whole.ensures.value)) utf8

pub in_text-requires-2 : goal.in_text-requires-2
in_text-requires-2 c =
    last_utf8 (map string_bytes c.loop-byte.paths.items) c.loop-byte.path.items
    c.as_bytes-bytes.result.now c.loop-byte.byte-index c.as_bytes-bytes.ensures.utf8
    c.loop-byte.invariant c.loop-byte-test.false
