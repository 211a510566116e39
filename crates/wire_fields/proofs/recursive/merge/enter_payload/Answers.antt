use Rattle.std.proofs.Common.{◌≡◌, ℕ, ◌-◌, ◌<◌, ◌≤◌, List, length, take, drop, sym, arith, length-drop, take-append-drop}
use Rattle.std.proofs.lemmas.List.{length-take-le}
use Rattle.std.proofs.lemmas.Result.{err_from_is_err_and}
use Rattle.wire_codec.specs.Delimited.{IsDelimited}
use Rattle.wire_codec.specs.Limits.{Limits, inner}
use Rattle.wire_codec.specs.Read.{Reads}
use Rattle.wire_codec.proofs.DelimitedLists.{no_delimited}
use Rattle.wire_fields.specs.NestPayload.{Enters}
use Rattle.wire_fields.specs.NestTable.{family_takes}
use Rattle.wire_fields.proofs.recursive.merge.enter_payload.Goals as goal

pub returns-in_err-len-clause-err : goal.returns-in_err-len-clause-err
returns-in_err-len-clause-err g c =
    let p = err_from_is_err_and c.from_residual-in_err-len.result
    c.from_residual-in_err-len.ensures.1 in
    rw (p.1) (λ s m. λ charge z new h. no_delimited c.delimited_is_read.ensures
    (family_takes g.T.RecursiveHeld.family s) _ _ _ _ _ c.in_err-len.ensures.fault charge z new
    h.taken)

-- a length that was read, and as many bytes at the front of those behind it
entered : (l k : Limits) (old now : List ℕ) (total len : ℕ) → 0 < l.depth → k ≡ inner l
    → Reads old (IsDelimited (take len now)) (drop len now) → len ≤ 2147483647
    → total ≡ length now → len ≤ length now → Enters l k old now (total - len)
entered l k old now total len level inside read short all there = record {
  level = level;
  inside = inside;
  payload = take len now;
  behind = drop len now;
  read = read;
  short = omega (arith, length-take-le len now there);
  parts = sym (take-append-drop len now);
  rest_is = omega (arith, length-drop len now);
}

pub returns-clause-ok : goal.returns-clause-ok
returns-clause-ok g c =
    let level = c.in_ok-descend.ensures in
    let len = c.in_ok-len.ensures in
    entered _ _ _ _ _ _ level.taken level.ok len.payload len.within c.remaining.ensures len.there
