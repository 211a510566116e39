use Rattle.std.proofs.Common.{◌≡◌, ◌∙◌, take, sym, ap, subst, rules}
use Rattle.std.proofs.lemmas.Result.{err_from_is_err_and, IfErr-weaker}
use Rattle.wire_codec.specs.Packed.{Appends}
use Rattle.wire_fields.specs.Packed.{IsNumberText}
use Rattle.wire_fields.proofs.NumberTexts.{take_within}
use Rattle.wire_fields.proofs.number_list.extend_from.Goals as goal

pub returns-in_err-extend-clause-err : goal.returns-in_err-extend-clause-err
returns-in_err-extend-clause-err g c =
    let r = c.from_residual-in_err-extend in
    let p = err_from_is_err_and r.result r.ensures.1 in
    let same : take c.args.len c.chunk-chunk.result.now
    ≡ take c.args.len (g.B.Buf.unread c.args.buf.now) =
    ap (take c.args.len) (sym c.chunk-chunk.ensures.front)
    ∙ take_within c.args.len _ _ c.if-chunk-len.false in
    rw (p.1, p.2) (λ other after k. c.in_err-extend.ensures.err other after
    (subst (λ t. Appends (IsNumberText g.N.Number.form) g.N.Number.map t c.args.values.now.items
    after) (sym same) k))

pub returns-then-chunk-len-clause-err : goal.returns-then-chunk-len-clause-err
returns-then-chunk-len-clause-err g c =
    let same : c.as_slice.result.now ≡ take c.args.len (g.B.Buf.unread c.args.buf.now) =
    search rules in
    IfErr-weaker c.extend.result _ _ (λ e none other after k. none other after
    (subst (λ t. Appends (IsNumberText g.N.Number.form) g.N.Number.map t c.args.values.now.items
    after) (sym same) k)) c.extend.ensures.err
