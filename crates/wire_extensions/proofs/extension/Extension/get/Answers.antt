use Rattle.std.proofs.Common.{◌≡◌, ◌∙◌, rules, true, ap, subst}
use Rattle.std.proofs.lemmas.List.{nil_from_length}
use Rattle.std.proofs.lemmas.Result.{err_from_is_err_and}
use Rattle.std.specs.Slice.Iter.{iter_rest}
use Rattle.wire_codec.specs.InRange.{AreFitting, AreNumbered}
use Rattle.wire_codec.specs.UnknownFields.{payload_of, fields_of}
use Rattle.wire_extensions.proofs.Folding.{at_start, one_more, no_more, at_end, as_value}
use Rattle.wire_extensions.proofs.Records.{own_is}
use Rattle.wire_extensions.specs.Extension.{is_own, picked}
use Rattle.wire_extensions.proofs.extension.Extension.get.Goals as goal

pub loop-record-init : goal.loop-record-init
loop-record-init g c =
    let whole : fields_of (iter_rest c.into_iter-record-iterator.result) ≡ c.args.fields.now
    = search rules in
    record {
      next = tt;
      finite = tt;
      fitting = rw whole c.widths_fit.ensures;
      follows = λ numbered. rw (whole, c.empty-held.ensures) (at_start c.limits_add_up.ensures
          c.charges_add_up.ensures g.K.Kind.kind.takes _ _ _ numbered);
      grew = c.counts_fall.ensures.unchanged _;
    }

pub loop-record-preserved-in-Continue-1 : goal.loop-record-preserved-in-Continue-1
loop-record-preserved-in-Continue-1 g c =
    let f = c.in-Some.record.now in
    let owns = is_own c.args.self.now.number c.args.self.now.types in
    let rest = fields_of (iter_rest c.next.new.self) in
    let own : owns f.number (payload_of f.value) ≡ true = search rules in
    let steps = ap fields_of c.in-Some.ensures.steps in
    let is = ap (picked owns) steps ∙ own_is owns f.number (payload_of f.value) rest own in
    record {
      next = tt;
      finite = tt;
      fitting = (subst AreFitting steps c.loop-record.invariant.fitting).1;
      follows = λ numbered.
          let h = c.loop-record.invariant.follows numbered in
          let one = c.in_ok-take_record.ensures.ok (subst AreNumbered is h.numbered).1 in
          one_more c.limits_add_up.ensures c.charges_add_up.ensures g.K.Kind.kind.takes
          _ _ _ _ _ _ _ _ _ _ _ one.charge h is one.taken one.left;
      grew = c.counts_fall.ensures.again _ _ _ c.loop-record.invariant.grew
          c.take_record.ensures.counts;
    }

pub returns-in_err-take_record-clause-err : goal.returns-in_err-take_record-clause-err
returns-in_err-take_record-clause-err g c =
    let p = err_from_is_err_and c.from_residual.result c.from_residual.ensures.1 in
    let f = c.in-Some.record.now in
    let owns = is_own c.args.self.now.number c.args.self.now.types in
    let rest = fields_of (iter_rest c.next.new.self) in
    let own : owns f.number (payload_of f.value) ≡ true = search rules in
    let is = ap (picked owns) (ap fields_of c.in-Some.ensures.steps)
    ∙ own_is owns f.number (payload_of f.value) rest own in
    rw (p.1, p.2) (λ other numbered single charge z h.
    let here = c.loop-record.invariant.follows numbered in
    no_more c.limits_add_up.ensures c.charges_add_up.ensures g.K.Kind.kind.takes _ _ _ _ _ _ _ _ _
    here is (c.in_err-take_record.ensures.err other (subst AreNumbered is here.numbered).1)
    single charge z h.folded h.fits)

pub returns-clause-ok : goal.returns-clause-ok
returns-clause-ok g c = λ numbered.
    let owns = is_own c.args.self.now.number c.args.self.now.types in
    let end = nil_from_length (iter_rest c.loop-record.record-iterator) c.in-None.ensures.steps.0 in
    as_value g.K.Kind.kind owns _ _ _ _ (at_end c.limits_add_up.ensures c.charges_add_up.ensures
    g.K.Kind.kind.takes _ _ _ _ _ _ (c.loop-record.invariant.follows numbered)
    (ap (picked owns) (ap fields_of end)))
