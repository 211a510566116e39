use Rattle.wire_base.proofs.Agreeing.{follows_decoding, refuses_as_decoding, skip_is_short, skip_stays}
use Rattle.wire_base.proofs.skip.skip_field_depth.Goals as goal

pub returns-clause-decoded : goal.returns-clause-decoded
returns-clause-decoded g c =
    follows_decoding _ _ _ _ _ c.skip_payload.result c.skip_payload.ensures.ok
    c.skip_payload.ensures.fault

pub returns-clause-refused : goal.returns-clause-refused
returns-clause-refused g c =
    refuses_as_decoding _ _ _ _ _ c.skip_payload.result c.skip_payload.ensures.ok
    c.skip_payload.ensures.fault

pub returns-clause-cut : goal.returns-clause-cut
returns-clause-cut g c =
    skip_is_short _ _ _ _ _ c.skip_payload.result c.skip_payload.ensures.ok
    c.skip_payload.ensures.fault

pub returns-clause-stays : goal.returns-clause-stays
returns-clause-stays g c =
    skip_stays _ _ _ _ (g.B.Buf.unread c.skip_payload.new.buf) c.skip_payload.result
    c.skip_payload.ensures.fault
