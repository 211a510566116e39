use Rattle.std.proofs.Common.{ap, map, ◌∙◌}
use Rattle.std.specs.Prelude.{string_bytes}
use Rattle.wire_well_known_json.specs.Masks.{mask_of}
use Rattle.wire_well_known_json.proofs.MaskBack.{no_text}
use Rattle.wire_well_known_json.proofs.masks.mask_text.Goals as goal

pub returns-in-Ok : goal.returns-in-Ok
returns-in-Ok c =
    no_text (map string_bytes c.args.paths.now) (string_bytes c.in-Ok.text)
    (ap (λ v. v.items) c.in-Ok.ensures.ok ∙ c.in_ok-text_of.ensures)
    (λ utf8 means. rw c.if-branch.false at c.in_ok-stands_for-in-Ok.ensures
    (ap mask_of c.as_str.ensures.value ∙ means))

pub returns : goal.returns
returns c =
    no_text (map string_bytes c.args.paths.now) c.in_ok-text_of.field-0.items
    c.in_ok-text_of.ensures
    (λ utf8 means. let unlike = c.in-Err.ensures.succeeds utf8 in absurd cc)
