use Rattle.wire_jsonfields.specs.Batch.{TemplateTrees, template-value}
use Rattle.wire_jsonfields.proofs.Untold.{chosen_untold}
use Rattle.wire_jsonfields.proofs.origin.OriginTemplateJsonChoice.write.Goals as goal

pub returns-clause-no_text : goal.returns-clause-no_text
returns-clause-no_text c =
    chosen_untold TemplateTrees (λ h. h.now) template-value _ _ c.template_of.ensures
    c.write_chosen.result c.write_chosen.ensures.no_text
