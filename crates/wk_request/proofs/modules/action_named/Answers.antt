use Rattle.wk_request_rules.specs.declared.Module.TheVariants.{Edit, Delete, Parse, ExpandTemplates}
use Rattle.wk_request.proofs.Calls.{none-of-four}
use Rattle.wk_request.proofs.modules.action_named.Goals as goal

pub returns-in_default : goal.returns-in_default
returns-in_default c =
    none-of-four _ _ _ _ _ Edit Delete Parse ExpandTemplates c.in_default.not-edit c.in_default.not-delete c.in_default.not-parse c.in_default.not-expandtemplates
