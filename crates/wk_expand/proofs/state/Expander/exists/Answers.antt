use Rattle.std.proofs.Common.{None, Some, sym, ◌∙◌}
use Rattle.wk_view_rules.specs.Expand.{existence_output, function_output, operand}
use Rattle.wk_view_rules.specs.declared.Func.TheVariants.{IfExist}
use Rattle.wk_expand.proofs.DecideLaws.{exist-by}
use Rattle.wk_expand.proofs.ExistsLaws.{by_test}
use Rattle.wk_expand.proofs.RunLaws.{comes-in, comes-itself, leads-as}
use Rattle.wk_expand.proofs.state.Expander.exists.Goals as goal

pub returns-in-Some-clause-leads : goal.returns-in-Some-clause-leads
returns-in-Some-clause-leads c =
    λ inner viewed frame parts.
    leads-as c.args.seen.now (function_output inner viewed frame IfExist c.args.first.now parts) (existence_output inner viewed frame c.in-Some.title parts) c.args.self.now (by_test inner viewed frame parts) c.tested_existence.result c.tested_existence.new.self
    (exist-by inner viewed frame c.args.first.now parts (Some c.in-Some.title) (sym c.in_ok-title.ensures ∙ c.in-Some.is))
    (c.tested_existence.ensures.leads inner viewed frame parts)

pub returns-in-None-clause-leads : goal.returns-in-None-clause-leads
returns-in-None-clause-leads c =
    λ inner viewed frame parts.
    comes-in c.args.seen.now (function_output inner viewed frame IfExist c.args.first.now parts) (operand inner viewed frame 3 parts) (operand inner viewed frame 3 parts) c.args.self.now c.args.self.now
    (exist-by inner viewed frame c.args.first.now parts None (sym c.in_ok-title.ensures ∙ c.in-None.is))
    (comes-itself c.args.seen.now (operand inner viewed frame 3 parts) c.args.self.now)
