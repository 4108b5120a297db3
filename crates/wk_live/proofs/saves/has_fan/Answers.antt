use Rattle.std.proofs.Common.{ap, ◌∙◌}
use Rattle.std.specs.Prelude.{is_some}
use Rattle.wk_text_rules.specs.Titles.{title_eq}
use Rattle.wk_wiki_rules.specs.Jobs.{FanEntry}
use Rattle.wk_live.proofs.SaveLaws.{some_found}
use Rattle.wk_live.proofs.saves.has_fan.Goals as goal

pub returns-in-Some : goal.returns-in-Some
returns-in-Some c = ap (λ o. is_some o) c.in-Some.ensures ∙ some_found (λ (job : FanEntry). title_eq job.title c.args.title.now) c.args.jobs.now.lists.fans

pub returns-in-None : goal.returns-in-None
returns-in-None c = ap (λ o. is_some o) c.in-None.ensures ∙ some_found (λ (job : FanEntry). title_eq job.title c.args.title.now) c.args.jobs.now.lists.fans
