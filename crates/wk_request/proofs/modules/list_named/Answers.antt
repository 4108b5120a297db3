use Rattle.wk_request_rules.specs.declared.Module.TheVariants.{Backlinks, EmbeddedIn, CategoryMembers, RecentChanges}
use Rattle.wk_request.proofs.Calls.{none-of-four}
use Rattle.wk_request.proofs.modules.list_named.Goals as goal

pub returns-in_default : goal.returns-in_default
returns-in_default c =
    none-of-four _ _ _ _ _ Backlinks EmbeddedIn CategoryMembers RecentChanges c.in_default.not-backlinks c.in_default.not-embeddedin c.in_default.not-categorymembers c.in_default.not-recentchanges
