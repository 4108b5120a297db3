use Rattle.std.proofs.Common.{◌∙◌, ap, inr}
use Rattle.wk_wiki_rules.specs.Lives.{opened}
use Rattle.wk_sqlmemory_laws.proofs.an_older_database_has_its_wiki.Goals as goal

pub adopt-requires : goal.adopt-requires
adopt-requires c = inr (inr c.requires.older)

pub returns-in-Ok-load : goal.returns-in-Ok-load
returns-in-Ok-load c tables keeps range = c.in-Ok-load.ensures.state.1 ∙ ap opened (c.in-Ok.ensures.older tables keeps range)
