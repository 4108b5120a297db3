use Rattle.std.proofs.Common.{sym, ◌∙◌}
use Rattle.wk_cache.proofs.Keys.{entry-found}
use Rattle.wk_cache.proofs.entries.find.Goals as goal

pub returns : goal.returns
returns c = c.peek.ensures ∙ sym (entry-found c.args.page.now c.args.kept.now.entries c.requires)
