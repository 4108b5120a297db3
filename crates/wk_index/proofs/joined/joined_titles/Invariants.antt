use Rattle.std.proofs.Common.{◌≡◌, take}
use Rattle.wk_text_rules.specs.Titles.{title_eq}
use Rattle.wk_wiki_rules.specs.Names.{joined}
use Rattle.wk_index.proofs.joined.joined_titles.Given as goal

abbrev pub invariant-loop-title : goal.invariant-loop-title
invariant-loop-title l = l.titles.items ≡ joined title_eq l.old (take l.title-index l.new)
