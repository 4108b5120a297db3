use Rattle.std.proofs.Common.{refl}
use Rattle.std.proofs.lemmas.List.Elements.{All-from_recursion}
use Rattle.wk_page_rules.specs.History.{text_of_revision}
use Rattle.wk_view_rules.specs.Views.{reads}
use Rattle.wk_view_rules.specs.Worlds.{Read, HasItsText, page_of, of_world}
use Rattle.wk_wiki_rules.specs.StateComputing.{computing}
use Rattle.wk_wiki_rules.specs.States.{world_of}
use Rattle.wk_examples.specs.Wikis.{title_p, race_4}
use Rattle.wk_examples.proofs.runs.honest_reads.Goals as goal

pub returns : goal.returns
unfolding computing
returns c =
    All-from_recursion (λ (r : Read). HasItsText (text_of_revision race_4.history) (page_of r.answer))
    (reads (of_world (world_of race_4)) title_p) (refl, (refl, (refl, tt)))
