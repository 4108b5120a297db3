use Rattle.wk_view_laws.proofs.SeenLemmas.{seen-world, seen-seen}
use Rattle.wk_view_laws.proofs.reads_are_seen.Goals as goal

pub returns-clause-world : goal.returns-clause-world
returns-clause-world c = λ pages page. seen-world pages _

pub returns-clause-seen : goal.returns-clause-seen
returns-clause-seen c = λ seen page is_seen. seen-seen seen is_seen _

pub returns-clause-text_in_a_world : goal.returns-clause-text_in_a_world
returns-clause-text_in_a_world c = λ pages page text. seen-world pages _

pub returns-clause-text_by_what_was_seen : goal.returns-clause-text_by_what_was_seen
returns-clause-text_by_what_was_seen c = λ seen page text is_seen. seen-seen seen is_seen _
