use Rattle.wk_wiki_laws.proofs.TwoHalves.{names-both, links-both, members-both}
use Rattle.wk_wiki_laws.proofs.listings.a_page_is_found_by_both.Goals as goal

pub returns-clause-named : goal.returns-clause-named
returns-clause-named c = names-both

pub returns-clause-linked : goal.returns-clause-linked
returns-clause-linked c = links-both

pub returns-clause-member : goal.returns-clause-member
returns-clause-member c = members-both
