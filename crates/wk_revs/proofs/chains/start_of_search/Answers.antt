use Rattle.std.proofs.Common.{sym, ◌∙◌}
use Rattle.wk_revs.proofs.ChainLaws.{above_before, above_newest}
use Rattle.wk_revs.proofs.chains.start_of_search.Goals as goal

pub returns-in-Some : goal.returns-in-Some
returns-in-Some c =
    let place = c.in-Some.ensures.lookup.3 in
    above_before _ _ _ _ _ _ c.requires.chains place.0 (sym (place.1 0) ∙ c.if-owner-page.true) c.link_at.ensures

pub returns-in_default : goal.returns-in_default
returns-in_default c = above_newest _ _ _ _ _ _ c.requires.chains c.requires.page c.newest_of.ensures
