use Rattle.std.proofs.Common.{arith}
use Rattle.wk_reports.proofs.Found.{page-titled, place-within}
use Rattle.wk_reports.proofs.pages.page_at.Goals as goal

pub overflow_add-page : goal.overflow_add-page
overflow_add-page c = let at = place-within c.args.live.now.state c.args.place c.requires.kept c.requires.there in omega (arith, at)

pub title_at-requires-clause-there : goal.title_at-requires-clause-there
title_at-requires-clause-there c = (place-within c.args.live.now.state c.args.place c.requires.kept c.requires.there).page

pub rows_of-requires-clause-there : goal.rows_of-requires-clause-there
rows_of-requires-clause-there c = (place-within c.args.live.now.state c.args.place c.requires.kept c.requires.there).stored

pub returns : goal.returns
returns c = page-titled c.args.live.now.state c.args.place c.title_at.result.now c.rows_of.result.now c.title_at.ensures c.rows_of.ensures
