use Rattle.std.proofs.Common.{◌≡◌, map, take}
use Rattle.serde_json.specs.View.{view}
use Rattle.wk_answer_rules.specs.Lists.{page_entries}
use Rattle.wk_answer_rules.specs.Values.{object_of}
use Rattle.wk_listings.proofs.by_page.told_all.Given as goal

abbrev pub invariant-loop-page : goal.invariant-loop-page
invariant-loop-page l = map view l.values.items ≡ map (λ page. object_of (page_entries l.revs.history page)) (take l.page-index l.pages)
