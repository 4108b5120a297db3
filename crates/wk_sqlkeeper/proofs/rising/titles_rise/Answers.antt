use Rattle.std.proofs.Common.{rules, is_lt}
use Rattle.std.proofs.lemmas.List.Sorted.{answers_always}
use Rattle.wk_text_rules.specs.Titles.{title_cmp}
use Rattle.wk_sqltables.proofs.LinkSets.{title_total}
use Rattle.wk_sqlkeeper.proofs.RisingLists.{rises_is}
use Rattle.wk_sqlkeeper.proofs.rising.titles_rise.Goals as goal

pub returns : goal.returns
returns c = rises_is title_cmp title_total c.args.titles.now c.is_sorted_by.result (c.is_sorted_by.ensures.cases (λ a b. is_lt (title_cmp a b)) (answers_always _ _ _ (λ f a r g called. search rules)))
