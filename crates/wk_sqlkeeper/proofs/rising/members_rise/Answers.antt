use Rattle.std.proofs.Common.{◌∙◌, rules, is_lt, sym}
use Rattle.std.proofs.lemmas.Cmp.{on_total}
use Rattle.std.proofs.lemmas.List.Sorted.{answers_always}
use Rattle.wk_table_rows.specs.Members.{member_of}
use Rattle.wk_table_rules.specs.Rows.{category_title}
use Rattle.wk_sqltables.specs.Members.{category_cmp}
use Rattle.wk_sqltables.proofs.LinkSets.{title_total}
use Rattle.wk_sqlkeeper.proofs.RisingLists.{rises_is, rises_of}
use Rattle.wk_sqlkeeper.proofs.rising.members_rise.Goals as goal

pub returns : goal.returns
returns c =
    let members = c.args.members.now in
    rises_is (λ a b. category_cmp (member_of a) (member_of b)) (on_total (λ m. category_title (member_of m).category.key) title_total) members c.is_sorted_by.result
    (c.is_sorted_by.ensures.cases (λ a b. is_lt (category_cmp (member_of a) (member_of b))) (answers_always _ _ _ (λ f a r g called. search rules)))
    ∙ sym (rises_of member_of category_cmp members)
