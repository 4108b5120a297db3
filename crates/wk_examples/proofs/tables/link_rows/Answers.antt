use Rattle.std.proofs.Common.{refl}
use Rattle.wk_table_rules.specs.Computing.{computing}
use Rattle.wk_examples.proofs.tables.link_rows.Goals as goal

pub returns-clause-no_page : goal.returns-clause-no_page
unfolding computing
returns-clause-no_page c = refl

pub returns-clause-wrong_namespace : goal.returns-clause-wrong_namespace
unfolding computing
returns-clause-wrong_namespace c = refl

pub returns-clause-not_normal : goal.returns-clause-not_normal
unfolding computing
returns-clause-not_normal c = refl

pub returns-clause-negative : goal.returns-clause-negative
unfolding computing
returns-clause-negative c = refl

pub returns-clause-twice : goal.returns-clause-twice
unfolding computing
returns-clause-twice c = refl

pub returns-clause-titles_out_of_order : goal.returns-clause-titles_out_of_order
unfolding computing
returns-clause-titles_out_of_order c = refl

pub returns-clause-pages_out_of_order : goal.returns-clause-pages_out_of_order
unfolding computing
returns-clause-pages_out_of_order c = refl

pub returns-clause-category_twice : goal.returns-clause-category_twice
unfolding computing
returns-clause-category_twice c = refl

pub returns-clause-category_not_normal : goal.returns-clause-category_not_normal
unfolding computing
returns-clause-category_not_normal c = refl

pub returns-clause-redirects_counted_last : goal.returns-clause-redirects_counted_last
unfolding computing
returns-clause-redirects_counted_last c = refl

pub returns-clause-two_redirects : goal.returns-clause-two_redirects
unfolding computing
returns-clause-two_redirects c = refl

pub returns-clause-one_redirect : goal.returns-clause-one_redirect
unfolding computing
returns-clause-one_redirect c = refl
