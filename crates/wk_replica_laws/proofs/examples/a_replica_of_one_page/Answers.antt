use Rattle.std.proofs.Common.{◌≡◌, codes, refl, ◌∙◌}
use Rattle.wk_feed_rules.specs.Computing.{computing as feeds}
use Rattle.wk_feed_rules.specs.Taking.{fed, running, told}
use Rattle.wk_answer_rules.specs.Computing.{computing as answers}
use Rattle.wk_replica_laws.specs.Replies.{one_page_lines, one_page_run, refreshed, reply_in}
use Rattle.wk_replica_laws.proofs.Behind.{replies-as}
use Rattle.wk_replica_laws.proofs.examples.a_replica_of_one_page.Goals as goal

tells : fed one_page_lines ≡ told (running one_page_run)
unfolding feeds
tells = refl

parse_is : reply_in refreshed 3 (codes "action=parse&page=A") ≡ codes "{\"parse\":{\"categories\":[],\"expanded\":\"x\",\"links\":[],\"pageid\":1,\"revid\":1,\"templates\":[],\"title\":\"A\"},\"point\":3}"
unfolding answers
parse_is = refl

pub returns-clause-parse : goal.returns-clause-parse
returns-clause-parse c replica has = replies-as one_page_lines one_page_run tells replica has (codes "action=parse&page=A") ∙ parse_is

early_is : reply_in refreshed 3 (codes "action=parse&page=A&minpoint=4") ≡ codes "{\"error\":{\"code\":\"futurepoint\",\"info\":\"That point is not reached yet.\",\"latest\":3},\"point\":3}"
unfolding answers
early_is = refl

pub returns-clause-early : goal.returns-clause-early
returns-clause-early c replica has = replies-as one_page_lines one_page_run tells replica has (codes "action=parse&page=A&minpoint=4") ∙ early_is

edit_is : reply_in refreshed 3 (codes "action=edit&title=A&text=y&token=%2B%5C") ≡ codes "{\"error\":{\"code\":\"readonly\",\"info\":\"This wiki is read only.\"},\"point\":3}"
unfolding answers
edit_is = refl

pub returns-clause-edit : goal.returns-clause-edit
returns-clause-edit c replica has = replies-as one_page_lines one_page_run tells replica has (codes "action=edit&title=A&text=y&token=%2B%5C") ∙ edit_is

early_edit_is : reply_in refreshed 3 (codes "action=edit&title=A&text=y&minpoint=4&token=%2B%5C") ≡ codes "{\"error\":{\"code\":\"readonly\",\"info\":\"This wiki is read only.\"},\"point\":3}"
unfolding answers
early_edit_is = refl

pub returns-clause-early_edit : goal.returns-clause-early_edit
returns-clause-early_edit c replica has = replies-as one_page_lines one_page_run tells replica has (codes "action=edit&title=A&text=y&minpoint=4&token=%2B%5C") ∙ early_edit_is

substituted_is : reply_in refreshed 3 (codes "action=edit&title=A&text={{subst:B}}&subst&token=%2B%5C") ≡ codes "{\"error\":{\"code\":\"readonly\",\"info\":\"This wiki is read only.\"},\"point\":3}"
unfolding answers
substituted_is = refl

pub returns-clause-substituted : goal.returns-clause-substituted
returns-clause-substituted c replica has = replies-as one_page_lines one_page_run tells replica has (codes "action=edit&title=A&text={{subst:B}}&subst&token=%2B%5C") ∙ substituted_is

deletion_is : reply_in refreshed 3 (codes "action=delete&title=A&token=%2B%5C") ≡ codes "{\"error\":{\"code\":\"readonly\",\"info\":\"This wiki is read only.\"},\"point\":3}"
unfolding answers
deletion_is = refl

pub returns-clause-deletion : goal.returns-clause-deletion
returns-clause-deletion c replica has = replies-as one_page_lines one_page_run tells replica has (codes "action=delete&title=A&token=%2B%5C") ∙ deletion_is

no_token_is : reply_in refreshed 3 (codes "action=edit&title=A&text=y") ≡ codes "{\"error\":{\"code\":\"badtoken\",\"info\":\"Invalid token.\"},\"point\":3}"
unfolding answers
no_token_is = refl

pub returns-clause-no_token : goal.returns-clause-no_token
returns-clause-no_token c replica has = replies-as one_page_lines one_page_run tells replica has (codes "action=edit&title=A&text=y") ∙ no_token_is
