use Rattle.std.proofs.Common.{◌≡◌, codes, refl, ◌∙◌}
use Rattle.wk_answer_rules.specs.Computing.{computing as answers}
use Rattle.wk_wiki_rules.specs.States.{no_state}
use Rattle.wk_replica_laws.specs.Replies.{reply_in}
use Rattle.wk_replica_laws.proofs.Behind.{replies-new}
use Rattle.wk_replica_laws.proofs.examples.a_replica_before_its_start.Goals as goal

parse_is : reply_in no_state 0 (codes "action=parse&page=A") ≡ codes "{\"error\":{\"code\":\"missingtitle\",\"info\":\"The page does not exist.\"},\"point\":0}"
unfolding answers
parse_is = refl

pub returns : goal.returns
returns c replica has = replies-new replica has (codes "action=parse&page=A") ∙ parse_is
