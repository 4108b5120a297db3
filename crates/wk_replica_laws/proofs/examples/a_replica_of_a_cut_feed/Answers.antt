use Rattle.std.proofs.Common.{◌≡◌, codes, refl, ◌∙◌}
use Rattle.wk_feed_rules.specs.Computing.{computing as feeds}
use Rattle.wk_feed_rules.specs.Taking.{fed, running, told}
use Rattle.wk_answer_rules.specs.Computing.{computing as answers}
use Rattle.wk_replica_laws.specs.Replies.{cut_lines, cut_run, claimed, reply_in}
use Rattle.wk_replica_laws.proofs.Behind.{replies-as}
use Rattle.wk_replica_laws.proofs.examples.a_replica_of_a_cut_feed.Goals as goal

tells : fed cut_lines ≡ told (running cut_run)
unfolding feeds
tells = refl

parse_is : reply_in claimed 2 (codes "action=parse&page=A") ≡ codes "{\"parse\":{\"categories\":[],\"expanded\":\"x\",\"links\":[],\"pageid\":1,\"revid\":1,\"templates\":[],\"title\":\"A\"},\"point\":2}"
unfolding answers
parse_is = refl

pub returns : goal.returns
returns c replica has = replies-as cut_lines cut_run tells replica has (codes "action=parse&page=A") ∙ parse_is
