use Rattle.wk_wiki_laws.proofs.Always.{IsSound-lives, IsSound-lives_of_store, IsSound-replayed}
use Rattle.wk_wiki_laws.proofs.soundness.a_wiki_is_sound_at_all_times.Goals as goal

pub returns-clause-journal : goal.returns-clause-journal
returns-clause-journal c = IsSound-replayed

pub returns-clause-lives : goal.returns-clause-lives
returns-clause-lives c = IsSound-lives

pub returns-clause-lives_of_a_store : goal.returns-clause-lives_of_a_store
returns-clause-lives_of_a_store c = IsSound-lives_of_store
