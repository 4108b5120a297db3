use Rattle.wk_wiki_laws.proofs.Opened.{IsSound-opened_old, IsSound-opened}
use Rattle.wk_wiki_laws.proofs.Always.{IsSound-lives_of_store}
use Rattle.wk_wiki_laws.proofs.GoodOpened.{IsWellFormed-opened}
use Rattle.wk_wiki_laws.proofs.stores.a_wiki_over_good_tables_is_sound_at_all_times.Goals as goal

pub returns-clause-first_version : goal.returns-clause-first_version
returns-clause-first_version c = λ tables journals last good old lives.
    IsSound-lives_of_store tables journals last (IsWellFormed-opened tables good) (IsSound-opened_old tables old) lives

pub returns-clause-sound_rows : goal.returns-clause-sound_rows
returns-clause-sound_rows c = λ tables journals last good sound lives.
    IsSound-lives_of_store tables journals last (IsWellFormed-opened tables good) (IsSound-opened tables sound) lives
