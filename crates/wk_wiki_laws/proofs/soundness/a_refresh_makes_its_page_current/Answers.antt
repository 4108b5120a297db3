use Rattle.wk_wiki_laws.proofs.Refreshed.{IsCurrent-done, IsSound-done, covered-done, stored-done}
use Rattle.wk_wiki_laws.proofs.soundness.a_refresh_makes_its_page_current.Goals as goal

pub returns-clause-current : goal.returns-clause-current
returns-clause-current c = IsCurrent-done

pub returns-clause-other_rows : goal.returns-clause-other_rows
returns-clause-other_rows c = stored-done

pub returns-clause-other_cover : goal.returns-clause-other_cover
returns-clause-other_cover c = covered-done

pub returns-clause-sound : goal.returns-clause-sound
returns-clause-sound c = IsSound-done
