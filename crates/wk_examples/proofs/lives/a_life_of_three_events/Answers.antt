use Rattle.std.proofs.Common.{codes, lit≤, None, refl, Some, true}
use Rattle.wk_wiki_rules.specs.Events.{Claim, Done}
use Rattle.wk_wiki_rules.specs.Computing.{computing}
use Rattle.wk_life_laws.specs.Next.{Begins, IsNext}
use Rattle.wk_life_laws.proofs.Lives.{claimed_life, done_life, empty_life, saved_life, sealed_life}
use Rattle.wk_examples.specs.Lived.{first_save, life_0, life_1, life_2, life_3, small_start}
use Rattle.wk_examples.specs.Wikis.{edit_of_a, members_text, small, title_p}
use Rattle.wk_examples.proofs.lives.a_life_of_three_events.Goals as goal

begun : Begins life_0 small_start
begun = empty_life (small 9) true (record { pages = lit≤ tt; text = lit≤ tt })

saved : IsNext life_0 first_save life_1
unfolding computing
saved = saved_life life_0 0 11 (record (edit_of_a None members_text) { title = codes "P" }) title_p (Some members_text) begun.is refl refl refl

claimed : IsNext life_1 Claim life_2
unfolding computing
claimed = claimed_life life_1 1 1 saved.is refl refl refl

done : IsNext life_2 (Done 2) life_3
unfolding computing
done = done_life life_2 2 1 claimed.is refl

pub returns-clause-begun : goal.returns-clause-begun
returns-clause-begun c = begun

pub returns-clause-saved : goal.returns-clause-saved
returns-clause-saved c = saved

pub returns-clause-claimed : goal.returns-clause-claimed
returns-clause-claimed c = claimed

pub returns-clause-done : goal.returns-clause-done
returns-clause-done c = done

pub returns-clause-life : goal.returns-clause-life
returns-clause-life c = done.is

pub returns-clause-journal : goal.returns-clause-journal
unfolding computing
returns-clause-journal c = refl

pub returns-clause-start : goal.returns-clause-start
unfolding computing
returns-clause-start c = refl

pub returns-clause-sealed : goal.returns-clause-sealed
unfolding computing
returns-clause-sealed c = sealed_life life_3 3 done.is refl

pub returns-clause-sealed_start : goal.returns-clause-sealed_start
unfolding computing
returns-clause-sealed_start c = refl
