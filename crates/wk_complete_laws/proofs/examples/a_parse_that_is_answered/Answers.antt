use Rattle.std.proofs.Common.{◌≡◌, Some, lit≤, refl, sym, subst, ◌∙◌, true}
use Rattle.wk_answer_rules.specs.Computing.{computing}
use Rattle.wk_page_rules.specs.History.{page_exists}
use Rattle.wk_wiki_rules.specs.States.{State}
use Rattle.wk_wiki_rules.specs.Passes.{state_seen}
use Rattle.wk_session_rules.specs.Replies.{read}
use Rattle.wk_complete_laws.specs.Example.{saved_a, seen_behind, title_a}
use Rattle.wk_complete_laws.proofs.examples.a_parse_that_is_answered.Goals as goal

stands : state_seen seen_behind 1 ≡ Some saved_a
unfolding computing
stands = refl

exists : page_exists saved_a.history title_a ≡ true
unfolding computing
exists = refl

same : (one other : State) → Some one ≡ Some other → one ≡ other
same one other e = cc

pub returns-clause-named : goal.returns-clause-named
unfolding computing
returns-clause-named c = refl

pub returns-clause-reached : goal.returns-clause-reached
unfolding computing
returns-clause-reached c = lit≤ tt

pub returns-clause-there : goal.returns-clause-there
unfolding computing
returns-clause-there c = λ state is. subst (λ (s : State). page_exists s.history title_a ≡ true) (same saved_a state (sym stands ∙ is)) exists

pub returns-clause-answered : goal.returns-clause-answered
unfolding computing
returns-clause-answered c = read {point = 1} {state = saved_a} refl (record { later = lit≤ tt; seen = lit≤ tt; stands = stands }) refl

pub returns-clause-told : goal.returns-clause-told
unfolding computing
returns-clause-told c = refl
