use Rattle.std.proofs.Common.{◌≡◌, [], ◌∷◌, codes, Some, refl}
use Rattle.wk_page_rules.specs.Verdict.{full_limits}
use Rattle.wk_wiki_rules.specs.Calls.{CallsMake, IsMade, by_claim, by_finish, by_save, no_call, one_more}
use Rattle.wk_wiki_rules.specs.Events.{Claim, Done, Save, step}
use Rattle.wk_wiki_rules.specs.States.{no_state}
use Rattle.wk_wiki_rules.specs.Steps.{fan_pages}
use Rattle.wk_feed_rules.specs.Computing.{computing}
use Rattle.wk_feed_rules.specs.Taking.{plain_save}
use Rattle.wk_feed_examples.specs.Wikis.{claimed, claimed_events, page_a, refreshed, saved}
use Rattle.wk_feed_examples.proofs.a_save_and_its_refresh.Goals as goal

pub returns-clause-lines : goal.returns-clause-lines
unfolding computing
returns-clause-lines c = refl

pub returns-clause-bytes : goal.returns-clause-bytes
unfolding computing
returns-clause-bytes c = refl

pub returns-clause-cut_again : goal.returns-clause-cut_again
unfolding computing
returns-clause-cut_again c = refl

pub returns-clause-told : goal.returns-clause-told
unfolding computing
returns-clause-told c = refl

-- ---- the calls that make the events

save-made : IsMade full_limits no_state 0 (Save page_a (Some (codes "x")) 7)
unfolding computing
save-made = by_save (plain_save (codes "A") (Some (codes "x"))) refl

save-stepped : step no_state 0 (Save page_a (Some (codes "x")) 7) ≡ Some saved
unfolding computing
save-stepped = refl

claim-made : IsMade full_limits saved 1 Claim
claim-made = by_claim refl

claim-stepped : step saved 1 Claim ≡ Some claimed
unfolding computing
claim-stepped = refl

done-made : IsMade full_limits claimed 2 (Done 2)
done-made = by_finish 1 refl

done-stepped : step claimed 2 (Done 2) ≡ Some refreshed
unfolding computing
done-stepped = refl

save-called : CallsMake fan_pages full_limits no_state (Save page_a (Some (codes "x")) 7 ∷ []) saved
save-called = one_more {state = no_state} {events = []} {event = Save page_a (Some (codes "x")) 7} no_call save-made save-stepped

claim-called : CallsMake fan_pages full_limits no_state claimed_events claimed
claim-called = one_more {state = saved} {events = Save page_a (Some (codes "x")) 7 ∷ []} {event = Claim} save-called claim-made claim-stepped

pub returns-clause-calls : goal.returns-clause-calls
returns-clause-calls c = one_more {state = claimed} {events = claimed_events} {event = Done 2} claim-called done-made done-stepped
