use Rattle.std.proofs.Common.{◌∷◌, [], Some, None, refl, lit≤, sym, subst, codes}
use Rattle.wk_wiki_rules.specs.Steps.{fan_pages}
use Rattle.wk_wiki_rules.specs.StateComputing.{computing}
use Rattle.wk_wiki_rules.specs.States.{no_state}
use Rattle.wk_wiki_rules.specs.Events.{Save, Claim, Done}
use Rattle.wk_wiki_rules.specs.Soundness.{IsSound}
use Rattle.wk_wiki_laws.specs.Reached.{IsReached, empty, loaded, stepped}
use Rattle.wk_wiki_laws.proofs.Sound.{IsSound-none, IsSound-reopened}
use Rattle.wk_wiki_laws.proofs.Formed.{IsWellFormed-none}
use Rattle.wk_wiki_laws.proofs.Always.{IsSound-replayed}
use Rattle.wk_wiki_laws.proofs.Reached.{state_of-reached}
use Rattle.wk_wiki_rules.specs.Calls.{by_save, by_claim, by_finish}
use Rattle.wk_examples.specs.Wikis.{title_p, members_text, members_1, members_2, members_3, edit_of_a, small, old_tables, opened_0, opened_1, opened_2}
use Rattle.wk_examples.proofs.runs.reached_states.Goals as goal

pub returns-clause-limits : goal.returns-clause-limits
returns-clause-limits c = record { pages = lit≤ tt; text = lit≤ tt }

reached-members : IsReached members_3
unfolding computing
reached-members =
    stepped {most = small 9} {state = members_2} {next = members_3} {journal = 2} {event = Done 2} fan_pages
    (stepped {most = small 9} {state = members_1} {next = members_2} {journal = 1} {event = Claim} fan_pages
    (stepped {most = small 9} {state = no_state} {next = members_1} {journal = 0} {event = Save title_p (Some members_text) 11} fan_pages
    empty (record { pages = lit≤ tt; text = lit≤ tt }) (by_save (record (edit_of_a None members_text) { title = codes "P" }) refl) refl)
    (record { pages = lit≤ tt; text = lit≤ tt }) (by_claim refl) refl)
    (record { pages = lit≤ tt; text = lit≤ tt })
    (by_finish 1 refl) refl

pub returns-clause-from_nothing : goal.returns-clause-from_nothing
returns-clause-from_nothing c = reached-members

pub returns-clause-from_a_store : goal.returns-clause-from_a_store
unfolding computing
returns-clause-from_a_store c =
    stepped {most = small 9} {state = opened_1} {next = opened_2} {journal = 1} {event = Done 1} fan_pages
    (stepped {most = small 9} {state = opened_0} {next = opened_1} {journal = 0} {event = Claim} fan_pages
    (loaded old_tables refl) (record { pages = lit≤ tt; text = lit≤ tt }) (by_claim refl) refl)
    (record { pages = lit≤ tt; text = lit≤ tt })
    (by_finish 1 refl) refl

members-sound : IsSound members_3
unfolding computing
members-sound = IsSound-replayed fan_pages no_state members_3 (Save title_p (Some members_text) 11 ∷ Claim ∷ Done 2 ∷ []) IsWellFormed-none IsSound-none refl

pub returns-clause-sound : goal.returns-clause-sound
returns-clause-sound c = members-sound

pub returns-clause-sound_rows : goal.returns-clause-sound_rows
returns-clause-sound_rows c = subst IsSound (sym (state_of-reached members_3 reached-members)) (IsSound-reopened members_3 members-sound)
