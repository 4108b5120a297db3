use Rattle.std.proofs.Common.{◌≡◌, ◌≤◌, ℕ, ◌∷◌, [], Some, None, refl, lit≤, codes, arith, zero, suc}
use Rattle.std.specs.Prelude.{slice_get}
use Rattle.std.specs.List.{IsDistinct}
use Rattle.wk_wiki_rules.specs.Steps.{fan_pages}
use Rattle.wk_wiki_rules.specs.States.{no_state}
use Rattle.wk_wiki_rules.specs.Events.{Event, Save, Claim, Done}
use Rattle.wk_wiki_laws.specs.Reached.{stepped, empty}
use Rattle.wk_wiki_laws.proofs.Reached.{IsKept-reached}
use Rattle.wk_wiki_rules.specs.Calls.{no_call, one_more, by_save, by_claim, by_finish}
use Rattle.wk_wiki_rules.specs.Computing.{computing}
use Rattle.wk_wiki_rules.specs.Entries.{closes}
use Rattle.wk_examples.specs.Wikis.{title_p, members_text, members_1, members_2, members_3, edit_of_a, small}
use Rattle.wk_examples.proofs.calls.calls_that_are_made.Goals as goal

pub returns-clause-made : goal.returns-clause-made
unfolding computing
returns-clause-made c =
    one_more {served = fan_pages} {most = small 9} {start = no_state} {state = members_2} {next = members_3} {events = Save title_p (Some members_text) 11 ∷ Claim ∷ []} {event = Done 2}
    (one_more {served = fan_pages} {most = small 9} {start = no_state} {state = members_1} {next = members_2} {events = Save title_p (Some members_text) 11 ∷ []} {event = Claim}
    (one_more {served = fan_pages} {most = small 9} {start = no_state} {state = no_state} {next = members_1} {events = []} {event = Save title_p (Some members_text) 11}
    no_call (by_save (record (edit_of_a None members_text) { title = codes "P" }) refl) refl)
    (by_claim refl) refl)
    (by_finish 1 refl) refl

pub returns-clause-room : goal.returns-clause-room
returns-clause-room c = lit≤ tt

pub returns-clause-one_page : goal.returns-clause-one_page
unfolding IsDistinct
returns-clause-one_page c = tt

pub returns-clause-none_out : goal.returns-clause-none_out
returns-clause-none_out c = refl

pub returns-clause-replayed : goal.returns-clause-replayed
unfolding computing
returns-clause-replayed c = refl

pub returns-clause-out : goal.returns-clause-out
returns-clause-out c = refl

unclosed : (place : ℕ) (event : Event) → 2 ≤ place → slice_get (Save title_p (Some members_text) 11 ∷ Claim ∷ []) place ≡ Some event → closes event ≡ Some 1 → ⊥
unclosed zero event from there = absurd (omega (arith, from))
unclosed (suc zero) event from there = absurd (omega (arith, from))
unclosed (suc (suc place)) event from there = absurd (let e : None ≡ Some event = there in cc)

pub returns-clause-open_claim : goal.returns-clause-open_claim
returns-clause-open_claim c = record { positive = lit≤ tt; claim = refl; unclosed = unclosed }

pub returns-clause-kept : goal.returns-clause-kept
unfolding computing
returns-clause-kept c =
    IsKept-reached members_2
    (stepped {most = small 9} {state = members_1} {next = members_2} {journal = 1} {event = Claim} fan_pages
    (stepped {most = small 9} {state = no_state} {next = members_1} {journal = 0} {event = Save title_p (Some members_text) 11} fan_pages
    empty (record { pages = lit≤ tt; text = lit≤ tt }) (by_save (record (edit_of_a None members_text) { title = codes "P" }) refl) refl)
    (record { pages = lit≤ tt; text = lit≤ tt }) (by_claim refl) refl)
