-- What a small wiki keeps from its opening on, each after one event more: a save, a claim, and a refresh that is done.
use Rattle.std.specs.Prelude.{true, [], ◌∷◌, Some}
use Rattle.wk_wiki_rules.specs.States.{no_state}
use Rattle.wk_wiki_rules.specs.Events.{Event, Save}
use Rattle.wk_wiki_rules.specs.Starts.{Start}
use Rattle.wk_wiki_rules.specs.declared.Entry.TheVariants as entry
use Rattle.wk_life_laws.specs.Lives.{Life}
use Rattle.wk_life_laws.specs.Next.{begun, new_start}
use Rattle.wk_examples.specs.Wikis.{title_p, members_text, members_1, members_2, members_3, small}

-- the start, an empty wiki
abbrev pub small_start : Start
small_start = new_start no_state (small 9) true

abbrev pub life_0 : Life
life_0 = begun no_state (small 9) true

abbrev pub life_1 : Life
life_1 = record life_0 { entries = entry.Save 1 ∷ []; state = members_1 }

abbrev pub life_2 : Life
life_2 = record life_0 { entries = entry.Save 1 ∷ entry.Claim ∷ []; state = members_2 }

abbrev pub life_3 : Life
life_3 = record life_0 { entries = entry.Save 1 ∷ entry.Claim ∷ entry.Done 2 ∷ []; state = members_3 }

abbrev pub first_save : Event
first_save = Save title_p (Some members_text) 11
