-- The saves of a journal, and what they make of the revisions.
use Rattle.std.specs.Prelude.{◌≡◌, ℕ, List, map, length, take, drop, Option, Some, None}
use Rattle.std.specs.List.{filter_map, fold}
use Rattle.wk_text_rules.specs.Titles.{PageTitle}
use Rattle.wk_page_rules.specs.History.{History, saved}
use Rattle.wk_wiki_rules.specs.Events.{Event, Save, Claim, Done, Back, Fan}

-- what one event saves
pub record PageSave : Type 0 where
  pub title : PageTitle
  -- the text, or nothing for a deletion
  pub text : Option (List ℕ)
  -- seconds since 1970
  pub moment : ℕ

abbrev pub save_of : Event → Option PageSave
save_of (Save title text moment) = Some (record { title = title; text = text; moment = moment })
save_of Claim = None
save_of (Done ticket) = None
save_of (Back ticket) = None
save_of Fan = None

-- the saves of a journal, in their order
abbrev pub saves : List Event → List PageSave
saves journal = filter_map save_of journal

-- the revisions and the pages after these saves, one after the other
abbrev pub after_saves : History → List PageSave → History
after_saves start made = fold (λ h save. saved h save.title save.text save.moment) start made

-- The old revisions stand first, and behind them is one for each save, in the order of the saves, with its text and its
-- moment.
pub record Continues (old : History) (made : List PageSave) (new : History) : Type 0 where
  pub first : take (length old.revisions) new.revisions ≡ old.revisions
  pub texts : map (λ revision. revision.text) (drop (length old.revisions) new.revisions) ≡ map (λ save. save.text) made
  pub moments : map (λ revision. revision.moment) (drop (length old.revisions) new.revisions) ≡ map (λ save. save.moment) made
