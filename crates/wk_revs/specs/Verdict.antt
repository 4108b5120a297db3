-- A verdict as the rules give it.
use Rattle.std.specs.Prelude.{◌≡◌, ℕ, ◌<◌, true, List, length, Option, Some, None, option_map}
use Rattle.wk_text_rules.specs.Titles.{PageTitle}
use Rattle.wk_page_rules.specs.History.{History, can_save, page_number}
use Rattle.wk_page_rules.specs.Verdict.{Refusal, Verdict as Judged, MostHeld, invalid_title, content_too_big, article_exists, missing_title, edit_conflict, wiki_full, journal_full, refuse, no_change, accept}
use Rattle.wk_revs.specs.declared.verdict.SaveRefusal.{SaveRefusal}
use Rattle.wk_revs.specs.declared.verdict.SaveRefusal.TheVariants.{InvalidTitle, ContentTooBig, ArticleExists, MissingTitle, EditConflict, WikiFull, JournalFull, Memory, StoreFault}
use Rattle.wk_revs.specs.declared.verdict.Verdict.{Verdict}
use Rattle.wk_revs.specs.declared.verdict.Verdict.TheVariants.{Refuse, NoChange, Accept}

-- the refusal, where the rules have it: want of memory and a store that fails are none of theirs
abbrev pub refusal_of : SaveRefusal → Option Refusal
refusal_of InvalidTitle = Some invalid_title
refusal_of ContentTooBig = Some content_too_big
refusal_of ArticleExists = Some article_exists
refusal_of MissingTitle = Some missing_title
refusal_of (EditConflict current) = Some (edit_conflict current)
refusal_of (WikiFull limit) = Some (wiki_full limit)
refusal_of JournalFull = Some journal_full
refusal_of Memory = None
refusal_of StoreFault = None

-- the verdict, where the rules have it
abbrev pub verdict_of : Verdict → Option Judged
verdict_of (Refuse refusal) = option_map refuse (refusal_of refusal)
verdict_of (NoChange title) = Some (no_change title)
verdict_of (Accept title text) = Some (accept title text)

-- this save is possible, and a page that it makes is within the limit
pub record CanAdd (h : History) (most : MostHeld) (title : PageTitle) (text : Option (List ℕ)) : Type 0 where
  pub possible : can_save h title text ≡ true
  pub fits : page_number h title ≡ None → length h.pages < most.pages

-- a fact of what is accepted
abbrev pub IfAccept : Verdict → (PageTitle → Option (List ℕ) → Type 0) → Type 0
IfAccept (Refuse refusal) P = Unit {0}
IfAccept (NoChange title) P = Unit {0}
IfAccept (Accept title text) P = P title text
