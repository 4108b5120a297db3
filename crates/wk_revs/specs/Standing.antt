-- What stands of a title, and what a save of it makes.
use Rattle.wk_text_rules.specs.Titles.{PageTitle}
use Rattle.wk_page_rules.specs.History.{History, current_revision, next_revision, page_number, page_to_save}
use Rattle.wk_revs.specs.declared.standing.Standing.{Standing}

abbrev pub standing : History → PageTitle → Standing
standing h title = record {
  page = page_number h title;
  to_save = page_to_save h title;
  current = current_revision h title;
  next = next_revision h;
}
