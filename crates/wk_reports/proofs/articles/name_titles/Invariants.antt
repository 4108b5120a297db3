use Rattle.std.proofs.Common.{◌≡◌, not, ◌&&◌, ◌||◌, take}
use Rattle.std.specs.HashSet.{contains}
use Rattle.std.specs.List.{list_any}
use Rattle.wk_text_rules.specs.Titles.{PageTitle, title_eq}
use Rattle.wk_reports.proofs.articles.name_titles.Given as goal

abbrev pub invariant-titles : goal.invariant-titles
invariant-titles l = (other : PageTitle) → contains title_eq l.named other
    ≡ (contains title_eq l.initial.named other || (not (title_eq l.own other) && list_any (title_eq other) (take l.title-index l.titles)))
