use Rattle.std.proofs.Common.{◌≡◌, true, take}
use Rattle.std.specs.List.{list_any}
use Rattle.wk_text_rules.specs.Titles.{PageTitle, title_eq}
use Rattle.wk_index.specs.Named.{Kept, has}
use Rattle.wk_index.proofs.named.add_titles.Given as goal

abbrev pub invariant-loop-title : goal.invariant-loop-title
invariant-loop-title l =
    ((title : PageTitle) → list_any (title_eq title) (take l.title-index l.titles) ≡ true → has l.named title l.page ≡ true) × Kept l.initial.named l.named
