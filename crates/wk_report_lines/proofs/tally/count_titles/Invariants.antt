use Rattle.std.proofs.Common.{◌≡◌, ◌+◌, ◌≤◌, ◌^◌, take}
use Rattle.wk_text_rules.specs.Titles.{PageTitle}
use Rattle.wk_report_laws.specs.Tally.{tallied_all}
use Rattle.wk_report_lines.proofs.Counts.{count_in}
use Rattle.wk_report_lines.proofs.tally.count_titles.Given as goal

abbrev pub invariant-titles : goal.invariant-titles
invariant-titles l = record {
  counted : l.tally.entries ≡ tallied_all l.initial.tally.entries (take l.title-index l.titles);
  small : (title : PageTitle) → count_in l.tally.entries title ≤ 2 ^ 32 + l.title-index;
}
