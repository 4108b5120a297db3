use Rattle.std.proofs.Common.{◌≡◌, ◌+◌, ap, ◌∙◌, rules}
use Rattle.indexmap.specs.IndexMap.{insert_entry}
use Rattle.wk_text_rules.specs.Titles.{title_eq}
use Rattle.wk_report_lines.proofs.Counts.{count_in, tallied-is}
use Rattle.wk_report_lines.proofs.tally.count_title.Goals as goal

pub returns : goal.returns
returns c =
    let entries = c.args.tally.now.entries in
    let count : c.unwrap_or-count.result ≡ count_in entries c.args.title.now = search rules in
    c.in_ok-insert.ensures.entries
    ∙ (ap (λ key. insert_entry title_eq entries key (c.unwrap_or-count.result + 1)) c.in_ok-share.ensures
    ∙ (ap (λ n. insert_entry title_eq entries c.args.title.now (n + 1)) count ∙ tallied-is entries c.args.title.now))
