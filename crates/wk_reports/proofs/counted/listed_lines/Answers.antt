use Rattle.std.proofs.Common.{◌≡◌, map, Some, rules}
use Rattle.std.specs.Prelude.{slice_get}
use Rattle.wk_wiki_rules.specs.States.{world_of}
use Rattle.wk_report_lines.specs.Lines.{line_of}
use Rattle.wk_reports.proofs.Found.{entries-whole, entry-next}
use Rattle.wk_reports.proofs.counted.listed_lines.Goals as goal

pub titles-preserved : goal.titles-preserved
titles-preserved c =
    let there : slice_get c.args.tally.now.entries c.titles.place ≡ Some (c.in-Some.title.now, c.in-Some.count.now) = search rules in
    entry-next c.args.counted (world_of c.args.live.now.state) c.args.tally.now.entries c.titles.place c.in-Some.title.now c.in-Some.count.now c.is_listed.result
    (map line_of c.titles.found.items) (map line_of c.add_line.new.found.items) there c.is_listed.ensures c.titles.invariant c.in_ok-add_line.ensures

pub returns : goal.returns
returns c =
    entries-whole c.args.counted (world_of c.args.live.now.state) c.args.tally.now.entries c.titles.place c.len-place-end.result (map line_of c.titles.found.items)
    c.titles.invariant c.len-place-end.ensures.len c.titles-test.false
