use Rattle.std.proofs.Common.{◌≡◌, Some, ap, sym, ◌∙◌}
use Rattle.wk_wiki_rules.specs.Lives.{replay_by}
use Rattle.wk_wiki_rules.specs.Steps.{fan_pages}
use Rattle.wk_wiki_rules.specs.Tables.{tables_of}
use Rattle.wk_feeder.proofs.Tables.{start-told}
use Rattle.wk_feeder.proofs.start.lines_of_start.Goals as goal

pub returns : goal.returns
returns g c =
    let wiki = c.args.wiki.now in
    let done = c.calls_make_a_journal.ensures fan_pages wiki.start.limits wiki.start.state wiki.state wiki.journal c.facts.ensures.run.calls in
    let none : Some wiki.start.state ≡ Some wiki.state = sym (ap (replay_by fan_pages wiki.start.state) c.requires) ∙ done in
    let same : wiki.start.state ≡ wiki.state = cc in
    start-told _ _ c.in_ok-rows.rows wiki.start.state c.new-lines.ensures.bytes (c.in_ok-rows.ensures ∙ c.in_ok-tables.ensures ∙ ap tables_of (sym same))
    c.in_ok-push_start.ensures
