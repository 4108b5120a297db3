use Rattle.std.proofs.Common.{◌≡◌, ◌∙◌, ◌||◌, true, to_z, of_z, w64, ap, sym, rules}
use Rattle.std.specs.Prelude.{bytes_eq}
use Rattle.std.proofs.lemmas.Bool.{not-false}
use Rattle.wk_text_rules.specs.Titles.{title_eq}
use Rattle.wk_table_rules.specs.JobTable.{fan_cmd}
use Rattle.wk_good_rows.specs.Among.{is_among}
use Rattle.wk_good_rows.proofs.Sets.{IsTitlesOfJobs-more}
use Rattle.wk_good_rows.proofs.jobs.is_good_fan.Goals as goal

pub returns-clause-titles : goal.returns-clause-titles
returns-clause-titles c = λ before good are.
    let same : to_z w64 (of_z w64 c.job.inside.job_namespace) ≡ c.job.inside.job_namespace = search rules in
    let kind : bytes_eq c.args.job.now.job_cmd fan_cmd ≡ true =
    ap (λ j. bytes_eq j.job_cmd fan_cmd) (sym c.job.view_is) ∙ ap (λ l. bytes_eq l fan_cmd) (sym c.as_str.ensures.value) ∙ not-false _ (sym c.ne.ensures ∙ c.if-ne.false) in
    IsTitlesOfJobs-more c.args.fans.now c.add.new.self fan_cmd before c.args.job.now kind
    (λ other. c.in_ok-is_new.ensures.titles other
    ∙ ap (λ n. title_eq (record { ns = n; key = c.job.inside.job_title }) other || is_among other c.args.fans.now) same
    ∙ ap (λ j. title_eq j.job_title other || is_among other c.args.fans.now) c.job.view_is)
    are
