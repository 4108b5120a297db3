use Rattle.std.proofs.Common.{◌≡◌, ◌∙◌, true, false, refl, ap, sym}
use Rattle.std.specs.Prelude.{bytes_eq}
use Rattle.std.proofs.lemmas.Slice.Eq.{bytes_eq-Decides}
use Rattle.wk_table_rules.specs.JobTable.{fan_cmd, refresh_cmd}
use Rattle.wk_good_rows.proofs.Sets.{IsTitlesOfJobs-other}
use Rattle.wk_good_rows.proofs.jobs.is_good_kind.Goals as goal

pub returns-then-eq-clause-titles : goal.returns-then-eq-clause-titles
returns-then-eq-clause-titles c = λ before good are.
    let kind : bytes_eq c.args.job.now.job_cmd refresh_cmd ≡ true =
    ap (λ j. bytes_eq j.job_cmd refresh_cmd) (sym c.job.view_is) ∙ ap (λ l. bytes_eq l refresh_cmd) (sym c.as_str.ensures.value) ∙ sym c.eq.ensures ∙ c.if-eq.true in
    let other : bytes_eq c.args.job.now.job_cmd fan_cmd ≡ false = ap (λ l. bytes_eq l fan_cmd) ((bytes_eq-Decides c.args.job.now.job_cmd refresh_cmd).0 kind) ∙ refl in record {
      of_refreshes = c.in_ok-is_good.ensures.titles before good are.of_refreshes kind;
      of_fans = IsTitlesOfJobs-other c.args.fans.now fan_cmd before c.args.job.now other are.of_fans;
    }

pub returns-clause-titles : goal.returns-clause-titles
returns-clause-titles c = λ before good are.
    let other : bytes_eq c.args.job.now.job_cmd refresh_cmd ≡ false =
    ap (λ j. bytes_eq j.job_cmd refresh_cmd) (sym c.job.view_is) ∙ ap (λ l. bytes_eq l refresh_cmd) (sym c.as_str.ensures.value) ∙ sym c.eq.ensures ∙ c.if-eq.false in record {
      of_refreshes = IsTitlesOfJobs-other c.args.refreshes.now refresh_cmd before c.args.job.now other are.of_refreshes;
      of_fans = c.in_ok-is_good-2.ensures.titles before good are.of_fans;
    }
