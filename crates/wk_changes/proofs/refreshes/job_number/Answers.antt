use Rattle.std.proofs.Common.{◌≡◌, Option, Some, IsSome, sym, ap, ◌∙◌, subst}
use Rattle.wk_wiki_rules.specs.Jobs.{RefreshEntry}
use Rattle.wk_changes.proofs.HeldJob.{held-by-page, there}
use Rattle.wk_changes.proofs.refreshes.job_number.Goals as goal

pub unwrap-requires : goal.unwrap-requires
unwrap-requires c =
    subst (λ (found : Option RefreshEntry). IsSome found) (sym c.refresh_job.ensures) (there c.args.jobs.now.lists c.args.page c.requires.there)

pub returns : goal.returns
returns c ticket job held at =
    let found = held-by-page c.args.jobs.now.lists ticket c.args.page job c.requires.one held at in
    let both : Some c.unwrap.result ≡ Some job = sym c.unwrap.ensures ∙ (c.refresh_job.ensures ∙ found) in
    let same : c.unwrap.result ≡ job = cc in
    ap (λ (entry : RefreshEntry). entry.number) (c.result.view_is ∙ same)
