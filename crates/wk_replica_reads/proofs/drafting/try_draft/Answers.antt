use Rattle.std.proofs.Common.{length, subst, sym, ap, ◌∙◌}
use Rattle.wk_expand.specs.Drafts.{DraftShown}
use Rattle.wk_expand.specs.Steps.{given_text}
use Rattle.wk_read_laws.specs.Points.{AreReadSince}
use Rattle.wk_replica_reads.proofs.LookLaws.{read-both}
use Rattle.wk_replica_reads.proofs.ReadLaws.{tried}
use Rattle.wk_replica_reads.proofs.drafting.try_draft.Goals as goal

pub accept-requires-clause-since : goal.accept-requires-clause-since
accept-requires-clause-since g c = (
  length c.args.pass.now.seen,
  subst (λ (d : DraftShown). AreReadSince c.args.shared.now.start.wiki c.draft_apart.new.pass.seen (length c.args.pass.now.seen) d.reads) (sym c.in_ok-draft-2.ensures) c.in_ok-draft.ensures.draft.since,
)

pub accept-requires-clause-given : goal.accept-requires-clause-given
accept-requires-clause-given g c = ap (λ (d : DraftShown). d.given) c.in_ok-draft-2.ensures ∙ c.in_ok-draft.ensures.draft.given_is

pub returns-clause-pass : goal.returns-clause-pass
returns-clause-pass g c = read-both c.args.shared.now c.args.pass.now c.draft_apart.new.pass c.accept.new.pass c.in_ok-draft.ensures.pass c.accept.ensures.pass

pub returns-clause-read : goal.returns-clause-read
returns-clause-read g c =
    tried c.args.shared.now.start.wiki c.accept.new.pass.seen c.args.title.now (given_text c.args.root.now) c.in_ok-draft.draft c.in_ok-draft-2.draft c.accept.result c.in_ok-draft-2.ensures c.in_ok-draft.ensures.draft.page_is
    c.in_ok-draft.ensures.draft.given_is c.accept.ensures.read
