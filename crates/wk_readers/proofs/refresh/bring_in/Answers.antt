use Rattle.std.proofs.Common.{◌∙◌, sym, subst, None}
use Rattle.wk_shared.specs.Apart.{IsDraftSince}
use Rattle.wk_readers.specs.Refreshes.{IsBroughtIn}
use Rattle.wk_readers.proofs.EndLaws.{finished-in, given-in, holds-draft}
use Rattle.wk_readers.proofs.refresh.bring_in.Goals as goal

pub finish_job-answer-requires-clause-ticket : goal.finish_job-answer-requires-clause-ticket
finish_job-answer-requires-clause-ticket g c = c.drafted.ensures.tickets c.args.ticket c.requires.ticket

pub finish_job-answer-requires-clause-draft : goal.finish_job-answer-requires-clause-draft
finish_job-answer-requires-clause-draft g c =
    holds-draft c.args.shared.now.start c.args.pass.now c.drafted.new.pass c.args.ticket c.in-Ok.draft (c.drafted.ensures.tickets c.args.ticket c.requires.ticket)
    (subst (λ page. IsDraftSince c.args.shared.now.start c.args.pass.now c.drafted.new.pass page None c.in-Ok.draft) c.title.ensures c.in-Ok.ensures.draft)

pub give_back-point-requires-clause-ticket : goal.give_back-point-requires-clause-ticket
give_back-point-requires-clause-ticket g c = c.drafted.ensures.tickets c.args.ticket c.requires.ticket

pub returns-in-Ok : goal.returns-in-Ok
returns-in-Ok g c =
    subst (IsBroughtIn c.args.shared.now c.args.pass.now c.finish_job-answer.new.pass c.args.ticket) (sym c.came_in.ensures)
    (finished-in c.args.shared.now c.args.pass.now c.drafted.new.pass c.finish_job-answer.new.pass c.drafted.ensures.pass c.finish_job-answer.result.1 c.finish_job-answer.ensures.pass c.args.ticket
    c.in-Ok.draft.reads c.in-Ok.ensures.draft.since c.in-Ok.title c.finish_job-answer.result.0 (c.in-Ok.ensures.title ∙ c.title.ensures) c.finish_job-answer.ensures.call c.finish_job-answer.ensures.fault)

pub returns-in-Err : goal.returns-in-Err
returns-in-Err g c =
    given-in c.args.shared.now c.args.pass.now c.drafted.new.pass c.give_back-point.new.pass c.drafted.ensures.pass c.give_back-point.result c.give_back-point.ensures.pass c.args.ticket
    c.give_back-point.ensures.call
