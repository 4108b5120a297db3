use Rattle.std.proofs.Common.{[], ap, sym, subst, ◌∙◌}
use Rattle.wk_shared.specs.Calls.{IsFree, MayFail, seen_by}
use Rattle.wk_readers.specs.Readers.{ReaderSeen}
use Rattle.wk_session_rules.specs.Exchanges.{jobs_done}
use Rattle.wk_session_rules.specs.Points.{GoesOn}
use Rattle.wk_session.proofs.Ends.{looked-first, session-unbegun}
use Rattle.wk_session.proofs.Passing.{goes-nowhere}
use Rattle.wk_session.proofs.session.serve_session.Goals as goal

pub serve_all-end-requires-clause-free : goal.serve_all-end-requires-clause-free
serve_all-end-requires-clause-free g c = subst (λ (r : ReaderSeen). IsFree c.args.shared.now r.pass) (sym c.begin_session.ensures) c.requires.free

pub returns-in_default-clause-free : goal.returns-in_default-clause-free
returns-in_default-clause-free g c = subst (λ (r : ReaderSeen). IsFree c.args.shared.now r.pass) (sym c.begin_session.ensures) c.requires.free

pub returns-in_default-clause-session : goal.returns-in_default-clause-session
returns-in_default-clause-session g c =
    let shared = c.args.shared.now in
    let old = seen_by shared.start c.args.worker.now.reader.pass in
    session-unbegun (MayFail shared.start) old (seen_by shared.start c.begin_session.new.self.pass) _ _ _
    (subst (λ (r : ReaderSeen). GoesOn old (seen_by shared.start r.pass) []) (sym c.begin_session.ensures) (goes-nowhere old)) c.new-points.ensures.items c.new-refreshes.ensures.items

pub returns-clause-session : goal.returns-clause-session
returns-clause-session g c =
    let shared = c.args.shared.now in
    let fails = MayFail shared.start in
    let old = seen_by shared.start c.args.worker.now.reader.pass in
    let new = c.serve_all-end.new.worker.reader.pass in
    looked-first fails old (seen_by shared.start c.begin_session.new.self.pass) (seen_by shared.start new) _ _ c.serve_all-end.result _ _ c.jobs_done-jobs_run.result _
    (c.jobs_done-jobs_run.ensures ∙ ap jobs_done c.deref.ensures.value)
    (subst (λ (r : ReaderSeen). GoesOn old (seen_by shared.start r.pass) []) (sym c.begin_session.ensures) (goes-nowhere old)) c.serve_all-end.ensures.session
