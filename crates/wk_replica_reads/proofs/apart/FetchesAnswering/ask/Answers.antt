use Rattle.std.proofs.Common.{◌≡◌, true, false, List, [], ◌∷◌, ◌++◌, ap, ◌∙◌}
use Rattle.wk_text_rules.specs.Titles.{PageTitle}
use Rattle.wk_view_rules.specs.Worlds.{Answer, Read}
use Rattle.wk_view_rules.specs.declared.Kind.{Kind}
use Rattle.wk_expand.specs.Answers.{answer_of, read_with}
use Rattle.wk_replica_reads.proofs.ApartLaws.{asked-more, fetched-form}
use Rattle.wk_replica_reads.proofs.LookLaws.{read-both}
use Rattle.wk_replica_reads.proofs.apart.FetchesAnswering.ask.Goals as goal

-- the read is of the title that was shared
named-so : (title shared : PageTitle) (kind : Kind) (answer : Answer) (seen next : List Read) → shared ≡ title → next ≡ seen ++ read_with shared kind answer ∷ [] → next ≡ seen ++ read_with title kind answer ∷ []
named-so title shared kind answer seen next same is = is ∙ ap (λ (t : PageTitle). seen ++ read_with t kind answer ∷ []) same

pub add-requires-clause-formed : goal.add-requires-clause-formed
add-requires-clause-formed g c =
    fetched-form c.args.self.now.shared.now.start.wiki c.fetch.new.pass.seen c.args.title.now c.args.kind (answer_of c.in_ok-answer.answer) c.in_ok-answer.ensures.answered

pub returns-clause-leaves : goal.returns-clause-leaves
returns-clause-leaves g c = λ begun read. read-both c.args.self.now.shared.now begun c.args.pass.now c.fetch.new.pass read c.in_ok-answer.ensures.pass

pub returns-clause-answers : goal.returns-clause-answers
returns-clause-answers g c = λ begun read are.
    asked-more c.args.self.now.shared.now begun c.args.pass.now c.fetch.new.pass c.args.title.now c.args.kind (answer_of c.in_ok-answer.answer) c.args.seen.now c.add.new.self read c.in_ok-answer.ensures.pass
    c.in_ok-answer.ensures.answered (named-so c.args.title.now c.in_ok-share.field-0 c.args.kind (answer_of c.in_ok-answer.answer) c.args.seen.now c.add.new.self c.in_ok-share.ensures c.in_ok-add.ensures.ok) are

pub returns-clause-longer : goal.returns-clause-longer
returns-clause-longer g c = λ known. (read_with c.in_ok-share.field-0 c.args.kind (answer_of c.in_ok-answer.answer), c.in_ok-add.ensures.ok)

pub returns-clause-unknown : goal.returns-clause-unknown
returns-clause-unknown g c = λ known. absurd (let e : true ≡ false = known in cc)
