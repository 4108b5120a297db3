use Rattle.wk_wiki_rules.specs.States.{world_of}
use Rattle.wk_expand.specs.Answers.{answer_of}
use Rattle.wk_live.proofs.DraftLaws.{one-more}
use Rattle.wk_live.proofs.answering.LiveAnswering.ask.Goals as goal

pub returns-clause-answers : goal.returns-clause-answers
returns-clause-answers g c = λ begun left answers.
    one-more (world_of c.args.self.now.state) c.args.seen.now c.add.new.self c.args.title.now c.in_ok-share.field-0 c.args.kind (answer_of c.in_ok-answer.answer)
    c.in_ok-share.ensures c.in_ok-answer.ensures c.in_ok-add.ensures.ok answers
