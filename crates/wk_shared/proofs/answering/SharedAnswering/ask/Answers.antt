use Rattle.std.proofs.Common.{◌≡◌, true, false}
use Rattle.wk_shared.proofs.ApartLaws.{asked-answers, asked-longer, asked-more, fetched-formed}
use Rattle.wk_shared.proofs.answering.SharedAnswering.ask.Goals as goal

pub keep-requires-clause-formed : goal.keep-requires-clause-formed
keep-requires-clause-formed g c =
    fetched-formed c.args.self.now c.args.pass.now c.fetch-answer.new.pass c.args.title.now c.args.kind c.fetch-answer.result.1 c.fetch-answer.result.0 c.fetch-answer.ensures.call

pub returns-in_err-keep-clause-leaves : goal.returns-in_err-keep-clause-leaves
returns-in_err-keep-clause-leaves g c =
    asked-more c.args.self.now c.args.pass.now c.fetch-answer.new.pass c.args.title.now c.args.kind c.fetch-answer.result.1 c.fetch-answer.result.0 c.fetch-answer.ensures.pass c.fetch-answer.ensures.call

pub returns-clause-leaves : goal.returns-clause-leaves
returns-clause-leaves g c =
    asked-more c.args.self.now c.args.pass.now c.fetch-answer.new.pass c.args.title.now c.args.kind c.fetch-answer.result.1 c.fetch-answer.result.0 c.fetch-answer.ensures.pass c.fetch-answer.ensures.call

pub returns-clause-answers : goal.returns-clause-answers
returns-clause-answers g c =
    asked-answers c.args.self.now c.args.pass.now c.fetch-answer.new.pass c.args.title.now c.args.kind c.fetch-answer.result.1 c.fetch-answer.result.0 c.args.seen.now c.keep.new.seen
    c.fetch-answer.ensures.pass c.fetch-answer.ensures.call c.in_ok-keep.ensures

pub returns-clause-longer : goal.returns-clause-longer
returns-clause-longer g c = λ known.
    asked-longer c.args.self.now c.args.pass.now c.fetch-answer.new.pass c.args.title.now c.args.kind c.fetch-answer.result.1 c.fetch-answer.result.0 c.args.seen.now c.keep.new.seen c.in_ok-keep.ensures

pub returns-clause-unknown : goal.returns-clause-unknown
returns-clause-unknown g c = λ unknown. absurd (let e : true ≡ false = unknown in cc)
