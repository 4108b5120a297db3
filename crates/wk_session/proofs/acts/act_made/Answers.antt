use Rattle.std.proofs.Common.{[], ◌∷◌, length, ap, ◌∙◌}
use Rattle.std.specs.Prelude.{IsSome}
use Rattle.serde_json.specs.View.{view}
use Rattle.wk_wiki_rules.specs.States.{world_of}
use Rattle.wk_wiki_rules.specs.Staleness.{first_stale}
use Rattle.wk_wiki_rules.specs.Starts.{Start}
use Rattle.wk_request.specs.Asked.{request_asked}
use Rattle.wk_request_rules.specs.Requests.{valid}
use Rattle.wk_answer_rules.specs.Answers.{answer_to_parsed}
use Rattle.wk_answer.specs.Saved.{IsActed}
use Rattle.wk_shared.specs.Calls.{MayFail}
use Rattle.wk_shared.proofs.Made.{has-seen, is-made}
use Rattle.wk_session.proofs.Acting.{ActTold, NothingTold, acted-on, honest-taken, made-makes, one-moment, own-kept, some-of, starved, told-of, unchanged}
use Rattle.wk_session.proofs.Passing.{seen-read}
use Rattle.wk_session.proofs.acts.act_made.Goals as goal

pub act_with-acted-requires-clause-unsealed : goal.act_with-acted-requires-clause-unsealed
act_with-acted-requires-clause-unsealed g c = ap (λ (s : Start). s.sealed) c.take-held.ensures.taken.start ∙ c.requires.unsealed

pub act_with-acted-requires-clause-honest : goal.act_with-acted-requires-clause-honest
act_with-acted-requires-clause-honest g c =
    honest-taken c.args.shared.now c.args.reader.now.pass c.take-held.new.reader.pass c.take-held.result.value c.args.made.now.reads c.take-held.ensures.taken c.requires.since

pub give-point-requires-clause-made : goal.give-point-requires-clause-made
give-point-requires-clause-made g c =
    made-makes g.K.Keeper.told g.K.Keeper.faults g.K.Keeper.is_whole c.args.shared.now c.args.reader.now.pass c.take-held.new.reader.pass c.take-held.result.value c.act_with-acted.new.wiki _
    c.take-held.ensures.taken c.take-held.ensures.keeper c.act_with-acted.ensures.keeper (valid (request_asked c.args.request.now)) c.args.moment (IsSome (first_stale (world_of c.take-held.result.value.state) c.args.made.now.reads)) c.act_with-acted.result c.take-held.ensures.before
    c.act_with-acted.ensures.acted c.act_with-acted.ensures.stale c.act_with-acted.ensures.memory

pub returns-in-Some : goal.returns-in-Some
returns-in-Some g c =
    let fails = MayFail c.args.shared.now.start in
    let parsed = valid (request_asked c.args.request.now) in
    let taken = c.take-held.ensures.taken in
    let wiki = c.take-held.result.value in
    let acted = some-of c.in-Ok.answer c.in-Some.value
    (λ v. IsActed g.K.Keeper.told g.K.Keeper.faults wiki c.act_with-acted.new.wiki (answer_to_parsed wiki.start.limits wiki.state (length wiki.journal) c.args.moment parsed) (view v))
    c.in-Some.is c.in-Ok.ensures.acted in
    let out = acted-on g.K.Keeper.told g.K.Keeper.faults g.K.Keeper.is_whole c.args.reader.now.pass.own wiki c.act_with-acted.new.wiki c.args.shared.now.start
    taken.start c.take-held.ensures.keeper c.act_with-acted.ensures.keeper parsed c.args.moment c.in-Some.value acted in
    let Call = ActTold fails parsed (c.args.moment ∷ []) c.in-Some.value in
    told-of c.args.shared.now fails c.args.reader.now.pass c.give-point.new.reader.pass c.give-point.result
    (has-seen g.K.Keeper.told c.args.shared.now c.args.reader.now.pass c.take-held.new.reader.pass c.take-held.result.value c.act_with-acted.new.wiki taken _ _ _
    c.requires.free.turn c.take-held.ensures.before c.give-point.ensures Call out)
    parsed (c.args.moment ∷ []) c.in-Some.value (one-moment (request_asked c.args.request.now) c.args.moment c.requires.asks)
    (is-made g.K.Keeper.told c.args.shared.now c.args.reader.now.pass c.take-held.new.reader.pass c.take-held.result.value c.act_with-acted.new.wiki taken _ _ _
    c.requires.free.turn c.take-held.ensures.before c.give-point.ensures Call out)

pub returns-in-None : goal.returns-in-None
returns-in-None g c =
    let taken = c.take-held.ensures.taken in
    let out = unchanged g.K.Keeper.told c.args.reader.now.pass.own c.take-held.result.value c.act_with-acted.new.wiki (c.in-Ok.ensures.stale c.in-None.is).0 in
    seen-read c.args.shared.now c.args.reader.now.pass c.give-point.new.reader.pass c.give-point.result
    (has-seen g.K.Keeper.told c.args.shared.now c.args.reader.now.pass c.take-held.new.reader.pass c.take-held.result.value c.act_with-acted.new.wiki taken _ _ _
    c.requires.free.turn c.take-held.ensures.before c.give-point.ensures NothingTold out)
    (own-kept c.args.shared.now c.args.reader.now.pass c.give-point.new.reader.pass NothingTold
    (is-made g.K.Keeper.told c.args.shared.now c.args.reader.now.pass c.take-held.new.reader.pass c.take-held.result.value c.act_with-acted.new.wiki taken _ _ _
    c.requires.free.turn c.take-held.ensures.before c.give-point.ensures NothingTold out)
    (λ start state point event told. told))

pub returns-in-Err : goal.returns-in-Err
returns-in-Err g c =
    let fails = MayFail c.args.shared.now.start in
    let parsed = valid (request_asked c.args.request.now) in
    let taken = c.take-held.ensures.taken in
    let out = unchanged g.K.Keeper.told c.args.reader.now.pass.own c.take-held.result.value c.act_with-acted.new.wiki c.in-Err.ensures.memory in
    starved c.args.shared.now fails c.args.reader.now.pass c.give-point.new.reader.pass c.give-point.result
    (has-seen g.K.Keeper.told c.args.shared.now c.args.reader.now.pass c.take-held.new.reader.pass c.take-held.result.value c.act_with-acted.new.wiki taken _ _ _
    c.requires.free.turn c.take-held.ensures.before c.give-point.ensures NothingTold out)
    parsed (c.args.moment ∷ []) c.no_memory.result
    (is-made g.K.Keeper.told c.args.shared.now c.args.reader.now.pass c.take-held.new.reader.pass c.take-held.result.value c.act_with-acted.new.wiki taken _ _ _
    c.requires.free.turn c.take-held.ensures.before c.give-point.ensures NothingTold out)
    (one-moment (request_asked c.args.request.now) c.args.moment c.requires.asks) c.no_memory.ensures.point c.no_memory.ensures.value
