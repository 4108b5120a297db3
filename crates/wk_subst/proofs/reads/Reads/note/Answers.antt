use Rattle.std.proofs.Common.{◌≡◌, None, ap, sym, ◌∙◌}
use Rattle.std.specs.Option.{option_copied, option_map}
use Rattle.wk_view_rules.specs.Plans.{noted}
use Rattle.wk_view_rules.specs.Worlds.{Seen, ask, of_seen}
use Rattle.wk_view_rules.specs.declared.Kind.TheVariants.{Include}
use Rattle.wk_expand.specs.Answers.{answer_of, read_with}
use Rattle.wk_expand.proofs.ReadLaws.{noted-there}
use Rattle.wk_subst.proofs.ReadLaws.{marked-more, read-noted}
use Rattle.wk_subst.proofs.reads.Reads.note.Goals as goal

pub returns-in-Some : goal.returns-in-Some
returns-in-Some c =
    let seen = c.self.inside.seen in
    let r = read_with c.args.title.now Include (answer_of c.args.answer.now) in
    sym c.self.view_is
    ∙ noted-there seen c.args.title.now Include (answer_of c.args.answer.now) _ (sym c.in_ok-get.ensures.answer ∙ ap (λ o. option_map answer_of (option_copied o)) c.in-Some.is)
    ∙ ap (λ (s : Seen). noted s r) c.self.view_is

pub invariant_of-self-in-Ok : goal.invariant_of-self-in-Ok
invariant_of-self-in-Ok c =
    let seen = c.self.inside.seen in
    let title = c.args.title.now in
    let answer = answer_of c.args.answer.now in
    let none : ask (of_seen seen) title Include ≡ None = sym c.in_ok-get.ensures.answer ∙ ap (λ o. option_map answer_of (option_copied o)) c.in_default.is in
    marked-more seen c.add.new.self title c.in_ok-asked.asked answer (answer_of c.in_ok-known.known) c.in-Ok.ensures.ok c.in_ok-asked.ensures c.in_ok-known.ensures none
    c.self.inside.marked.items c.push.new.self.items c.in_ok-share.field-0 c.mark.result c.self.invariant c.requires c.in_ok-push.ensures.items c.in_ok-share.ensures c.mark.ensures

pub returns-in-Ok : goal.returns-in-Ok
returns-in-Ok c =
    let seen = c.self.inside.seen in
    let title = c.args.title.now in
    let answer = answer_of c.args.answer.now in
    let none : ask (of_seen seen) title Include ≡ None = sym c.in_ok-get.ensures.answer ∙ ap (λ o. option_map answer_of (option_copied o)) c.in_default.is in
    read-noted seen c.add.new.self title c.in_ok-asked.asked answer (answer_of c.in_ok-known.known) c.in-Ok.ensures.ok c.in_ok-asked.ensures c.in_ok-known.ensures none
    ∙ ap (λ (s : Seen). noted s (read_with title Include answer)) c.self.view_is
