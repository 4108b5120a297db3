use Rattle.std.proofs.Common.{◌∙◌}
use Rattle.wk_lex.proofs.ElementLemmas.{open_ended-seen, open_ended-unseen}
use Rattle.wk_lex.proofs.tags.Tags.open_ended_element.Goals as goal

pub returns-in-Some-clause-end : goal.returns-in-Some-clause-end
returns-in-Some-clause-end c =
    open_ended-seen c.args.name.now c.self.inside.text.now c.args.self.now (c.self.view_is ∙ c.opening_tag.ensures.text) c.args.at c.in_ok-inside.inside
    c.in_ok-inside.ensures.end c.is_closed_in_itself.result c.is_closed_in_itself.ensures c.if-is_closed_in_itself.false
    c.in-Some.end c.in-Some.ensures.end

pub returns-clause-end : goal.returns-clause-end
returns-clause-end c =
    open_ended-unseen c.args.name.now c.self.inside.text.now c.args.self.now (c.self.view_is ∙ c.opening_tag.ensures.text) c.args.at c.in_ok-inside.inside
    c.in_ok-inside.ensures.end c.is_closed_in_itself.result c.is_closed_in_itself.ensures c.if-is_closed_in_itself.false
    c.in_default.ensures.end
