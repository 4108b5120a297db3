use Rattle.std.proofs.Common.{codes, ◌∙◌}
use Rattle.wk_lex.proofs.ElementLemmas.{element-seen}
use Rattle.wk_lex.proofs.tags.Tags.pre.Goals as goal

pub returns-clause-end : goal.returns-clause-end
returns-clause-end c =
    element-seen (codes "pre") c.self.inside.text.now c.args.self.now (c.self.view_is ∙ c.opening_tag.ensures.text) c.args.at c.in_ok-inside.inside
    c.in_ok-inside.ensures.end c.is_closed_in_itself.result c.is_closed_in_itself.ensures c.if-is_closed_in_itself.false
    c.behind_known_element_end.result c.behind_known_element_end.ensures.end
