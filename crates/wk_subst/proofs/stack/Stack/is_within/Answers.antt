use Rattle.std.proofs.Common.{List, ap, ◌∙◌}
use Rattle.std.specs.List.{list_any}
use Rattle.wk_text_rules.specs.Titles.{title_eq}
use Rattle.wk_subst.specs.Stack.{any_title, within_of}
use Rattle.wk_subst.specs.declared.stack.Opened.{Opened}
use Rattle.wk_subst.proofs.StackLaws.{is-within}
use Rattle.wk_subst.proofs.stack.Stack.is_within.Goals as goal

pub returns : goal.returns
returns c =
    c.any_of.ensures
    ∙ ap (λ (kept : List Opened). list_any (any_title (title_eq c.args.title.now)) kept) c.as_slice.ensures.value
    ∙ is-within (title_eq c.args.title.now) c.self.inside.opened.items
    ∙ ap (λ (opened : List Opened). list_any (title_eq c.args.title.now) (within_of opened)) c.self.view_is
