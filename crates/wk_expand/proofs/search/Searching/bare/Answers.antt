use Rattle.std.proofs.Common.{◌∙◌, ap}
use Rattle.wk_tree.specs.Parsed.{ParsedText}
use Rattle.wk_view_rules.specs.Expand.{behind_bare_item}
use Rattle.wk_expand.specs.Searches.{search_of}
use Rattle.wk_expand.specs.declared.search.Search.{Search}
use Rattle.wk_expand.proofs.search.Searching.bare.Goals as goal

pub returns-clause-after : goal.returns-clause-after
returns-clause-after c =
    λ (parsed : ParsedText).
    c.bare.ensures.after parsed
    ∙ ap (λ (s : Search). behind_bare_item (search_of parsed s) c.args.text) (c.deref_mut.ensures.value ∙ c.self.view_is)
