-- What an edit asks and how much a wiki holds, as the rules read them.
use Rattle.std.specs.Prelude.{option_map, string_bytes}
use Rattle.wk_page_rules.specs.Verdict.{EditAsked, MostHeld}
use Rattle.wk_revs.specs.declared.edit.Edit.{Edit}
use Rattle.wk_revs.specs.declared.edit.Limits.{Limits}

abbrev pub edit_asked : Edit → EditAsked
edit_asked edit = record {
  title = string_bytes edit.title;
  body = option_map (λ body. string_bytes body) edit.body;
  base = edit.base;
  create_only = edit.create_only;
  no_create = edit.no_create;
}

abbrev pub most_held : Limits → MostHeld
most_held limits = record {
  pages = limits.pages;
  revisions = limits.revisions;
  text = limits.text;
  journal = limits.journal;
}
