use Rattle.std.proofs.Common.{◌≡◌, ◌++◌}
use Rattle.std.specs.Prelude.{codes, flat_map, string_bytes}
use Rattle.wk_tool_rules.specs.Generator.{field_text, fields}
use Rattle.wk_tools.proofs.Numbers.{numbers_from}
use Rattle.wk_tools.proofs.drawing.infobox_text.Given as goal

abbrev pub invariant-fields : goal.invariant-fields
invariant-fields l =
    string_bytes l.text ++ flat_map field_text (numbers_from l.field 12)
    ≡ codes "<noinclude>{{Infobox|name=Example}}</noinclude><includeonly>'''{{{name|{{PAGENAME}}}}}'''" ++ flat_map field_text fields
