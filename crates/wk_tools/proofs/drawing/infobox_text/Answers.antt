use Rattle.std.proofs.Common.{List, ℕ, ap, arith, ◌++◌, ◌∙◌}
use Rattle.std.specs.Prelude.{codes, flat_map, string_bytes}
use Rattle.wk_tool_rules.specs.Generator.{field_text, fields}
use Rattle.wk_tools.proofs.Numbers.{text-end, text-next}
use Rattle.wk_tools.proofs.drawing.infobox_text.Goals as goal

abbrev whole : List ℕ
whole = codes "<noinclude>{{Infobox|name=Example}}</noinclude><includeonly>'''{{{name|{{PAGENAME}}}}}'''" ++ flat_map field_text fields

pub fields-preserved : goal.fields-preserved
fields-preserved c =
    text-next field_text (string_bytes c.fields.text) (string_bytes c.push_shown_field.new.text) whole c.fields.field 12 (omega arith) c.in_ok-push_shown_field.ensures c.fields.invariant

pub returns : goal.returns
returns c =
    c.in_ok-push_str.ensures.bytes
    ∙ ap (λ t. t ++ codes "[[Category:Boxes]]</includeonly>") (text-end field_text (string_bytes c.fields.text) whole c.fields.field 12 (omega arith) c.fields.invariant)
