-- Parts of the shapes of atoms.
use Rattle.std.specs.Prelude.{ℕ, codes}
use Rattle.wk_text_rules.specs.Blank.{is_blank_byte}
use Rattle.wk_text_rules.specs.Shapes.{Shape, exactly, one_of, run_of, ◌and_then◌, ◌or_else◌, up_to}
use Rattle.wk_tree_rules.specs.Tags.{is_space_or_tab, is_name_end, closed_comment}

-- a closed comment, and the spaces and tabs behind it
abbrev pub spaced_comment : Shape ℕ
spaced_comment = closed_comment and_then run_of is_space_or_tab

-- the rest of a tag behind its name that has more than a `/` before its `>`
abbrev pub tag_rest_to_angle : Shape ℕ
tag_rest_to_angle = one_of is_name_end and_then up_to (exactly (codes ">"))

-- the rest of an end tag behind its name, with blank bytes before its `>`
abbrev pub blank_rest : Shape ℕ
blank_rest = one_of is_name_end and_then run_of is_blank_byte and_then exactly (codes ">")

-- the rest of an end tag behind its name, with nothing but blank bytes before its `>`
abbrev pub element_end_rest : Shape ℕ
element_end_rest = exactly (codes ">") or_else blank_rest
