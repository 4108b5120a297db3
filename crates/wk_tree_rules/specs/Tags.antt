-- Comments, tags and elements (MediaWiki's Preprocessor ABNF, with tags read as this profile reads them).
use Rattle.std.specs.Prelude.{ℕ, ◌==◌, Bool, ◌||◌, List, codes}
use Rattle.wk_text_rules.specs.Blank.{is_blank_byte}
use Rattle.wk_text_rules.specs.Shapes.{Shape, exactly, in_any_case, one_of, run_of, ◌and_then◌, ◌or_else◌, up_to, to_the_end, ending_in, one_or_more}

abbrev pub is_space_or_tab : ℕ → Bool
is_space_or_tab b = b == 32 || b == 9

-- space, tab or newline, which ends a tag's name
abbrev pub is_name_end : ℕ → Bool
is_name_end b = is_space_or_tab b || b == 10

-- ---- comments

-- `<!--` and all up to the nearest `-->` behind it
abbrev pub closed_comment : Shape ℕ
closed_comment = exactly (codes "<!--") and_then up_to (exactly (codes "-->"))

-- a closed comment, or `<!--` and all that is left
abbrev pub comment : Shape ℕ
comment = closed_comment or_else exactly (codes "<!--") and_then to_the_end

-- what stands on a line of comments: spaces and tabs, one or more closed comments each with spaces and tabs behind
-- it, and the newline
abbrev pub line_of_comments : Shape ℕ
line_of_comments =
    run_of is_space_or_tab
    and_then one_or_more (closed_comment and_then run_of is_space_or_tab)
    and_then exactly (codes "\n")

-- ---- tags

-- what follows a tag's name: `>`, or `/>`, or a space, tab or newline and all up to the nearest `>`
abbrev pub tag_rest : Shape ℕ
tag_rest = exactly (codes ">") or_else exactly (codes "/>") or_else one_of is_name_end and_then up_to (exactly (codes ">"))

abbrev pub opening_tag : List ℕ → Shape ℕ
opening_tag name = exactly (codes "<") and_then in_any_case name and_then tag_rest

abbrev pub end_tag : List ℕ → Shape ℕ
end_tag name = exactly (codes "</") and_then in_any_case name and_then tag_rest

-- an opening tag with a `/` directly before its `>`
abbrev pub tag_closed_in_itself : List ℕ → Shape ℕ
tag_closed_in_itself name = ending_in (codes "/>") (opening_tag name)

-- ---- elements

-- an end tag with nothing but blank bytes between its name and its `>`
abbrev pub element_end : List ℕ → Shape ℕ
element_end name =
    exactly (codes "</") and_then in_any_case name
    and_then (exactly (codes ">") or_else one_of is_name_end and_then run_of is_blank_byte and_then exactly (codes ">"))

-- a tag closed in itself, or an opening tag and all up to the nearest end of its name
abbrev pub element : List ℕ → Shape ℕ
element name = tag_closed_in_itself name or_else opening_tag name and_then up_to (element_end name)

-- an element, or with no end an opening tag and all that is left (own)
abbrev pub open_ended_element : List ℕ → Shape ℕ
open_ended_element name =
    tag_closed_in_itself name or_else opening_tag name and_then (up_to (element_end name) or_else to_the_end)
