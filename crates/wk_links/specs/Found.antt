-- What the code finds, as the definition of occurrences has it.
use Rattle.std.specs.Prelude.{List}
use Rattle.wk_links.specs.declared.found.Found.{Found}
use Rattle.wk_links.specs.declared.found.What.{What}
use Rattle.wk_links.specs.declared.found.What.TheVariants.{Page, Member, Nothing}
use Rattle.wk_text_rules.specs.Marked.{MarkedByte, text_of}
use Rattle.wk_text_rules.specs.Occurrences.{Link, page, member, nothing, Occurrence, link_of}
use Rattle.wk_links.specs.Brackets.{content_in, end_of}
use Rattle.wk_links.specs.declared.brackets.Brackets.{Brackets}

abbrev pub link_in : What → Link
link_in (Page title) = page title
link_in (Member title prefix) = member title prefix
link_in Nothing = nothing

abbrev pub occurrence_in : Found → Occurrence
occurrence_in found = record { start = found.start; end = found.end; link = link_in found.what }

-- the occurrence whose brackets these are
abbrev pub occurrence_by : List MarkedByte → Brackets → Occurrence
occurrence_by out b =
    record { start = b.start; end = end_of b; link = link_of (text_of (content_in out b).target) (content_in out b).label }
