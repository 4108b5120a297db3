-- Titles in title order, as they are put there one after the other.
use Rattle.std.specs.Prelude.{List, fold, filter_map, Option, Some, None, if◌then◌else◌}
use Rattle.wk_expand.specs.declared.answer.Read.{Read}
use Rattle.wk_links.specs.Found.{occurrence_in}
use Rattle.wk_links.specs.declared.found.Found.{Found}
use Rattle.wk_text_rules.specs.Titles.{PageTitle}
use Rattle.wk_view_rules.specs.Rows.{page_linked, put_in_order}
use Rattle.wk_view_rules.specs.Worlds.{kind_eq}
use Rattle.wk_view_rules.specs.declared.Kind.{Kind}

-- a title among titles in order
abbrev pub with_title : List PageTitle → PageTitle → List PageTitle
with_title ordered title = put_in_order (λ t. t) title ordered

-- titles among titles in order
abbrev pub with_titles : List PageTitle → List PageTitle → List PageTitle
with_titles ordered titles = fold with_title ordered titles

abbrev pub title_asked : Kind → Read → Option PageTitle
title_asked kind read = if kind_eq read.kind kind then Some read.title else None

-- the titles that were asked with a kind
abbrev pub titles_asked : Kind → List Read → List PageTitle
titles_asked kind reads = filter_map (title_asked kind) reads

abbrev pub title_linked : Found → Option PageTitle
title_linked link = page_linked (occurrence_in link)

-- the titles of the pages that are linked to
abbrev pub titles_linked : List Found → List PageTitle
titles_linked found = filter_map title_linked found
