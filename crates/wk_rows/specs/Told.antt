-- A page's rows, by what is told of its expansion.
use Rattle.std.specs.Prelude.{List, ◌++◌, filter_map, Option}
use Rattle.wk_expand.specs.declared.answer.Read.{Read}
use Rattle.wk_text_rules.specs.Marked.{MarkedByte}
use Rattle.wk_text_rules.specs.Occurrences.{occurrences}
use Rattle.wk_text_rules.specs.Titles.{PageTitle}
use Rattle.wk_page_rules.specs.PageRows.{Member, PageRows}
use Rattle.wk_view_rules.specs.Rows.{in_title_order, membership, page_linked, titles_in_order}
use Rattle.wk_view_rules.specs.declared.Kind.TheVariants.{Include, Exists}
use Rattle.wk_rows.specs.Titles.{titles_asked}

-- by the output, the titles that were read, and the title that the page redirects to
abbrev pub rows_told : PageTitle → List MarkedByte → List Read → Option PageTitle → PageRows
rows_told of_page out reads redirect = record {
  templates = titles_in_order (titles_asked Include reads);
  exists = titles_in_order (titles_asked Exists reads);
  links = titles_in_order (filter_map page_linked (occurrences out) ++ titles_asked Exists reads);
  members = in_title_order (λ (m : Member). m.category) (filter_map (membership of_page) (occurrences out));
  redirect = redirect;
}
