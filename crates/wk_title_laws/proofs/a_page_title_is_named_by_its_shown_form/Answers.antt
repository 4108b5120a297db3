use Rattle.wk_title_laws.proofs.NormalRows.{page-title, page-title-back}
use Rattle.wk_title_laws.proofs.a_page_title_is_named_by_its_shown_form.Goals as goal

pub returns-clause-named : goal.returns-clause-named
returns-clause-named c = page-title

pub returns-clause-only_so : goal.returns-clause-only_so
returns-clause-only_so c = page-title-back
