use Rattle.wk_title_laws.proofs.Law.{shown_names}
use Rattle.wk_title_laws.proofs.shown_form_names_its_title.Goals as goal

pub returns : goal.returns
returns c = shown_names
