use Rattle.wk_shared.specs.Calls.{MayFail}
use Rattle.wk_complete_laws.proofs.Answering.{page-shown-or-starved}
use Rattle.wk_complete_laws.proofs.replies.a_page_that_exists_is_shown.Goals as goal

pub returns : goal.returns
returns c = λ start old new least page title moments reply made named reached there x.
    page-shown-or-starved old new least page title named (MayFail start) moments reply made reached there x
