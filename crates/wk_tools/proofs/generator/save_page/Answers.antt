use Rattle.std.proofs.Common.{◌≡◌, Err}
use Rattle.wk_revs.specs.declared.verdict.SaveRefusal.TheVariants.{StoreFault}
use Rattle.wk_tools.proofs.generator.save_page.Goals as goal

pub returns-clause-no_fault : goal.returns-clause-no_fault
returns-clause-no_fault g c = λ other. c.in-Err.ensures.no_fault (λ e. other (let is : Err c.in-Err.refusal ≡ Err StoreFault = e in cc))
