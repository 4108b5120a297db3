use Rattle.std.proofs.Common.{[]}
use Rattle.std.proofs.lemmas.List.Elements.{All-nil}
use Rattle.wk_view_laws.proofs.PlanLemmas.{agrees-itself}
use Rattle.wk_view_laws.proofs.SeenLemmas.{seen-seen, seen-world}
use Rattle.wk_subst_laws.proofs.RoundLemmas.{length-reads}
use Rattle.wk_subst_laws.proofs.reads_are_answers.Goals as goal

pub returns-clause-own : goal.returns-clause-own
returns-clause-own c = λ a text. agrees-itself a _ [] (All-nil _)

pub returns-clause-world : goal.returns-clause-world
returns-clause-world c = λ pages text. seen-world pages _

pub returns-clause-seen : goal.returns-clause-seen
returns-clause-seen c = λ seen text is_seen. seen-seen seen is_seen _

pub returns-clause-most : goal.returns-clause-most
returns-clause-most c = length-reads
