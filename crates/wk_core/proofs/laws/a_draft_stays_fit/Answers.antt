use Rattle.wk_wiki_rules.specs.Steps.{fan_pages}
use Rattle.wk_wiki_laws.proofs.HonestReads.{IsHonest-stepped}
use Rattle.wk_life_laws.proofs.Marks.{honest-now}
use Rattle.wk_core.proofs.laws.a_draft_stays_fit.Goals as goal

pub returns-clause-present : goal.returns-clause-present
returns-clause-present c = λ state ticket draft page own agrees. record { page = page; own_text = own; honest = honest-now state draft.reads agrees }

pub returns-clause-stepped : goal.returns-clause-stepped
returns-clause-stepped c = λ state next journal event ticket draft done fit. record {
  page = fit.page;
  own_text = fit.own_text;
  honest = IsHonest-stepped fan_pages state next journal event draft.reads done fit.honest;
}
