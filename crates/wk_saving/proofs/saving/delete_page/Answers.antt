use Rattle.std.proofs.Common.{List, ℕ, length, subst}
use Rattle.std.specs.Prelude.{IfOk}
use Rattle.serde_json.specs.View.{view}
use Rattle.wk_answer_rules.specs.Saves.{delete_answer}
use Rattle.wk_saving.specs.Saved.{IsActed}
use Rattle.wk_saving.proofs.saving.delete_page.Goals as goal

pub returns-clause-acted : goal.returns-clause-acted
returns-clause-acted g c =
    let wiki = c.args.wiki.now in
    subst (λ (title : List ℕ). IfOk c.save_told.result (λ v. IsActed g.K.Keeper.told g.K.Keeper.faults wiki c.save_told.new.wiki (delete_answer wiki.start.limits wiki.state (length wiki.journal) c.args.now title c.args.base) (view v)))
    c.in_ok-title.ensures.ok c.save_told.ensures.acted
