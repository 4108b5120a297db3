use Rattle.std.proofs.Common.{refl, subst, sym, ◌∙◌}
use mathlib.Core.List.{IsPrefix}
use Rattle.wk_serving.proofs.Sharing.{not-shared}
use Rattle.wk_serving.proofs.fed.serve_fed.Goals as goal

pub returns-in-Ok-clause-wiki : goal.returns-in-Ok-clause-wiki
returns-in-Ok-clause-wiki g c =
    let journal = c.serve_fed_shared.result.wiki.journal in record {
      start = c.serve_fed_shared.ensures.start ∙ c.in-Ok.ensures.start;
      journal = subst (λ j. IsPrefix j journal) (sym c.requires.begun) (journal, refl);
    }

pub returns-in-Err-clause-wiki : goal.returns-in-Err-clause-wiki
returns-in-Err-clause-wiki g c = not-shared c.args.wiki c.in-Err.wiki c.in-Err.ensures.refused
