use Rattle.std.proofs.Common.{◌+◌, sym, ap, ◌∙◌}
use Rattle.std.specs.Prelude.{option_map, unwrap_or}
use Rattle.wk_revs.proofs.PageLaws.{current-entry, number-entry, title_eq_comm}
use Rattle.wk_revs.proofs.pages.found.Goals as goal

pub returns-in-Some-clause-number : goal.returns-in-Some-clause-number
returns-in-Some-clause-number c =
    ap (option_map (λ place. place + 1)) c.in-Some.ensures.index
    ∙ sym (number-entry c.args.title.now _ (λ key. title_eq_comm key c.args.title.now) c.args.pages.now.entries)

pub returns-in-Some-clause-current : goal.returns-in-Some-clause-current
returns-in-Some-clause-current c =
    ap (λ o. unwrap_or o 0) c.in-Some.ensures.value
    ∙ sym (current-entry c.args.title.now _ (λ key. title_eq_comm key c.args.title.now) c.args.pages.now.entries)

pub returns-in-None-clause-number : goal.returns-in-None-clause-number
returns-in-None-clause-number c =
    ap (option_map (λ place. place + 1)) c.in-None.ensures.index
    ∙ sym (number-entry c.args.title.now _ (λ key. title_eq_comm key c.args.title.now) c.args.pages.now.entries)

pub returns-in-None-clause-current : goal.returns-in-None-clause-current
returns-in-None-clause-current c =
    ap (λ o. unwrap_or o 0) c.in-None.ensures.value
    ∙ sym (current-entry c.args.title.now _ (λ key. title_eq_comm key c.args.title.now) c.args.pages.now.entries)
