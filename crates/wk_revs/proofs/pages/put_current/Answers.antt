use Rattle.std.proofs.Common.{◌+◌, ◌≤◌, length, max, sym, ap, ap₂, ◌∙◌, subst}
use Rattle.std.specs.Prelude.{unwrap_or}
use Rattle.wk_page_rules.specs.Verdict.{max_pages}
use Rattle.wk_revs.specs.Revs.{existence, existing_in, pages_of}
use Rattle.wk_revs.proofs.PageLaws.{current-entry, existing-put, existing_least, few-entries, length-put, number-to-save, put-entry, title_eq_comm}
use Rattle.wk_revs.proofs.pages.put_current.Goals as goal

pub returns-clause-pages : goal.returns-clause-pages
returns-clause-pages c =
    ap pages_of c.in-Ok.ensures.entries
    ∙ put-entry _ c.args.title c.args.number (λ key. title_eq_comm key c.args.title) c.args.pages.now.entries

pub returns-clause-page : goal.returns-clause-page
returns-clause-page c =
    ap (λ place. place + 1) c.in-Ok.ensures.index
    ∙ sym (number-to-save c.args.title _ (λ key. title_eq_comm key c.args.title) c.args.pages.now.entries)

pub returns-clause-parent : goal.returns-clause-parent
returns-clause-parent c =
    c.unwrap_or.ensures ∙ ap (λ o. unwrap_or o 0) c.in-Ok.ensures.old
    ∙ sym (current-entry c.args.title _ (λ key. title_eq_comm key c.args.title) c.args.pages.now.entries)

pub returns-clause-counted : goal.returns-clause-counted
returns-clause-counted c =
    subst (λ n. existence n ≤ existing_in c.args.pages.now.entries) (sym (returns-clause-parent c)) (existing_least c.args.title c.args.pages.now.entries)

pub returns-clause-len : goal.returns-clause-len
returns-clause-len c =
    ap length c.in-Ok.ensures.entries ∙ length-put _ c.args.title c.args.number c.args.pages.now.entries
    ∙ ap (λ place. max (length c.args.pages.now.entries) (place + 1)) (sym c.in-Ok.ensures.index)

pub returns-clause-few : goal.returns-clause-few
returns-clause-few c =
    subst (λ n. n ≤ max_pages) (sym (returns-clause-len c))
    (few-entries c.args.title _ (λ key. title_eq_comm key c.args.title) c.args.pages.now.entries max_pages c.in-Ok.place c.in-Ok.ensures.index c.requires.within c.requires.fits)

pub returns-clause-existing : goal.returns-clause-existing
returns-clause-existing c =
    ap₂ (λ entries current. existing_in entries + existence current) c.in-Ok.ensures.entries
    (returns-clause-parent c ∙ current-entry c.args.title _ (λ key. title_eq_comm key c.args.title) c.args.pages.now.entries)
    ∙ existing-put _ c.args.title c.args.number c.args.pages.now.entries
