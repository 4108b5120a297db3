use Rattle.std.proofs.Common.{sym, ap, subst, ◌∙◌}
use Rattle.wk_text_rules.specs.Titles.{PageTitle}
use Rattle.lru.specs.LruCache.{LruCache}
use Rattle.wk_cache.specs.Keyed.{AreKeyed, drafts}
use Rattle.wk_cache.specs.declared.kept.Kept.{Kept}
use Rattle.wk_cache.proofs.Keys.{front-is, front-keyed}
use Rattle.wk_cache.proofs.entries.promote.Goals as goal

pub returns-clause-entries : goal.returns-clause-entries
returns-clause-entries c =
    ap (λ (l : LruCache PageTitle Kept). drafts l.entries) c.promote.ensures.entries
    ∙ sym (front-is c.args.page.now c.args.kept.now.entries c.requires)

pub returns-clause-keyed : goal.returns-clause-keyed
returns-clause-keyed c =
    subst (λ (l : LruCache PageTitle Kept). AreKeyed l.entries) (sym c.promote.ensures.entries)
    (front-keyed c.args.page.now c.args.kept.now.entries c.requires)
