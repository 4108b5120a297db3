use Rattle.std.proofs.Common.{◌≡◌, sym, ap, subst, ◌∙◌}
use Rattle.wk_text_rules.specs.Titles.{PageTitle}
use Rattle.wk_expand.specs.Drafts.{DraftShown}
use Rattle.lru.specs.LruCache.{LruCache}
use Rattle.wk_cache.specs.Keyed.{AreKeyed, drafts}
use Rattle.wk_cache.specs.declared.kept.Kept.{Kept}
use Rattle.wk_cache.proofs.Keys.{put-is, put-keyed}
use Rattle.wk_cache.proofs.entries.put.Goals as goal
use Rattle.wk_cache.proofs.entries.put.Goals.{In-Ok}

-- the page that was shared is the draft's
page-is : (c : In-Ok) → c.in-Ok.page ≡ c.args.entry.draft.page
page-is c = c.in-Ok.ensures ∙ (c.page.ensures.value ∙ ap (λ (d : DraftShown). d.page) c.draft.ensures)

pub returns-in-Ok-put-clause-entries : goal.returns-in-Ok-put-clause-entries
returns-in-Ok-put-clause-entries c =
    ap (λ (l : LruCache PageTitle Kept). drafts l.entries) c.in-Ok-put.ensures.entries
    ∙ sym (put-is c.args.kept.now c.in-Ok.page c.args.entry c.requires.keyed c.len-room.ensures.valid.1 c.len-room.ensures.valid.2 (page-is (goal.at.returns-in-Ok-put-clause-entries c).In-Ok))

pub returns-in-Ok-put-clause-keyed : goal.returns-in-Ok-put-clause-keyed
returns-in-Ok-put-clause-keyed c =
    subst (λ (l : LruCache PageTitle Kept). AreKeyed l.entries) (sym c.in-Ok-put.ensures.entries)
    (put-keyed c.args.kept.now c.in-Ok.page c.args.entry c.requires.keyed (page-is (goal.at.returns-in-Ok-put-clause-keyed c).In-Ok))

pub returns-in-Err-clause-keyed : goal.returns-in-Err-clause-keyed
returns-in-Err-clause-keyed c =
    subst (λ (l : LruCache PageTitle Kept). AreKeyed l.entries) (sym c.in-Err.ensures.err) c.requires.keyed
