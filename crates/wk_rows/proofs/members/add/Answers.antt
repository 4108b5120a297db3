use Rattle.std.proofs.Common.{ℕ, List, map, ap, ◌∙◌}
use Rattle.std.proofs.lemmas.Result.{on_ok_weaker}
use Rattle.wk_text_rules.specs.Titles.{PageTitle}
use Rattle.wk_rows.specs.Members.{kept_member, sortkey_by, with_member}
use Rattle.wk_rows.proofs.OrderLaws.{insert_entry_put}
use Rattle.wk_rows.proofs.members.add.Goals as goal

pub returns : goal.returns
returns c =
    let before = c.args.members.now.entries in
    let prefix = c.in_ok-share-2.field-0 in
    let key = c.args.key.now in
    on_ok_weaker c.put.result
    (λ entries.
    ap (map kept_member) entries
    ∙ insert_entry_put before c.in_ok-share.field-0 _
    ∙ ap (λ (k : List ℕ). with_member (map kept_member before) (kept_member (c.in_ok-share.field-0, (k, prefix)))) (c.sortkey-2.view_is ∙ c.in_ok-sortkey.ensures)
    ∙ ap (λ (t : PageTitle). with_member (map kept_member before) (kept_member (t, (sortkey_by key c.args.prefix.now, prefix)))) c.in_ok-share.ensures
    ∙ ap (λ (p : List ℕ). with_member (map kept_member before) (kept_member (c.args.category.now, (sortkey_by key c.args.prefix.now, p)))) c.in_ok-share-2.ensures)
    c.put.ensures
