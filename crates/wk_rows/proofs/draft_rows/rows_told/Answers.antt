use Rattle.std.proofs.Common.{List, [], ◌++◌, ap, ◌∙◌}
use Rattle.wk_links.specs.declared.found.Found.{Found}
use Rattle.wk_text_rules.specs.Titles.{PageTitle, with_spaces}
use Rattle.wk_view_rules.specs.Rows.{titles_in_order}
use Rattle.wk_view_rules.specs.declared.Kind.TheVariants.{Exists}
use Rattle.wk_rows.specs.Members.{members_by, with_members}
use Rattle.wk_rows.specs.Titles.{titles_asked, titles_linked}
use Rattle.wk_rows.proofs.PrefixLaws.{short-found}
use Rattle.wk_rows.proofs.RowLaws.{linked, members_found, same_rows}
use Rattle.wk_rows.proofs.draft_rows.rows_told.Goals as goal

pub members-requires : goal.members-requires
members-requires c =
    rw c.deref-2.ensures.value (short-found c.args.out.now c.in_ok-found.found.items c.in_ok-found.ensures)

pub returns : goal.returns
returns c =
    let found = c.in_ok-found.found.items in
    let out = c.args.out.now in
    let asked = titles_asked Exists c.args.reads.now in
    let links = c.in_ok-titles_linked.ensures
    ∙ ap (λ (f : List Found). titles_in_order (titles_linked f ++ asked)) c.deref.ensures.value
    ∙ ap (λ (titles : List PageTitle). titles_in_order (titles ++ asked)) (linked found out c.in_ok-found.ensures) in
    let members = c.in_ok-members.ensures
    ∙ ap (λ (f : List Found). with_members [] (members_by (with_spaces c.args.page.now.key) f)) c.deref-2.ensures.value
    ∙ members_found c.args.page.now found out c.in_ok-found.ensures in
    same_rows _ _ c.in_ok-titles_read.ensures c.in_ok-titles_read-2.ensures links members c.in_ok-share.ensures
