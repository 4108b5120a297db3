use Rattle.std.proofs.Common.{◌≡◌, ◌∙◌, ◌++◌, List, map, ap, sym, subst}
use Rattle.std.specs.Result.{IfOk}
use Rattle.wk_table_rows.specs.Members.{member_of}
use Rattle.wk_wiki_rules.specs.Members.{MemberPage}
use Rattle.wk_index.specs.Listing.{members_from}
use Rattle.wk_index.specs.Named.{rows_at}
use Rattle.wk_index.proofs.MembersLaws.{page_members-none, page_members-some}
use Rattle.wk_index.proofs.members.push_entry.Goals as goal

pub returns-in-Some : goal.returns-in-Some
returns-in-Some c =
    subst (λ l. IfOk c.push_own.result (λ left. (rest : List MemberPage) → members_from c.args.most c.push_own.new.listed.items left rest ≡ members_from c.args.most c.args.listed.now.items c.args.passed (l ++ rest)))
    (page_members-some c.args.stored.now c.args.entry.now c.in-Some.shared.now c.deref.result.now
    (c.in-Some.ensures ∙ ap (λ e. rows_at c.args.stored.now e.page) c.entry.view_is)
    (ap (λ r. r.members) (sym c.rows-rows.ensures) ∙ sym (ap (λ r. r.members) c.rows.view_is) ∙ ap (map member_of) (sym c.deref.ensures.value)))
    c.push_own.ensures

pub returns-in-None : goal.returns-in-None
returns-in-None c = λ rest.
    ap (λ l. members_from c.args.most c.args.listed.now.items c.args.passed (l ++ rest))
    (page_members-none c.args.stored.now c.args.entry.now (c.in-None.ensures ∙ ap (λ e. rows_at c.args.stored.now e.page) c.entry.view_is))
