use Rattle.std.proofs.Common.{◌≡◌, ◌∙◌, ◌++◌, ◌∷◌, List, ap, sym, subst}
use Rattle.std.specs.Result.{IfOk}
use Rattle.wk_wiki_rules.specs.Members.{MemberPage}
use Rattle.wk_index.specs.Listing.{members_from}
use Rattle.wk_index.proofs.MembersLaws.{own-none, own-one}
use Rattle.wk_index.proofs.members.push_if_own.Goals as goal

pub returns-then-not-is_own : goal.returns-then-not-is_own
returns-then-not-is_own c = λ rest.
    sym (ap (λ l. members_from c.args.most c.args.listed.now.items c.args.passed (l ++ rest)) (own-none c.args.entry.now c.args.member.now (sym c.is_own.ensures ∙ c.if-not-is_own.true)))

pub returns : goal.returns
returns c =
    subst (λ l. IfOk c.push_one.result (λ left. (rest : List MemberPage) → members_from c.args.most c.push_one.new.listed.items left rest ≡ members_from c.args.most c.args.listed.now.items c.args.passed (l ++ rest)))
    (sym (own-one c.args.entry.now c.args.member.now (sym c.is_own.ensures ∙ c.if-not-is_own.false)))
    (subst (λ p. IfOk c.push_one.result (λ left. (rest : List MemberPage) → members_from c.args.most c.push_one.new.listed.items left rest
    ≡ members_from c.args.most c.args.listed.now.items c.args.passed (record { sortkey = c.args.member.now.1; page = p; prefix = c.args.member.now.2 } ∷ rest)))
    (ap (λ e. e.page) c.entry.view_is) c.push_one.ensures)
