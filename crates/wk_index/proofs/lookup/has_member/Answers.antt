use Rattle.std.proofs.Common.{◌∙◌, sym, refl}
use Rattle.wk_table_rows.specs.Members.{member_of}
use Rattle.wk_wiki_rules.specs.Names.{member_eq}
use Rattle.wk_index.proofs.OrderLaws.{any-at_place, any-at_none}
use Rattle.wk_index.proofs.PagesLaws.{any-map}
use Rattle.wk_index.proofs.lookup.has_member.Goals as goal

pub returns-then-not-in_order : goal.returns-then-not-in_order
returns-then-not-in_order c = c.has_triple.ensures ∙ sym (any-map member_of (member_eq (member_of c.args.member.now)) c.args.members.now)

pub returns-in-Some : goal.returns-in-Some
returns-in-Some c =
    c.is_same_member.ensures
    ∙ sym (any-at_place (λ m. m.0) c.args.member.now.0 (λ m. member_eq (member_of c.args.member.now) (member_of m)) (λ x e. rw e refl) c.args.members.now c.in-Some.place c.index-members-place.result c.in-Some.ensures c.index-members-place.is)
    ∙ sym (any-map member_of (member_eq (member_of c.args.member.now)) c.args.members.now)

pub returns-in-None : goal.returns-in-None
returns-in-None c =
    sym (any-at_none (λ m. m.0) c.args.member.now.0 (λ m. member_eq (member_of c.args.member.now) (member_of m)) (λ x e. rw e refl) c.args.members.now c.in-None.ensures)
    ∙ sym (any-map member_of (member_eq (member_of c.args.member.now)) c.args.members.now)
