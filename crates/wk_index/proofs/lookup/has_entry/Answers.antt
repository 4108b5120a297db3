use Rattle.std.proofs.Common.{◌∙◌, sym, refl}
use Rattle.wk_index.proofs.EntryLaws.{is_in}
use Rattle.wk_index.proofs.OrderLaws.{any-at_place, any-at_none}
use Rattle.wk_index.proofs.lookup.has_entry.Goals as goal

pub returns-in-Some : goal.returns-in-Some
returns-in-Some c =
    c.is_entry.ensures
    ∙ sym (any-at_place (λ m. m.0) c.args.category.now (is_in (c.args.category.now, c.args.sortkey.now)) (λ x e. rw e refl) c.args.members.now c.in-Some.place c.index-members-place.result c.in-Some.ensures c.index-members-place.is)

pub returns-in-None : goal.returns-in-None
returns-in-None c =
    sym (any-at_none (λ m. m.0) c.args.category.now (is_in (c.args.category.now, c.args.sortkey.now)) (λ x e. rw e refl) c.args.members.now c.in-None.ensures)
