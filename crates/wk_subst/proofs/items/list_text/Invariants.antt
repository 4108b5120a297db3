use Rattle.wk_subst.proofs.ItemLaws.{IsRead}
use Rattle.wk_subst.proofs.items.list_text.Given as goal

-- the items before this one as text
abbrev pub invariant-walk : goal.invariant-walk
invariant-walk l = IsRead l.tree l.fn.list l.at l.text
