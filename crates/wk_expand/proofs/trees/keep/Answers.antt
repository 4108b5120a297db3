use Rattle.std.proofs.Common.{sym, ap, subst, ◌∙◌}
use Rattle.wk_expand.specs.Trees.{AreKept}
use Rattle.wk_expand.proofs.TreeLaws.{entries_of, kept-put, reading-same, reading_eq}
use Rattle.wk_expand.proofs.trees.keep.Goals as goal

pub returns-in_err-put-clause-kept : goal.returns-in_err-put-clause-kept
returns-in_err-put-clause-kept c = subst AreKept (sym (ap entries_of c.in_err-put.ensures.err)) c.requires.kept

pub returns-clause-kept : goal.returns-clause-kept
returns-clause-kept c =
    let is = c.in_ok-tree.ensures ∙ c.requires.is in
    subst AreKept (sym (ap entries_of c.in_ok-put.ensures.entries))
    (kept-put reading_eq c.args.kept.now c.args.key c.in_ok-tree.tree c.requires.kept (reading-same c.args.key) is c.requires.short)
