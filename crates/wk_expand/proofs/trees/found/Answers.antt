use Rattle.std.proofs.Common.{slice_get, option_map, sym, ap, subst, ◌∙◌}
use Rattle.wk_expand.specs.Trees.{AreKept}
use Rattle.wk_expand.proofs.TreeLaws.{entries_of, front-found, kept-promoted, reading-same, reading_eq}
use Rattle.wk_expand.proofs.trees.found.Goals as goal

pub returns-then-not-promote-clause-kept : goal.returns-then-not-promote-clause-kept
returns-then-not-promote-clause-kept c = subst AreKept (sym (ap entries_of c.promote.ensures.entries)) (kept-promoted (reading_eq c.args.key.now) c.args.kept.now.entries c.requires)

pub returns-in_err-share-in-Some-clause-kept : goal.returns-in_err-share-in-Some-clause-kept
returns-in_err-share-in-Some-clause-kept c = subst AreKept (sym (ap entries_of c.promote.ensures.entries)) (kept-promoted (reading_eq c.args.key.now) c.args.kept.now.entries c.requires)

pub returns-in_ok-share-in-Some-clause-kept : goal.returns-in_ok-share-in-Some-clause-kept
returns-in_ok-share-in-Some-clause-kept c = subst AreKept (sym (ap entries_of c.promote.ensures.entries)) (kept-promoted (reading_eq c.args.key.now) c.args.kept.now.entries c.requires)

pub returns-in-None-clause-kept : goal.returns-in-None-clause-kept
returns-in-None-clause-kept c = subst AreKept (sym (ap entries_of c.promote.ensures.entries)) (kept-promoted (reading_eq c.args.key.now) c.args.kept.now.entries c.requires)

pub returns-in_ok-share-in-Some-clause-tree : goal.returns-in_ok-share-in-Some-clause-tree
returns-in_ok-share-in-Some-clause-tree c =
    let there = sym c.promote.ensures.value ∙ c.if-not-promote.false in
    let first = ap (λ es. slice_get es 0) (sym (ap entries_of c.promote.ensures.entries)) ∙ sym c.peek_mru.ensures ∙ ap (option_map _) c.in-Some.is in
    c.in_ok-share-in-Some.ensures ∙ front-found c.args.key.now (reading_eq c.args.key.now) c.args.kept.now.entries (c.in-Some._key.now, c.in-Some.tree.now) c.requires (reading-same c.args.key.now) there first
