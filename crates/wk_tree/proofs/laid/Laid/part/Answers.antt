use Rattle.std.proofs.Common.{◌≤◌, ◌+◌, ◌⊎◌, drop, ap, subst, sym, ◌∙◌, get_or}
use Rattle.std.proofs.lemmas.List.{get_or-drop, get_or-take}
use Rattle.wk_tree.specs.Laid.{all_of}
use Rattle.wk_tree.specs.Shown.{from_end}
use Rattle.wk_tree.proofs.ViewLemmas.{part-none, part-shown, ranged-short}
use Rattle.wk_tree.proofs.laid.Laid.part.Goals as goal

pub returns-in-Some : goal.returns-in-Some
returns-in-Some c = λ ns rest shows.
    let lists = c.in_ok-lists.lists.now in
    let all = all_of c.args.self.now in
    let x = c.index.result.now in
    part-shown all ns lists (from_end rest c.args.node.0) c.args.at x (c.in_ok-lists.ensures ns rest shows)
    (c.index.ensures
    ∙ ap (λ k. get_or all.parts k x) c.in-Some.ensures.0
    ∙ sym (get_or-drop lists.parts.start all.parts c.args.at x)
    ∙ sym (get_or-take lists.parts.len (drop lists.parts.start all.parts) c.args.at x c.in-Some.ensures.1))

pub returns-in-None : goal.returns-in-None
returns-in-None c = λ ns rest shows.
    let lists = c.in_ok-lists.lists.now in
    let all = all_of c.args.self.now in
    part-none all ns lists (from_end rest c.args.node.0) c.args.at (c.in_ok-lists.ensures ns rest shows)
    (ranged-short all.parts lists.parts c.args.at
    (subst (λ n. (lists.parts.len ≤ c.args.at) ⊎ (n ≤ lists.parts.start + c.args.at)) (c.len.ensures ∙ c.args.self.now.lists.parts.ok.0) c.in-None.ensures))
