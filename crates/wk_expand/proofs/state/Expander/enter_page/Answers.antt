use Rattle.std.proofs.Common.{◌++◌, Some, ◌∷◌, refl, sym, ap, subst, ◌∙◌}
use Rattle.wk_tree.specs.Parsed.{ParsedText, tree_of}
use Rattle.wk_tree_rules.specs.Tree.{tree}
use Rattle.wk_tree_rules.specs.declared.Mode.TheVariants as mode
use Rattle.wk_view_rules.specs.Expansions.{Expansion, Output, inclusion_within_limit, ◌>>=◌}
use Rattle.wk_expand.specs.Stack.{included_with}
use Rattle.wk_frames.specs.Frames.{ShowsBindings}
use Rattle.wk_expand.specs.State.{progress_of}
use Rattle.wk_frames.specs.declared.levels.Level.{Level}
use Rattle.wk_expand.proofs.LeadLaws.{frame-here, text-here}
use Rattle.wk_expand.proofs.PageLaws.{frame-entered, list-entered}
use Rattle.wk_expand.proofs.RunLaws.{passes-at}
use Rattle.wk_expand.proofs.WrittenLaws.{bind-same}
use Rattle.wk_expand.proofs.state.Expander.enter_page.Goals as goal

pub returns : goal.returns
returns c =
    λ seen p id bindings h shows.
    let s = c.args.self.now in
    let page = c.args.page in
    let level : Level = record { title = page.source; tree = c.in_ok-tree.tree; args = c.args.args } in
    let w = c.enter.new.self in
    let u = record s { levels = w } in
    let before = c.new-out.result in
    let text = tree mode.Include page.text in
    let frame1 = record { title = page.source; bindings = bindings } ∷ p.frame in
    let entered = frame-entered s p.viewed p.frame level w bindings c.in_ok-enter.ensures
    (subst (λ parsed. ShowsBindings parsed c.args.args bindings) (sym (text-here s id p h)) shows) (frame-here s id p h)
    in
    let limit = inclusion_within_limit page.title in
    let next : Expansion Output = p.inner frame1 text >>= (λ out. limit (before ++ out)) in
    record {
      page = refl;
      rest = next;
      next_is = record {
        within = (level, c.in_ok-enter.ensures ∙ (λ i. record (h.home i) { included = level ∷ (h.home i).included }));
        frame = frame1;
        shows = entered.shows;
        items = text;
        there = list-entered s level w c.root-root.result text c.in_ok-enter.ensures (c.root-root.ensures ∙ ap (λ (parsed : ParsedText). Some (tree_of parsed)) c.in_ok-tree.ensures.tree);
        step = limit;
        step_is = λ out. refl;
        is = refl;
      };
      passes = passes-at seen (included_with p page bindings) next s u refl
          (ap (λ (e : Expansion Output). e (progress_of s)) (bind-same (p.inner frame1 text) limit (λ out. limit (before ++ out)) (λ out. ap (λ (b : Output). limit (b ++ out)) (sym c.new-out.ensures))));
    }
