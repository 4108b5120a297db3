use Rattle.std.proofs.Common.{[], ap, sym, refl, ◌∙◌}
use Rattle.std.proofs.lemmas.List.{append-nil}
use Rattle.wk_tree.specs.Laid.{AllLists}
use Rattle.wk_tree.specs.Layout.{BeginsAll, SectionShown, layout_of}
use Rattle.wk_tree.proofs.LayoutLemmas.{is-laid}
use Rattle.wk_tree.proofs.layout.finish.Goals as goal

pub returns : goal.returns
returns c = λ items t.
    let layout = c.in_ok-layout.layout in
    let all : AllLists = record { items = layout.lists.items.items; parts = layout.lists.parts.items } in
    let whole : BeginsAll layout.lists all = record {
      items = record { rest = []; is = sym (append-nil layout.lists.items.items) };
      parts = record { rest = []; is = sym (append-nil layout.lists.parts.items) };
    } in
    is-laid items c.args.tokens.now (layout_of all layout) _ _ t (c.in_ok-layout.ensures all whole) (c.in_ok-list.ensures ∙ ap (λ (s : SectionShown). s.items) c.in_ok-section.ensures.section) refl
