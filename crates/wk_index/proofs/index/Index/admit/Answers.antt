use Rattle.std.proofs.Common.{◌∙◌, ap, sym, subst, arith}
use Rattle.std.specs.Option.{IsSome}
use Rattle.wk_wiki_rules.specs.Names.{admitted, with_rows_at}
use Rattle.wk_index.specs.Held.{rows_of}
use Rattle.wk_index.specs.Named.{rows_at}
use Rattle.wk_index.proofs.FindsLaws.{FindsAll-admitted, FindsAll-kept}
use Rattle.wk_index.proofs.index.Index.admit.Goals as goal

pub invariant_of-self : goal.invariant_of-self
invariant_of-self c = (
  omega (arith, c.self.invariant.0),
  omega (arith, c.self.invariant.1),
  FindsAll-kept c.self.inside.rows.items c.self.inside.found c.add.new.self c.self.invariant.2 c.add.ensures.kept,
  c.self.invariant.3,
)

pub invariant_of-self-2 : goal.invariant_of-self-2
invariant_of-self-2 c = (
  omega (arith, c.self.invariant.0, c.replace_rows.ensures.len, c.replace_rows.ensures.capacity),
  omega (arith, c.self.invariant.1, c.replace_rows.ensures.len),
  FindsAll-admitted c.self.inside.rows.items c.replace_rows.new.stored.items c.args.page c.args.rows.now c.self.inside.found c.add.new.self
      (c.replace_rows.ensures.items
      ∙ ap (with_rows_at c.self.inside.rows.items c.args.page) (c.in_ok-joined.ensures ∙ c.in_ok-joined_at.ensures ∙ ap (λ l. admitted (rows_of l c.args.page) c.args.rows.now) c.deref.ensures.value))
      (subst (λ h. IsSome (rows_at h.stored c.args.page)) (sym c.self.view_is) c.requires)
      c.self.invariant.2 c.in_ok-add.ensures.kept c.in_ok-add.ensures.there,
  c.self.invariant.3,
)

pub returns-clause-stored : goal.returns-clause-stored
returns-clause-stored c =
    c.replace_rows.ensures.items
    ∙ ap (with_rows_at c.self.inside.rows.items c.args.page) (c.in_ok-joined.ensures ∙ c.in_ok-joined_at.ensures ∙ ap (λ l. admitted (rows_of l c.args.page) c.args.rows.now) c.deref.ensures.value)
    ∙ ap (λ h. with_rows_at h.stored c.args.page (admitted (rows_of h.stored c.args.page) c.args.rows.now)) c.self.view_is
