use Rattle.std.proofs.Common.{sym, subst, arith}
use Rattle.std.specs.Option.{IsSome}
use Rattle.wk_wiki_rules.specs.Names.{AreAmong}
use Rattle.wk_index.specs.Found.{SparesAll}
use Rattle.wk_index.specs.Held.{rows_of}
use Rattle.wk_index.specs.Named.{rows_at}
use Rattle.wk_index.proofs.FindsLaws.{FindsAll-shed}
use Rattle.wk_index.proofs.index.Index.shed.Goals as goal

pub invariant_of-self : goal.invariant_of-self
invariant_of-self c = (
  omega (arith, c.self.invariant.0, c.replace_rows-old.ensures.len, c.replace_rows-old.ensures.capacity),
  omega (arith, c.self.invariant.1, c.replace_rows-old.ensures.len),
  FindsAll-shed c.self.inside.rows.items c.replace_rows-old.new.stored.items c.args.page c.args.rows c.self.inside.found c.shed.new.self c.replace_rows-old.ensures.items
      (subst (λ h. IsSome (rows_at h.stored c.args.page)) (sym c.self.view_is) c.requires.there)
      (subst (λ h. AreAmong c.args.rows (rows_of h.stored c.args.page)) (sym c.self.view_is) c.requires.among)
      c.self.invariant.2
      (subst (λ l. SparesAll (rows_of l c.args.page) c.args.page c.self.inside.found c.shed.new.self) c.deref.ensures.value c.shed.ensures),
  c.self.invariant.3,
)
