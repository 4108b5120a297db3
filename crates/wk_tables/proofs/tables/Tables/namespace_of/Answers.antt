use Rattle.std.proofs.Common.{◌≡◌, ◌∙◌, pos, eqb, get_or, to_z, of_z, w64, ap, sym, rules}
use Rattle.std.specs.Prelude.{unwrap_or, option_map}
use Rattle.wk_tables.proofs.PageLaws.{find-position}
use Rattle.wk_tables.proofs.tables.Tables.namespace_of.Goals as goal

pub returns : goal.returns
returns c =
    let seen = c.index.result.now in
    let found = find-position (λ row. eqb row.page_id c.args.id) c.args.self.now.tables.pages c.args.place seen (sym c.requires) in
    let same : to_z w64 (of_z w64 c.behind-self.inside.page_namespace) ≡ c.behind-self.inside.page_namespace = search rules in
    same ∙ ap (λ r. r.page_title.ns) c.behind-self.view_is ∙ ap (λ r. r.page_title.ns) c.index.ensures
    ∙ ap (λ h. (get_or h.tables.pages c.args.place seen).page_title.ns) c.self.view_is
    ∙ sym (ap (λ o. unwrap_or (option_map (λ row. row.page_title.ns) o) (pos 0)) found)
