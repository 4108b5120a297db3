use Rattle.std.proofs.Common.{◌≡◌, ◌∙◌, ◌∷◌, [], ◌++◌, ◌+◌, ◌<◌, length, vec_len, ap, sym, subst, arith}
use Rattle.wk_page_rules.specs.Verdict.{max_pages}
use Rattle.wk_table_rules.specs.Stored.{rows_of_page}
use Rattle.wk_index.proofs.GatheredLaws.{GathersAll-push}
use Rattle.wk_index.proofs.loading.Loading.push.Goals as goal

pub invariant_of-self-2 : goal.invariant_of-self-2
invariant_of-self-2 c =
    let stored = c.self.inside.rows.items in
    let low : length stored < max_pages = subst (λ l. length l < max_pages) (sym c.self.view_is) c.requires.few in
    let long : length stored ≡ vec_len c.self.inside.rows = omega arith in (
      omega (arith, low, long, c.in_ok-push.ensures.len),
      GathersAll-push stored c.push.new.self.items (rows_of_page c.args.tables.now c.args.page) (c.len.result + 1) c.self.inside.gathered c.page_rows.new.gathered
          (c.in_ok-push.ensures.items ∙ ap (λ r. stored ++ r ∷ []) (c.in_ok-new.ensures ∙ c.in_ok-rows.ensures.rows)) (ap (λ n. n + 1) (c.len.ensures ∙ sym long)) c.self.invariant.1 c.in_ok-rows.ensures.kept c.in_ok-rows.ensures.titled c.in_ok-rows.ensures.there,
    )
