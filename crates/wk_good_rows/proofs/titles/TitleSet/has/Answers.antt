use Rattle.std.proofs.Common.{◌≡◌, ◌∙◌, ap, to_z, of_z, w64, rules}
use Rattle.wk_good_rows.specs.Among.{is_among}
use Rattle.wk_good_rows.proofs.Sets.{contains-is}
use Rattle.wk_good_rows.proofs.titles.TitleSet.has.Goals as goal

pub returns : goal.returns
returns c =
    let same : to_z w64 (of_z w64 c.args.ns) ≡ c.args.ns = search rules in
    c.contains.ensures
    ∙ contains-is c.self.inside.titles.keys (record { ns = to_z w64 (of_z w64 c.args.ns); key = c.in_ok-key.key })
    ∙ ap (λ n. is_among (record { ns = n; key = c.in_ok-key.key }) c.self.inside.titles.keys) same
    ∙ ap (λ k. is_among (record { ns = c.args.ns; key = k }) c.self.inside.titles.keys) c.in_ok-key.ensures
    ∙ ap (is_among (record { ns = c.args.ns; key = c.args.key.now })) c.self.view_is
