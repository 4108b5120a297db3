use Rattle.std.proofs.Common.{◌≡◌, ◌∙◌, ◌||◌, not, ap, to_z, of_z, w64, rules}
use Rattle.wk_text_rules.specs.Titles.{title_eq}
use Rattle.wk_good_rows.specs.Among.{is_among}
use Rattle.wk_good_rows.proofs.Sets.{added-is, contains-is}
use Rattle.wk_good_rows.proofs.titles.TitleSet.add.Goals as goal

pub returns-clause-new : goal.returns-clause-new
returns-clause-new c =
    let same : to_z w64 (of_z w64 c.args.ns) ≡ c.args.ns = search rules in
    c.in_ok-insert.ensures.added
    ∙ ap not (contains-is c.self.inside.titles.keys (record { ns = to_z w64 (of_z w64 c.args.ns); key = c.in_ok-key.key })
    ∙ ap (λ n. is_among (record { ns = n; key = c.in_ok-key.key }) c.self.inside.titles.keys) same
    ∙ ap (λ k. is_among (record { ns = c.args.ns; key = k }) c.self.inside.titles.keys) c.in_ok-key.ensures
    ∙ ap (is_among (record { ns = c.args.ns; key = c.args.key.now })) c.self.view_is)

pub returns-clause-titles : goal.returns-clause-titles
returns-clause-titles c = λ other.
    let same : to_z w64 (of_z w64 c.args.ns) ≡ c.args.ns = search rules in
    added-is c.self.inside.titles.keys c.insert.new.self.keys (record { ns = to_z w64 (of_z w64 c.args.ns); key = c.in_ok-key.key }) (λ q. c.in_ok-insert.ensures.updates.0 q) other
    ∙ ap (λ n. title_eq (record { ns = n; key = c.in_ok-key.key }) other || is_among other c.self.inside.titles.keys) same
    ∙ ap (λ k. title_eq (record { ns = c.args.ns; key = k }) other || is_among other c.self.inside.titles.keys) c.in_ok-key.ensures
    ∙ ap (λ l. title_eq (record { ns = c.args.ns; key = c.args.key.now }) other || is_among other l) c.self.view_is
