use Rattle.std.proofs.Common.{◌≡◌, ◌∷◌, Some, None, sym, ap, ◌∙◌}
use Rattle.std.specs.Option.{option_copied_mut, option_map_or}
use Rattle.std.specs.Map.{lookup}
use Rattle.wk_text_rules.specs.Titles.{title_eq}
use Rattle.wk_cache.specs.Entries.{entry_of, marked_with, without}
use Rattle.wk_cache.specs.Keyed.{drafts}
use Rattle.wk_cache.proofs.Keys.{entry-found, marked-is, marked-keyed}
use Rattle.wk_cache.proofs.entries.mark.Goals as goal

pub returns-in-Some-clause-entries : goal.returns-in-Some-clause-entries
returns-in-Some-clause-entries c =
    let found : lookup (title_eq c.args.page.now) c.args.kept.now.entries ≡ Some c.in-Some.entry.now = sym c.get_mut.ensures.value ∙ ap option_copied_mut c.in-Some.is in
    sym (marked-is c.args.page.now c.args.point c.args.uses c.args.kept.now.entries c.in-Some.entry.now c.requires.keyed found)

pub returns-in-Some-clause-keyed : goal.returns-in-Some-clause-keyed
returns-in-Some-clause-keyed c =
    let found : lookup (title_eq c.args.page.now) c.args.kept.now.entries ≡ Some c.in-Some.entry.now = sym c.get_mut.ensures.value ∙ ap option_copied_mut c.in-Some.is in
    marked-keyed c.args.page.now c.args.point c.args.uses c.args.kept.now.entries c.in-Some.entry.now c.requires.keyed found

pub returns-in_default-clause-entries : goal.returns-in_default-clause-entries
returns-in_default-clause-entries c =
    let none : entry_of c.args.page.now (drafts c.args.kept.now.entries) ≡ None =
    entry-found c.args.page.now c.args.kept.now.entries c.requires.keyed ∙ (sym c.get_mut.ensures.value ∙ ap option_copied_mut c.in_default.is) in
    sym (ap (λ o. option_map_or (λ k. marked_with c.args.point c.args.uses k ∷ without c.args.page.now (drafts c.args.kept.now.entries)) o (drafts c.args.kept.now.entries)) none)
