use Rattle.std.proofs.Common.{◌≡◌, ℕ, ◌+◌, ◌≤◌, ◌^◌, ap, ◌∙◌, sym, subst, take, arith, ◌++◌, ◌∷◌, [], List}
use Rattle.std.proofs.lemmas.List.{take_more}
use Rattle.std.proofs.lemmas.List.Sums.{fold-append}
use Rattle.wk_text_rules.specs.Titles.{PageTitle}
use Rattle.wk_report_laws.specs.Tally.{tallied, tallied_all}
use Rattle.wk_report_lines.proofs.Counts.{count_in, tallied-near}
use Rattle.wk_report_lines.proofs.tally.count_titles.Goals as goal

-- one title more
counted-more : (titles : List PageTitle) (i : ℕ) (item : PageTitle) (first before after : List (PageTitle × ℕ)) → take (i + 1) titles ≡ take i titles ++ item ∷ []
    → before ≡ tallied_all first (take i titles) → after ≡ tallied before item → after ≡ tallied_all first (take (i + 1) titles)
counted-more titles i item first before after more counted now =
    now ∙ (ap (λ es. tallied es item) counted ∙ (sym (fold-append tallied first (take i titles) (item ∷ [])) ∙ ap (tallied_all first) (sym more)))

still-small : (before after : List (PageTitle × ℕ)) (item title : PageTitle) (i : ℕ) → after ≡ tallied before item → count_in before title ≤ 2 ^ 32 + i → count_in after title ≤ 2 ^ 32 + (i + 1)
still-small before after item title i now small =
    let near = tallied-near before item title in
    let more : count_in (tallied before item) title ≤ 2 ^ 32 + (i + 1) = omega (arith, near, small) in
    subst (λ es. count_in es title ≤ 2 ^ 32 + (i + 1)) (sym now) more

pub titles-preserved : goal.titles-preserved
titles-preserved c =
    let titles = c.args.titles.now in
    let i = c.titles.title-index in
    let item = c.title-item.result in
    record {
      counted =
          counted-more titles i item c.args.tally.now.entries c.titles.tally.entries c.count_title.new.tally.entries
          (take_more titles i item c.titles-test.true ∙ ap (λ t. take i titles ++ t ∷ []) (sym c.title-item.is)) c.titles.invariant.counted c.in_ok-count_title.ensures;
      small = λ title. still-small c.titles.tally.entries c.count_title.new.tally.entries item title i c.in_ok-count_title.ensures (c.titles.invariant.small title);
    }
