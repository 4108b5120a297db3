use Rattle.std.proofs.Common.{◌≡◌, ◌-◌, ◌^◌, ◌≤◌, ℕ, List, true, false, get_or, cond, inl, inr, ap, subst, ◌∙◌, arith}
use Rattle.std.specs.Prelude.{nat_lt}
use Rattle.std.proofs.lemmas.Bool.{cases_lt, lt-ltb, le-ltb}
use Rattle.wk_wiki_rules.specs.Users.{users}
use Rattle.wk_page_rules.specs.PageRows.{names}
use Rattle.wk_page_rules.specs.declared.Reach.TheVariants.{Text}
use Rattle.wk_listings.proofs.Above.{same-above}
use Rattle.wk_listings.proofs.by_page.including_pages.Goals as goal

pub returns : goal.returns
unfolding users
returns c =
    let stored = c.args.index.now.stored in
    let title = c.args.title.now in
    let found = c.in_ok-pages.ensures in
    let low : get_or c.in_ok-pages.pages.items 0 0 ≤ 2 ^ 32 - 1 = subst (λ (ns : List ℕ). get_or ns 0 0 ≤ 2 ^ 32 - 1) c.deref.ensures.value c.pages_fit.ensures in
    elim (cases_lt c.args.above (2 ^ 32)) [
      | inl small ↦
          let on : nat_lt c.args.above (2 ^ 32) ≡ true = lt-ltb c.args.above (2 ^ 32) small in
          let same : c.page_above.result ≡ c.args.above = c.page_above.ensures ∙ ap (λ b. cond b c.args.above (2 ^ 32 - 1)) on in
          found ∙ ap (λ a. users stored title Text a c.args.most) same
      | inr great ↦
          let off : nat_lt c.args.above (2 ^ 32) ≡ false = le-ltb c.args.above (2 ^ 32) great in
          let same : c.page_above.result ≡ 2 ^ 32 - 1 = c.page_above.ensures ∙ ap (λ b. cond b c.args.above (2 ^ 32 - 1)) off in
          let at : c.in_ok-pages.pages.items ≡ users stored title Text (2 ^ 32 - 1) c.args.most = found ∙ ap (λ a. users stored title Text a c.args.most) same in
          at ∙ same-above (λ rows. names rows title Text) (2 ^ 32 - 1) c.args.above c.args.most stored (omega (arith, great)) (subst (λ (ns : List ℕ). get_or ns 0 0 ≤ 2 ^ 32 - 1) at low)
    ]
