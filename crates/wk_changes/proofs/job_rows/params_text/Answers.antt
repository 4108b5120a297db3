use Rattle.std.proofs.Common.{◌≡◌, ℕ, ◌≤◌, ◌<◌, ◌^◌, ◌∷◌, List, length, sym, subst, refl, arith, rules}
use Rattle.std.specs.Fmt.{decimal}
use Rattle.std.proofs.lemmas.Fmt.{length-decimal-le}
use Rattle.std.proofs.lemmas.List.{length-append}
use Rattle.wk_page_rules.specs.declared.Reach.{Reach}
use Rattle.wk_page_rules.specs.declared.Reach.TheVariants.{Text, Both}
use Rattle.wk_table_rules.specs.JobTable.{params_text, reach_word}
use Rattle.wk_changes.proofs.job_rows.params_text.Goals as goal

word-length : (reach : Reach) → length (reach_word reach) ≡ 4
word-length Text = refl
word-length Both = refl

short : (reach : Reach) (cursor : ℕ) → cursor < 2 ^ 32 → length (params_text (record { reach = reach; cursor = cursor })) < 2 ^ 32
short reach cursor small =
    let digits : length (decimal cursor) ≤ 10 = length-decimal-le 10 cursor (omega arith) (omega (arith, small)) (omega (arith, small)) in
    let word = word-length reach in
    let both = length-append (reach_word reach) (58 ∷ decimal cursor) in
    omega (arith, digits, word, both)

pub new-requires : goal.new-requires
new-requires c =
    let same : c.deref.result.now ≡ params_text (record { reach = c.args.reach; cursor = c.args.cursor }) = search rules in
    subst (λ (bytes : List ℕ). length bytes < 2 ^ 32) (sym same) (short c.args.reach c.args.cursor (omega (arith, c.ranges.cursor.fits)))
