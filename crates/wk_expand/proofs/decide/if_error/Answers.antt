use Rattle.std.proofs.Common.{◌<◌, ◌≤◌, length, sym, subst}
use Rattle.std.proofs.lemmas.Bool.{le-ltb, lt-ltb}
use Rattle.wk_expand.proofs.DecideLaws.{error-first, error-shown, error-third}
use Rattle.wk_expand.proofs.decide.if_error.Goals as goal

pub returns-then-has_error-clause-rest : goal.returns-then-has_error-clause-rest
returns-then-has_error-clause-rest c = λ inner viewed frame name parts count. error-shown inner viewed frame c.args.first parts (sym c.if-has_error.ensures)

pub returns-then-count-lt2-clause-rest : goal.returns-then-count-lt2-clause-rest
returns-then-count-lt2-clause-rest c =
    λ inner viewed frame name parts count.
    let few : length parts < 2 = subst (λ n. n < 2) (sym count) c.if-count-lt2.true in
    error-first inner viewed frame c.args.first parts (sym c.if-has_error.ensures) (lt-ltb (length parts) 2 few)

pub returns-else-count-lt2-clause-rest : goal.returns-else-count-lt2-clause-rest
returns-else-count-lt2-clause-rest c =
    λ inner viewed frame name parts count.
    let more : 2 ≤ length parts = subst (λ n. 2 ≤ n) (sym count) c.if-count-lt2.false in
    error-third inner viewed frame c.args.first parts (sym c.if-has_error.ensures) (le-ltb (length parts) 2 more)
