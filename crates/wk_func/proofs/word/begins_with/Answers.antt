use Rattle.std.proofs.Common.{length, take, ◌∙◌}
use Rattle.wk_func.proofs.WordLaws.{same_letters}
use Rattle.wk_func.proofs.word.begins_with.Goals as goal

pub returns-then-word-text : goal.returns-then-word-text
returns-then-word-text c =
    let word = c.args.word.now in
    c.is_same_but_case.ensures ∙ same_letters word (take (length word) c.args.text.now)
