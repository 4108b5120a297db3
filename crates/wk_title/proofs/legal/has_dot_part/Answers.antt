use Rattle.std.proofs.Common.{◌==◌, rules}
use Rattle.std.proofs.lemmas.Iterator.Search.{any_from_yields_List}
use Rattle.std.proofs.lemmas.Iterator.Splits.{YieldsList-from_slice_split}
use borrow.Author.Tests.{tests}
use Rattle.wk_title.specs.Legal.{is_dot_part}
use Rattle.wk_title.proofs.legal.has_dot_part.Goals as goal

pub returns : goal.returns
returns c =
    any_from_yields_List is_dot_part _ _ _ c.any.ensures.ran
    (YieldsList-from_slice_split _ (λ c. c == 47) c.args.cs.now c.split.ensures.rest c.split.ensures.done c.split.ensures.closure (λ x b q k. search (rules, tests)))
    (λ x b q k. search (rules, tests))
