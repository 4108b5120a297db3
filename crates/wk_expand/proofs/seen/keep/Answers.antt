use Rattle.std.proofs.Common.{rules, ◌≡◌, ◌∙◌, ap, subst, Some, None}
use Rattle.std.specs.Prelude.{IsSome}
use Rattle.indexmap.specs.Entry.{MatchEntry, entry_key, map_with_value}
use Rattle.indexmap.specs.IndexMap.{get, get_key, insert_entry}
use Rattle.wk_expand.specs.Answers.{answer_of}
use Rattle.wk_expand.proofs.SeenLaws.{asked_eq, asked-same, reads-there, reads-new}
use Rattle.wk_expand.proofs.seen.keep.Goals as goal

pub returns-in-Occupied-clause-ok : goal.returns-in-Occupied-clause-ok
returns-in-Occupied-clause-ok c =
    reads-there asked_eq c.args.answers.now c.args.asked c.args.answer.now _ (asked-same c.args.asked.title c.args.asked.kind)
    (subst (λ e. MatchEntry e (IsSome (get asked_eq c.args.answers.now c.args.asked) × (get_key asked_eq c.args.answers.now c.args.asked ≡ Some (entry_key e))) (get asked_eq c.args.answers.now c.args.asked ≡ None)) c.in-Occupied.is c.in_ok-answers.ensures.found)
    (search rules)

pub returns-in-Ok-clause-ok : goal.returns-in-Ok-clause-ok
returns-in-Ok-clause-ok c =
    reads-new asked_eq c.args.answers.now c.args.asked c.args.answer.now c.insert.result.now _ _ (asked-same c.args.asked.title c.args.asked.kind)
    (subst (λ e. MatchEntry e (IsSome (get asked_eq c.args.answers.now c.args.asked) × (get_key asked_eq c.args.answers.now c.args.asked ≡ Some (entry_key e))) (get asked_eq c.args.answers.now c.args.asked ≡ None)) c.in-Vacant.is c.in_ok-answers.ensures.found)
    (ap answer_of c.insert.ensures.value ∙ c.in-Ok.ensures)
    (subst (λ e. (map_with_value e c.insert.result.now).entries ≡ insert_entry asked_eq c.args.answers.now.entries c.args.asked c.insert.result.now) c.in-Vacant.is (c.in_ok-answers.ensures.update.1 c.insert.result.now))
    (search rules)
