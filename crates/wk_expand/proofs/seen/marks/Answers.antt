use Rattle.std.proofs.Common.{◌∷◌, ◌++◌, map, List, append_assoc, append-nil, ap, ap₂, sym, ◌∙◌}
use Rattle.wk_expand.specs.Drafts.{with_mark}
use Rattle.wk_expand.specs.Entries.{entry_reads}
use Rattle.wk_expand.specs.declared.answer.Answer.{Answer}
use Rattle.wk_expand.specs.declared.answer.Read.{Read}
use Rattle.wk_expand.specs.declared.seen.Asked.{Asked}
use Rattle.wk_expand.proofs.seen.marks.Goals as goal

abbrev marks : List (Asked × Answer) → List Read
marks entries = map with_mark (entry_reads entries)

pub entries-init : goal.entries-init
entries-init c = ap₂ (λ xs ys. xs ++ marks ys) c.new-reads.ensures.items (c.into_iter-asked-iterator.ensures.into_iter_gives ∙ c.iter-asked-items.ensures.rest)

pub entries-preserved : goal.entries-preserved
entries-preserved c =
    ap (λ xs. xs ++ marks c.next.new.self) (c.in_ok-push.ensures.items)
    ∙ append_assoc c.entries.reads.items _ (marks c.next.new.self)
    ∙ ap₂ (λ t m. c.entries.reads.items ++ record { title = t; kind = c.in-Some.asked.now.kind; mark = m } ∷ marks c.next.new.self) c.in_ok-title.ensures c.mark.ensures
    ∙ ap (λ es. c.entries.reads.items ++ marks es) (sym c.in-Some.ensures.steps)
    ∙ c.entries.invariant

pub returns : goal.returns
returns c =
    sym (append-nil c.entries.reads.items)
    ∙ ap (λ es. c.entries.reads.items ++ marks es) (sym c.in-None.ensures.steps.0)
    ∙ c.entries.invariant
