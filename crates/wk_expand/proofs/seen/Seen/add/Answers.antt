use Rattle.std.proofs.Common.{◌≡◌, [], ◌∷◌, ◌++◌, None, ap, sym, subst, ◌∙◌}
use Rattle.wk_view_rules.specs.Worlds.{ask, of_seen, IsSeen}
use Rattle.wk_expand.specs.Answers.{answer_of, read_with}
use Rattle.wk_expand.specs.Entries.{entry_reads}
use Rattle.wk_expand.proofs.SeenLaws.{asked-same, reads-insert, IsSeen-push}
use Rattle.wk_expand.proofs.seen.Seen.add.Goals as goal

inside_absent : (c : goal.Joined-branch-2) → ask (of_seen (entry_reads c.self.inside.answers.entries)) c.args.title c.args.kind ≡ None
inside_absent c = ap (λ s. ask (of_seen s) c.args.title c.args.kind) c.self.view_is ∙ c.requires.absent

inside_added : (c : goal.Joined-branch-2) → entry_reads c.insert.new.self.entries ≡ entry_reads c.self.inside.answers.entries ++ read_with c.args.title c.args.kind (answer_of c.args.answer) ∷ []
inside_added c =
    ap entry_reads (c.in_ok-insert.ensures.entries)
    ∙ reads-insert _ c.self.inside.answers (record { title = c.args.title; kind = c.args.kind }) c.args.answer (asked-same c.args.title c.args.kind) (inside_absent c)

pub invariant_of-self-2 : goal.invariant_of-self-2
invariant_of-self-2 c =
    subst (λ s. IsSeen s) (sym (inside_added c))
    (IsSeen-push (entry_reads c.self.inside.answers.entries) (read_with c.args.title c.args.kind (answer_of c.args.answer)) c.self.invariant (inside_absent c) c.requires.formed)

pub returns-clause-ok : goal.returns-clause-ok
returns-clause-ok c =
    inside_added c ∙ ap (λ s. s ++ read_with c.args.title c.args.kind (answer_of c.args.answer) ∷ []) c.self.view_is
