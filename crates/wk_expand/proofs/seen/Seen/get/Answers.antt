use Rattle.std.proofs.Common.{◌≡◌, ap, sym, ◌∙◌}
use Rattle.std.specs.Option.{option_map, option_copied}
use Rattle.wk_view_rules.specs.Worlds.{ask, of_seen}
use Rattle.wk_expand.specs.Answers.{answer_of}
use Rattle.wk_expand.specs.Entries.{entry_reads}
use Rattle.wk_expand.proofs.SeenLaws.{find-entries, asked-same, fits-entry}
use Rattle.wk_expand.proofs.seen.Seen.get.Goals as goal

inside_answer : (c : goal.After-drop-asked) → option_map answer_of (option_copied c.get.result) ≡ ask (of_seen (entry_reads c.self.inside.answers.entries)) c.args.title.now c.args.kind
inside_answer c =
    ap (option_map answer_of) c.get.ensures.value
    ∙ sym (find-entries c.self.inside.answers.entries _ c.args.title.now c.args.kind (λ e. rw c.in_ok-share.ensures (asked-same c.args.title.now c.args.kind e)))

pub returns-clause-answer : goal.returns-clause-answer
returns-clause-answer c =
    inside_answer c ∙ ap (λ s. ask (of_seen s) c.args.title.now c.args.kind) c.self.view_is

pub returns-clause-formed : goal.returns-clause-formed
returns-clause-formed c =
    fits-entry (entry_reads c.self.inside.answers.entries) c.args.title.now c.args.kind (option_copied c.get.result) c.self.invariant.formed (inside_answer c)
