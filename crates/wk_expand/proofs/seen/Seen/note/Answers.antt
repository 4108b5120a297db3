use Rattle.wk_expand.proofs.SeenLaws.{IsSeen-kept}
use Rattle.wk_expand.proofs.seen.Seen.note.Goals as goal

pub invariant_of-self : goal.invariant_of-self
invariant_of-self c =
    IsSeen-kept c.keep.result c.self.inside.answers.entries c.keep.new.answers.entries (record { title = c.in_ok-share.field-0; kind = c.args.kind }, c.args.answer.now)
    c.keep.ensures.ok c.keep.ensures.err c.self.invariant c.requires
