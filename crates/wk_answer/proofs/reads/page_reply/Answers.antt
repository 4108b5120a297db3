use Rattle.std.proofs.Common.{◌∙◌, ap}
use Rattle.serde_json.specs.View.{view}
use Rattle.wk_text_rules.specs.Marked.{text_of}
use Rattle.wk_answer.proofs.ReadFacts.{missing-told, page-told}
use Rattle.wk_answer.proofs.reads.page_reply.Goals as goal

pub returns-then-revision-eq0 : goal.returns-then-revision-eq0
returns-then-revision-eq0 c state formed end number =
    missing-told view state c.args.read.now.draft c.draft-draft.result.now c.mark_first-revision.result c.args.read.now.point c.missing_title.result formed end c.draft-draft.ensures c.mark_first-revision.ensures
    c.if-revision-eq0.true c.missing_title.ensures

pub returns : goal.returns
returns c state formed end number =
    page-told view state c.args.read.now.draft c.draft-draft.result.now c.page.result.now c.args.read.now.id c.mark_first-revision.result c.args.read.now.point c.text.result.now c.in_ok-rows.rows c.parsed.result formed c.requires
    end number c.draft-draft.ensures c.page.ensures.value c.mark_first-revision.ensures c.if-revision-eq0.false (c.text.ensures ∙ ap text_of c.out.ensures) c.in_ok-rows.ensures.worlds c.parsed.ensures
