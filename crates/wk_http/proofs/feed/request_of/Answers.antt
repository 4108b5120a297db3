use Rattle.std.proofs.Common.{refl, ap, ◌∙◌}
use Rattle.std.specs.List.{before_first, after_first}
use Rattle.wk_wire_rules.specs.Heads.{is_question_mark}
use Rattle.wk_http.proofs.RequestLemmas.{message_is}
use Rattle.wk_http.proofs.feed.request_of.Goals as goal

pub returns : goal.returns
returns c =
    message_is c.args.bytes.now c.args.head.now c.requires.accepted _ c.requires.whole refl
    (c.in_ok-from_str.ensures.ok ∙ (c.split_target.ensures.path ∙ ap (before_first is_question_mark) c.target_of.ensures))
    (c.in_ok-from_slice.ensures.items ∙ (c.as_bytes.ensures.value ∙ (c.split_target.ensures.query ∙ ap (after_first is_question_mark) c.target_of.ensures)))
    c.in_ok-from_slice-2.ensures.items refl refl
