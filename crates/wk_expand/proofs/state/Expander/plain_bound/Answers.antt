use Rattle.std.proofs.Common.{◌≡◌, sym, subst, ◌∙◌}
use Rattle.wk_tree.specs.Parsed.{ParsedText}
use Rattle.wk_tree.specs.Tokens.{is_argument}
use Rattle.wk_view_rules.specs.Frames.{bound}
use Rattle.wk_expand.specs.Items.{IsPlainName}
use Rattle.wk_frames.specs.Levels.{look_in}
use Rattle.wk_expand.specs.Stack.{IsBoundTitle, IsHere, Place, parts_at, text_at}
use Rattle.wk_expand.specs.State.{caller_tree}
use Rattle.wk_frames.specs.declared.levels.Bound.{Bound}
use Rattle.wk_expand.proofs.ArgumentLaws.{binding-some}
use Rattle.wk_frames.proofs.FrameLaws.{bound-shown}
use Rattle.wk_expand.proofs.LeadLaws.{frame-here, text-here}
use Rattle.wk_expand.proofs.NodeLaws.{kind-is}
use Rattle.wk_expand.proofs.PlainLaws.{some-each, title-plain}
use Rattle.wk_expand.proofs.state.Expander.plain_bound.Goals as goal

pub returns-clause-bound : goal.returns-clause-bound
returns-clause-bound c =
    let s = c.args.self.now in
    let name = c.in_ok-name.name.now in
    some-each c.look_text.result (λ (v : Bound). (p : Place) → IsHere s c.args.node p → IsBoundTitle p c.args.title (caller_tree s) v) (λ v e p h.
    let is_argument_is : c.argument.result ≡ is_argument p.node.kind = kind-is c.tree.result.now (text_at p) c.args.node c.argument.result is_argument p.node (c.tree.ensures ∙ text-here s c.args.node p h) c.argument.ensures h.is.there in
    let b = binding-some (caller_tree s) (look_in s.levels.included name) (bound p.frame name) v (sym c.look_text.ensures.bound ∙ e) (bound-shown s.levels.root s.levels.included p.frame name (frame-here s c.args.node p h).shows) in
    let plain = subst (λ (parsed : ParsedText). IsPlainName parsed c.args.title name) (text-here s c.args.node p h) c.in_ok-name.ensures in
    record {
      binding = b.0;
      is_binding = b.2;
      gives = λ frame items there. title-plain p.inner p.viewed p.frame h.is.plainly (text_at p) c.args.title name p.node.kind (parts_at p) b.0 plain (sym is_argument_is ∙ c.if-not-argument.false) b.1 frame items there;
    })
