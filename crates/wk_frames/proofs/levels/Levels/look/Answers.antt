use Rattle.std.proofs.Common.{drop, sym, ap, subst}
use Rattle.std.specs.Option.{option_and_then}
use Rattle.wk_view_rules.specs.Frames.{bound}
use Rattle.wk_frames.specs.Frames.{IsBindingIn}
use Rattle.wk_frames.specs.Levels.{tree_in}
use Rattle.wk_frames.proofs.FrameLaws.{bound-shown}
use Rattle.wk_frames.proofs.levels.Levels.look.Goals as goal

pub returns-clause-bound : goal.returns-clause-bound
returns-clause-bound c = λ frame is.
    let s = c.args.self.now in
    let caller = tree_in s.root (drop 1 s.included) in
    subst (λ o. IsBindingIn caller c.look_text.result o) (ap (option_and_then (bound frame)) c.in_ok-name.ensures)
    (subst (λ o. IsBindingIn caller o (bound frame c.in_ok-name.name.now)) (sym c.look_text.ensures.bound)
    (bound-shown s.root s.included frame c.in_ok-name.name.now is))
