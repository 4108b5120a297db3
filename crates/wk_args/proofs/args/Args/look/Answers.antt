use Rattle.std.proofs.Common.{sym, ap, ◌∙◌}
use Rattle.wk_args.specs.Args.{bound}
use Rattle.wk_args.proofs.Bindings.{bound-from_entries}
use Rattle.wk_args.proofs.args.Args.look.Goals as goal

pub returns : goal.returns
returns g c =
    c.get.ensures.value ∙ sym (bound-from_entries c.self.inside.values c.args.name.now) ∙ ap (λ args. bound args c.args.name.now) c.self.view_is
