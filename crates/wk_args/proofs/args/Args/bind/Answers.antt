use Rattle.std.proofs.Common.{ap, ◌∙◌}
use Rattle.std.specs.FinMap as map
use Rattle.std.specs.String.{string_bytes}
use Rattle.wk_args.specs.Entries.{by_bytes}
use Rattle.wk_args.proofs.Bindings.{from_entries-updates}
use Rattle.wk_args.proofs.args.Args.bind.Goals as goal

pub returns-in-Ok-insert-clause-ok : goal.returns-in-Ok-insert-clause-ok
returns-in-Ok-insert-clause-ok g c =
    from_entries-updates c.self.inside.values c.insert.new.self (string_bytes c.in-Ok.key) c.args.value c.in-Ok-insert.ensures.updates
    ∙ ap (λ name. map.insert (map.from_entries (by_bytes c.self.inside.values.entries)) name c.args.value) c.in-Ok.ensures.ok
    ∙ ap (λ m. map.insert m c.args.name.now c.args.value) c.self.view_is
