use Rattle.std.proofs.Common.{refl, sym, ap, ◌∙◌}
use Rattle.wk_request_rules.specs.Requests.{asks_to_save}
use Rattle.wk_request.proofs.Asking.{save-saves, other-saves-none}
use Rattle.wk_script_runs.proofs.Answering.{timed-line, untimed-line}
use Rattle.wk_script.proofs.api.carry_out.Goals as goal

pub returns-in-Save : goal.returns-in-Save
returns-in-Save g c =
    timed-line _ _ _ _ _ _ _ _ _ _ c.now-moment.result (sym (ap asks_to_save c.in-Save.ensures) ∙ save-saves _) c.now-moment.ensures
    (c.act_at.ensures c.args.tickets.now.items c.requires.holds)

pub returns-in_default : goal.returns-in_default
returns-in_default g c =
    untimed-line _ _ _ _ _ _ _ _ _ _ (sym (ap asks_to_save c.asked.ensures) ∙ other-saves-none _ c.in_default.not-Save) refl
    (c.act_at-in_default.ensures c.args.tickets.now.items c.requires.holds)
