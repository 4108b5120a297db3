use Rattle.std.proofs.Common.{List, ℕ, subst}
use Rattle.httparse.specs.Grammar.{NeverHasRequest}
use Rattle.wk_wire_rules.specs.Messages.{EndsWithinTarget}
use Rattle.wk_http.proofs.FrontLemmas.{bad_in_window}
use Rattle.wk_http.proofs.front.at_error.Goals as goal

pub returns-else-is_about_room : goal.returns-else-is_about_room
returns-else-is_about_room c =
    let fails = c.if-is_about_room.false in
    bad_in_window c.args.bytes.now
    (subst NeverHasRequest c.requires.window (c.requires.invalid (λ same. let holds = c.is_about_room.ensures.1 same in absurd (cc))))
    (subst (λ (t : List ℕ). ¬ (EndsWithinTarget t)) c.requires.window c.requires.target)
