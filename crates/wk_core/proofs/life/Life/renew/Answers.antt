use Rattle.std.proofs.Common.{◌≡◌, false, List, [], None, sym, ap, ◌∙◌, subst}
use Rattle.std.specs.Prelude.{vec_capacity}
use Rattle.wk_page_rules.specs.Verdict.{MostHeld}
use Rattle.wk_wiki_rules.specs.States.{State}
use Rattle.wk_wiki_rules.specs.Lives.{reopened}
use Rattle.wk_wiki_rules.specs.Tables.{tables_of}
use Rattle.wk_wiki_laws.proofs.ChangesMade.{reopened-tables}
use Rattle.wk_wiki_rules.specs.Starts.{StartKept, kept_of}
use Rattle.wk_wiki_rules.specs.declared.Entry.{Entry}
use Rattle.wk_life_laws.specs.Lives.{Life}
use Rattle.wk_life_laws.specs.Next.{Begins, begun, new_start}
use Rattle.wk_core.specs.LifeHeld.{LifeHeld, KeepsLife}
use Rattle.wk_core.specs.LifeInside.{held, kept_with}
use Rattle.wk_core.proofs.LoadFacts.{renewed-begins, renewed-held}
use Rattle.wk_core.proofs.life.Life.renew.Goals as goal

abbrev life-with : StartKept → MostHeld → List Entry → State → Life
life-with kept limits entries state = record { kept = kept; limits = limits; whole = false; sealed = None; entries = entries; state = state }

-- what is held behind the restart is what begins there
begun-is : (start : State) (limits : MostHeld) (kept : StartKept) (entries : List Entry) (state : State) → kept ≡ kept_of start → entries ≡ [] → state ≡ reopened start
    → begun (reopened start) limits false ≡ life-with (kept_with kept) limits entries state
begun-is start limits kept entries state is none after = λ i. life-with (kept_with (sym is i)) limits (sym none i) (sym after i)

pub invariant_of-self : goal.invariant_of-self
invariant_of-self c =
    let same = begun-is c.self.inside.live.state (held c.self.inside).life.limits c.in_ok-kept.kept c.clear.new.self.items c.reopen.new.self.state c.in_ok-kept.ensures c.clear.ensures.items c.reopen.ensures.state in
    subst (λ (l : Life). KeepsLife (record { life = l; room = c.reopen.new.self.room; spare = 0 }) (vec_capacity c.clear.new.self)) same
    (renewed-held (held c.self.inside) (vec_capacity c.self.inside.entries) c.reopen.new.self.room (vec_capacity c.clear.new.self) c.self.invariant)

pub returns-clause-renewed : goal.returns-clause-renewed
returns-clause-renewed c =
    let same = begun-is c.self.inside.live.state (held c.self.inside).life.limits c.in_ok-kept.kept c.clear.new.self.items c.reopen.new.self.state c.in_ok-kept.ensures c.clear.ensures.items c.reopen.ensures.state in
    let begins = renewed-begins (held c.self.inside) (vec_capacity c.self.inside.entries) c.self.invariant in
    subst (λ (h : LifeHeld). Begins (life-with (kept_with c.in_ok-kept.kept) (held c.self.inside).life.limits c.clear.new.self.items c.reopen.new.self.state) (new_start (reopened h.life.state) h.life.limits h.life.whole)) c.self.view_is
    (subst (λ (l : Life). Begins l (new_start (reopened c.self.inside.live.state) (held c.self.inside).life.limits false)) same begins)

pub returns-clause-tables : goal.returns-clause-tables
returns-clause-tables c = ap tables_of c.reopen.ensures.state ∙ (reopened-tables c.self.inside.live.state ∙ ap (λ (h : LifeHeld). tables_of h.life.state) c.self.view_is)
