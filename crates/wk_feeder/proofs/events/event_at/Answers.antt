use Rattle.std.proofs.Common.{◌≡◌, ◌-◌, IfOk, None, Option, Some, ap, slice_get, subst, sym, ◌∙◌}
use Rattle.wk_page_rules.specs.History.{History}
use Rattle.wk_wiki_rules.specs.Entries.{event_of_entry}
use Rattle.wk_wiki_rules.specs.Events.{Event}
use Rattle.wk_wiki_rules.specs.Steps.{fan_pages}
use Rattle.wk_wiki_rules.specs.declared.Entry.{Entry}
use Rattle.wk_life_laws.specs.Standing.{EntryStands}
use Rattle.wk_feeder.specs.Events.{event_of}
use Rattle.wk_feeder.proofs.Entries.{found-at}
use Rattle.wk_feeder.proofs.events.event_at.Goals as goal

pub unreachable-requires : goal.unreachable-requires
unreachable-requires g c =
    let wiki = c.args.wiki.now in
    let done = c.calls_make_a_journal.ensures fan_pages wiki.start.limits wiki.start.state wiki.state wiki.journal c.facts.ensures.run.calls in
    let at = found-at fan_pages wiki.start.state wiki.state wiki.journal c.args.number c.event.result done c.requires.positive c.requires.within c.event.ensures in
    let e : None ≡ Some at.entry = sym c.in_default.is ∙ at.is in
    cc

pub entry_event-requires : goal.entry_event-requires
entry_event-requires g c =
    let wiki = c.args.wiki.now in
    let done = c.calls_make_a_journal.ensures fan_pages wiki.start.limits wiki.start.state wiki.state wiki.journal c.facts.ensures.run.calls in
    let at = found-at fan_pages wiki.start.state wiki.state wiki.journal c.args.number c.event.result done c.requires.positive c.requires.within c.event.ensures in
    let found : Some at.entry ≡ Some c.in-Some.entry = sym at.is ∙ c.in-Some.is in
    let entry : at.entry ≡ c.in-Some.entry = cc in
    let history : wiki.state.history ≡ c.revs.result.now.history = sym (ap (λ r. r.history) c.revs.ensures ∙ ap (λ s. s.history) c.live.ensures) in
    subst (λ (h : History). EntryStands h c.in-Some.entry) history (subst (λ (e : Entry). EntryStands wiki.state.history e) entry at.read.stands)

pub returns : goal.returns
returns g c =
    let wiki = c.args.wiki.now in
    let done = c.calls_make_a_journal.ensures fan_pages wiki.start.limits wiki.start.state wiki.state wiki.journal c.facts.ensures.run.calls in
    let at = found-at fan_pages wiki.start.state wiki.state wiki.journal c.args.number c.event.result done c.requires.positive c.requires.within c.event.ensures in
    let found : Some at.entry ≡ Some c.in-Some.entry = sym at.is ∙ c.in-Some.is in
    let entry : at.entry ≡ c.in-Some.entry = cc in
    let history : wiki.state.history ≡ c.revs.result.now.history = sym (ap (λ r. r.history) c.revs.ensures ∙ ap (λ s. s.history) c.live.ensures) in
    let same : event_of_entry c.revs.result.now.history c.in-Some.entry ≡ slice_get wiki.journal (c.args.number - 1) =
    ap (λ (h : History). event_of_entry h c.in-Some.entry) (sym history) ∙ ap (λ (e : Entry). event_of_entry wiki.state.history e) (sym entry) ∙ at.read.is ∙ sym at.made in
    subst (λ (o : Option Event). IfOk c.entry_event.result (λ event. o ≡ Some (event_of event))) same c.entry_event.ensures
