use Rattle.std.proofs.Common.{ap}
use Rattle.wk_wiki_rules.specs.Names.{admitted}
use Rattle.wk_index.specs.Held.{rows_of}
use Rattle.wk_wiki_rules.specs.States.{State}
use Rattle.wk_core.proofs.RefreshFacts.{between-new, between-old, between-there, refused-rows, written-rows}
use Rattle.wk_core.proofs.refreshes.write_rows.Goals as goal

pub set_rows-requires-clause-among : goal.set_rows-requires-clause-among
set_rows-requires-clause-among g c =
    between-new c.args.live.now.state.stored c.admit.new.self.state.stored c.args.page c.args.old c.rows.result.now c.args.new c.requires.there c.rows.ensures (ap (λ (s : State). s.stored) c.in_ok-admit.ensures.state)

pub set_rows-requires-in-Err-clause-there : goal.set_rows-requires-in-Err-clause-there
set_rows-requires-in-Err-clause-there g c =
    between-there c.args.live.now.state.stored c.admit.new.self.state.stored c.args.page c.args.old c.rows.result.now c.args.new c.requires.there c.rows.ensures (ap (λ (s : State). s.stored) c.in_ok-admit.ensures.state)

pub set_rows-requires-in-Err-clause-among : goal.set_rows-requires-in-Err-clause-among
set_rows-requires-in-Err-clause-among g c =
    between-old c.args.live.now.state.stored c.admit.new.self.state.stored c.args.page c.args.old c.rows.result.now c.args.new c.requires.there c.rows.ensures (ap (λ (s : State). s.stored) c.in_ok-admit.ensures.state)

pub returns-in-Ok-clause-written : goal.returns-in-Ok-clause-written
returns-in-Ok-clause-written g c =
    written-rows c.args.live.now.state c.admit.new.self.state c.set_rows.new.self.state c.args.page (admitted (rows_of c.args.live.now.state.stored c.args.page) c.rows.result.now) c.args.new
    c.in_ok-admit.ensures.state c.set_rows.ensures.state

pub returns-in-Err-clause-refused : goal.returns-in-Err-clause-refused
returns-in-Err-clause-refused g c =
    refused-rows c.args.live.now.state c.admit.new.self.state c.set_rows-in-Err.new.self.state c.args.page (admitted (rows_of c.args.live.now.state.stored c.args.page) c.rows.result.now) c.args.old
    c.requires.there c.in_ok-admit.ensures.state c.set_rows-in-Err.ensures.state
