use Rattle.sqlite.specs.Held.{state}
use Rattle.wk_sqlkeeper.specs.Queries.{redirects_text}
use Rattle.wk_sqlkeeper.specs.Stored.{IsRedirect}
use Rattle.wk_sqlkeeper.proofs.KeptReads.{all_keep, if_plain, on_plain, plain_there, reads_redirects}
use Rattle.wk_sqlkeeper.proofs.Rests.{kept_at_err}
use Rattle.wk_sqlkeeper.proofs.QueryMeanings.{lists_redirects}
use Rattle.wk_sqlkeeper.proofs.loading.read_redirects.Goals as goal

pub returns-clause-read : goal.returns-clause-read
returns-clause-read g c clean =
    let old = state g.S.Store c.args.connection.now in
    let new = state g.S.Store c.read_all.new.connection in
    if_plain c.read_all.result (λ plain. c.read_all.ensures.all plain clean) (λ rows get tables keeps range. reads_redirects old new rows.items (get (plain_there redirects_text old tables lists_redirects.plain keeps)) tables keeps)

pub returns-clause-kept : goal.returns-clause-kept
returns-clause-kept g c clean =
    let old = state g.S.Store c.args.connection.now in
    let new = state g.S.Store c.read_all.new.connection in
    on_plain c.read_all.result (λ plain. c.read_all.ensures.all plain clean) (λ rows get tables keeps. all_keep IsRedirect redirects_text old new rows.items tables lists_redirects.plain keeps get)

pub returns-clause-stays : goal.returns-clause-stays
returns-clause-stays g c clean is_open =
    let old = state g.S.Store c.args.connection.now in
    let new = state g.S.Store c.read_all.new.connection in
    kept_at_err redirects_text old new c.read_all.result lists_redirects.plain is_open (λ plain. c.read_all.ensures.refused plain clean)
