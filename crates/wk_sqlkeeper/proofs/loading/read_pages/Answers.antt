use Rattle.sqlite.specs.Held.{state}
use Rattle.wk_sqlkeeper.specs.Queries.{pages_text}
use Rattle.wk_sqlkeeper.specs.Stored.{IsPage}
use Rattle.wk_sqlkeeper.proofs.KeptReads.{all_keep, if_plain, on_plain, plain_there, reads_pages}
use Rattle.wk_sqlkeeper.proofs.Rests.{kept_at_err}
use Rattle.wk_sqlkeeper.proofs.QueryMeanings.{lists_pages}
use Rattle.wk_sqlkeeper.proofs.loading.read_pages.Goals as goal

pub returns-clause-read : goal.returns-clause-read
returns-clause-read g c clean =
    let old = state g.S.Store c.args.connection.now in
    let new = state g.S.Store c.read_all.new.connection in
    if_plain c.read_all.result (λ plain. c.read_all.ensures.all plain clean) (λ rows get tables keeps range. reads_pages old new rows.items (get (plain_there pages_text old tables lists_pages.plain keeps)) tables keeps)

pub returns-clause-kept : goal.returns-clause-kept
returns-clause-kept g c clean =
    let old = state g.S.Store c.args.connection.now in
    let new = state g.S.Store c.read_all.new.connection in
    on_plain c.read_all.result (λ plain. c.read_all.ensures.all plain clean) (λ rows get tables keeps. all_keep IsPage pages_text old new rows.items tables lists_pages.plain keeps get)

pub returns-clause-stays : goal.returns-clause-stays
returns-clause-stays g c clean is_open =
    let old = state g.S.Store c.args.connection.now in
    let new = state g.S.Store c.read_all.new.connection in
    kept_at_err pages_text old new c.read_all.result lists_pages.plain is_open (λ plain. c.read_all.ensures.refused plain clean)
