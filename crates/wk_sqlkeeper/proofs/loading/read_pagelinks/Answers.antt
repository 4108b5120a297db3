use Rattle.sqlite.specs.Held.{state}
use Rattle.wk_sqlkeeper.specs.Queries.{pagelinks_text}
use Rattle.wk_sqlkeeper.specs.Stored.{IsLink}
use Rattle.wk_sqlkeeper.proofs.KeptReads.{all_keep, if_plain, on_plain, plain_there, reads_pagelinks}
use Rattle.wk_sqlkeeper.proofs.Rests.{kept_at_err}
use Rattle.wk_sqlkeeper.proofs.QueryMeanings.{lists_pagelinks}
use Rattle.wk_sqlkeeper.proofs.loading.read_pagelinks.Goals as goal

pub returns-clause-read : goal.returns-clause-read
returns-clause-read g c clean =
    let old = state g.S.Store c.args.connection.now in
    let new = state g.S.Store c.read_links.new.connection in
    if_plain c.read_links.result (λ plain. c.read_links.ensures.all plain clean) (λ rows get tables keeps range. let h = get (plain_there pagelinks_text old tables lists_pagelinks.plain keeps) in reads_pagelinks old new h.read rows.items h.all h.same h.sorted tables keeps)

pub returns-clause-kept : goal.returns-clause-kept
returns-clause-kept g c clean =
    let old = state g.S.Store c.args.connection.now in
    let new = state g.S.Store c.read_links.new.connection in
    on_plain c.read_links.result (λ plain. c.read_links.ensures.all plain clean) (λ rows get tables keeps. let h = get (plain_there pagelinks_text old tables lists_pagelinks.plain keeps) in all_keep IsLink pagelinks_text old new h.read tables lists_pagelinks.plain keeps (λ plain. h.all))

pub returns-clause-stays : goal.returns-clause-stays
returns-clause-stays g c clean is_open =
    let old = state g.S.Store c.args.connection.now in
    let new = state g.S.Store c.read_links.new.connection in
    kept_at_err pagelinks_text old new c.read_links.result lists_pagelinks.plain is_open (λ plain. c.read_links.ensures.refused plain clean)
