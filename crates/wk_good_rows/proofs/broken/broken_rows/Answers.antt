use Rattle.std.proofs.Common.{◌∙◌, ap, sym}
use Rattle.wk_table_rules.specs.GoodStore.{first_bad, has_good_id, has_good_title}
use Rattle.wk_good_rows.proofs.Rules.{breaks-first, breaks-second, breaks-third, breaks-fourth, breaks-fifth, breaks-sixth, breaks-seventh, breaks-none, of-pages}
use Rattle.wk_good_rows.proofs.broken.broken_rows.Goals as goal

pub returns-in-Some : goal.returns-in-Some
returns-in-Some c =
    breaks-first c.args.tables.now c.in-Some.row (c.in-Some.ensures ∙ ap (first_bad has_good_id) (c.deref.ensures.value ∙ ap (λ t. t.pages) c.tables.view_is))

pub returns-in-Some-2 : goal.returns-in-Some-2
returns-in-Some-2 c =
    breaks-second c.args.tables.now c.in-Some-2.row (sym c.in-Some-2.is ∙ c.in_ok-row.ensures.bad ∙ ap (first_bad has_good_title) (c.deref-2.ensures.value ∙ ap (λ t. t.pages) c.tables.view_is))
    (c.in_default.ensures ∙ ap (first_bad has_good_id) (c.deref.ensures.value ∙ ap (λ t. t.pages) c.tables.view_is))

pub returns-in-Some-bad_revision : goal.returns-in-Some-bad_revision
returns-in-Some-bad_revision c =
    breaks-third c.args.tables.now c.in-Some-bad_revision.row c.in-Some-bad_revision.ensures
    (c.in_default.ensures ∙ ap (first_bad has_good_id) (c.deref.ensures.value ∙ ap (λ t. t.pages) c.tables.view_is))
    (sym c.in_default-2.is ∙ c.in_ok-row.ensures.bad ∙ ap (first_bad has_good_title) (c.deref-2.ensures.value ∙ ap (λ t. t.pages) c.tables.view_is))

pub returns-in-Some-3 : goal.returns-in-Some-3
returns-in-Some-3 c =
    breaks-fourth c.args.tables.now c.in-Some-3.row (sym c.in-Some-3.is ∙ c.in_ok-row-2.ensures)
    (c.in_default.ensures ∙ ap (first_bad has_good_id) (c.deref.ensures.value ∙ ap (λ t. t.pages) c.tables.view_is))
    (sym c.in_default-2.is ∙ c.in_ok-row.ensures.bad ∙ ap (first_bad has_good_title) (c.deref-2.ensures.value ∙ ap (λ t. t.pages) c.tables.view_is))
    c.in_default-bad_revision.ensures

pub returns-in-Some-4 : goal.returns-in-Some-4
returns-in-Some-4 c =
    breaks-fifth c.args.tables.now c.in-Some-4.row (sym c.in-Some-4.is ∙ c.in_ok-row-3.ensures)
    (c.in_default.ensures ∙ ap (first_bad has_good_id) (c.deref.ensures.value ∙ ap (λ t. t.pages) c.tables.view_is))
    (sym c.in_default-2.is ∙ c.in_ok-row.ensures.bad ∙ ap (first_bad has_good_title) (c.deref-2.ensures.value ∙ ap (λ t. t.pages) c.tables.view_is))
    c.in_default-bad_revision.ensures
    (sym c.in_default-3.is ∙ c.in_ok-row-2.ensures)

pub returns-in-Some-5 : goal.returns-in-Some-5
returns-in-Some-5 c =
    breaks-sixth c.args.tables.now c.in-Some-5.row (sym c.in-Some-5.is ∙ c.in_ok-row-4.ensures)
    (c.in_default.ensures ∙ ap (first_bad has_good_id) (c.deref.ensures.value ∙ ap (λ t. t.pages) c.tables.view_is))
    (sym c.in_default-2.is ∙ c.in_ok-row.ensures.bad ∙ ap (first_bad has_good_title) (c.deref-2.ensures.value ∙ ap (λ t. t.pages) c.tables.view_is))
    c.in_default-bad_revision.ensures
    (sym c.in_default-3.is ∙ c.in_ok-row-2.ensures)
    (sym c.in_default-4.is ∙ c.in_ok-row-3.ensures)

pub returns-in-Some-bad_version : goal.returns-in-Some-bad_version
returns-in-Some-bad_version c =
    breaks-seventh c.args.tables.now c.in-Some-bad_version.row c.in-Some-bad_version.ensures
    (c.in_default.ensures ∙ ap (first_bad has_good_id) (c.deref.ensures.value ∙ ap (λ t. t.pages) c.tables.view_is))
    (sym c.in_default-2.is ∙ c.in_ok-row.ensures.bad ∙ ap (first_bad has_good_title) (c.deref-2.ensures.value ∙ ap (λ t. t.pages) c.tables.view_is))
    c.in_default-bad_revision.ensures
    (sym c.in_default-3.is ∙ c.in_ok-row-2.ensures)
    (sym c.in_default-4.is ∙ c.in_ok-row-3.ensures)
    (sym c.in_default-5.is ∙ c.in_ok-row-4.ensures)

pub returns : goal.returns
returns c =
    breaks-none c.args.tables.now c.in-None.ensures
    (c.in_default.ensures ∙ ap (first_bad has_good_id) (c.deref.ensures.value ∙ ap (λ t. t.pages) c.tables.view_is))
    (sym c.in_default-2.is ∙ c.in_ok-row.ensures.bad ∙ ap (first_bad has_good_title) (c.deref-2.ensures.value ∙ ap (λ t. t.pages) c.tables.view_is))
    c.in_default-bad_revision.ensures
    (sym c.in_default-3.is ∙ c.in_ok-row-2.ensures)
    (sym c.in_default-4.is ∙ c.in_ok-row-3.ensures)
    (sym c.in_default-5.is ∙ c.in_ok-row-4.ensures)

pub bad_history-requires-clause-revisions : goal.bad_history-requires-clause-revisions
bad_history-requires-clause-revisions c =
    of-pages c.args.tables.now
    (c.in_default.ensures ∙ ap (first_bad has_good_id) (c.deref.ensures.value ∙ ap (λ t. t.pages) c.tables.view_is))
    c.in_default-bad_revision.ensures
