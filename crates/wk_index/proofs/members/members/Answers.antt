use Rattle.std.proofs.Common.{◌≡◌, ◌∙◌, false, not, ◌&&◌, ap, sym, subst, rules, arith}
use Rattle.std.specs.Prelude.{flat_map}
use Rattle.std.specs.List.{filter}
use Rattle.std.specs.Ordering.{is_le}
use Rattle.wk_wiki_rules.specs.Members.{members_behind}
use Rattle.wk_index.specs.Entries.{entry_cmp}
use Rattle.wk_index.specs.Listing.{members_from, page_members}
use Rattle.wk_index.proofs.MembersLaws.{IsRun, from_first, listing-ends, listing-full, listing-goes_on, listing-other, listing-starts, own_entries, run-of}
use Rattle.wk_index.proofs.members.members.Goals as goal

pub loop-entry-init : goal.loop-entry-init
loop-entry-init c =
    let category = c.args.category.now in
    let stored = c.args.stored.now in
    let keys = c.args.entries.now.keys in
    let between : c.range-entry-items.result ≡ filter (λ e. is_le (entry_cmp c.in_ok-start.start e) && not false) keys = search rules in
    let is : c.into_iter-entry-iterator.result ≡ filter (from_first category) keys =
    c.into_iter-entry-iterator.ensures.into_iter_gives ∙ between ∙ ap (λ s. filter (λ e. is_le (entry_cmp s e) && not false) keys) c.in_ok-start.ensures in (
      subst (λ l. members_from c.args.most c.new-listed.result.items c.args.passed (flat_map (page_members stored) (own_entries category l)) ≡ members_behind stored category c.args.passed c.args.most) (sym is)
          (ap (λ l. members_from c.args.most l c.args.passed (flat_map (page_members stored) (own_entries category (filter (from_first category) keys)))) c.new-listed.ensures.items
          ∙ listing-starts category stored keys c.args.passed c.args.most c.range-entry-items.ensures.ordered c.requires),
      subst (IsRun category) (sym is) (run-of category keys c.range-entry-items.ensures.ordered),
    )

pub loop-entry-preserved : goal.loop-entry-preserved
loop-entry-preserved c =
    let category = c.args.category.now in (
      listing-goes_on category c.args.stored.now c.in-Some.entry.now c.next.new.self c.loop-entry.entry-iterator c.args.most c.loop-entry.listed.items c.push_entry.new.listed.items
          (members_behind c.args.stored.now category c.args.passed c.args.most) c.in_ok-left.left c.loop-entry.left
          c.in-Some.ensures.steps (sym c.is_of.ensures ∙ c.if-not-is_of.false) c.in_ok-left.ensures c.loop-entry.invariant.0,
      (subst (IsRun category) c.in-Some.ensures.steps c.loop-entry.invariant.1).1,
    )

pub returns-then-not-is_of : goal.returns-then-not-is_of
returns-then-not-is_of c =
    listing-other c.args.category.now c.args.stored.now c.in-Some.entry.now c.next.new.self c.loop-entry.entry-iterator c.args.most c.loop-entry.listed.items
    (members_behind c.args.stored.now c.args.category.now c.args.passed c.args.most) c.loop-entry.left
    c.in-Some.ensures.steps (sym c.is_of.ensures ∙ c.if-not-is_of.true) c.loop-entry.invariant.1 c.loop-entry.invariant.0

pub returns-then-most-len : goal.returns-then-most-len
returns-then-most-len c =
    listing-full c.args.most c.loop-entry.listed.items (flat_map (page_members c.args.stored.now) (own_entries c.args.category.now c.loop-entry.entry-iterator))
    (members_behind c.args.stored.now c.args.category.now c.args.passed c.args.most) c.loop-entry.left (omega arith) c.loop-entry.invariant.0

pub returns : goal.returns
returns c =
    listing-ends c.args.category.now c.args.stored.now c.loop-entry.entry-iterator c.args.most c.loop-entry.listed.items
    (members_behind c.args.stored.now c.args.category.now c.args.passed c.args.most) c.loop-entry.left
    (ap (own_entries c.args.category.now) c.in-None.ensures.steps.0) c.loop-entry.invariant.0
