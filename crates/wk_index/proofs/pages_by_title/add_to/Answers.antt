use Rattle.std.proofs.Common.{Bor, ◌≡◌, ◌∙◌, ap, map, subst}
use Rattle.std.specs.Map.{values_of}
use Rattle.std.proofs.lemmas.Map.Iter.{iter_end}
use Rattle.wk_index.specs.Named.{is_in}
use Rattle.wk_index.specs.declared.pages_by_title.TitlePages.{TitlePages}
use Rattle.wk_index.proofs.GatheredLaws.{AddsGathered-all, AddsKnown, AddsKnown-step}
use Rattle.wk_index.proofs.pages_by_title.add_to.Goals as goal

pub loop-known-preserved : goal.loop-known-preserved
loop-known-preserved c = (
  AddsKnown-step (λ (k : Bor TitlePages). k.now) c.loop-known.yielded c.in-Some.known c.loop-known.named c.add_pages.new.named c.in_ok-add_pages.ensures.kept c.loop-known.invariant.0
      (λ page there. c.in_ok-add_pages.ensures.there page (ap (is_in page) c.deref.ensures.value ∙ there)),
  λ title page before. c.in_ok-add_pages.ensures.kept title page (c.loop-known.invariant.1 title page before),
)

pub returns-clause-there : goal.returns-clause-there
returns-clause-there c =
    let all : map (λ (k : Bor TitlePages). k.now) c.loop-known.yielded ≡ values_of c.args.gathered.now.entries =
    (iter_end (λ (k : Bor TitlePages). k.now) (values_of c.args.gathered.now.entries) c.loop-known.yielded _ _ _ _
    (c.into_iter-known-iterator.ensures.into_iter_gives ∙ c.values-known-items.ensures.rest) c.loop-known.yielded_by c.in-None.is c.next.ensures.steps).0 in
    AddsGathered-all c.args.gathered.now c.loop-known.named c.requires (subst (λ l. AddsKnown l c.loop-known.named) all c.loop-known.invariant.0)
