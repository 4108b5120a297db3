-- Drafts by answers of the present world.
use Rattle.std.proofs.Common.{◌≡◌, ℕ, List, [], ◌∷◌, ◌++◌, Option, Some, None, refl, sym, ap, subst, ◌∙◌}
use Rattle.std.proofs.lemmas.List.Elements.{All-push}
use Rattle.wk_text_rules.specs.Titles.{PageTitle}
use Rattle.wk_view_rules.specs.Worlds.{Agrees, Answer, Read, Seen, World, answer_in, ask, of_seen, of_world}
use Rattle.wk_view_rules.specs.declared.Kind.{Kind}
use Rattle.wk_wiki_rules.specs.Passes.{drafted_in}
use Rattle.wk_expand.specs.Answers.{read_with}
use Rattle.wk_expand.specs.Drafts.{DraftShown, IsDraft, drafted}
use Rattle.wk_expand.proofs.StepLaws.{agrees-seen}
use Rattle.wk_live.specs.Drafted.{IsPresent}

-- with one answer of the world more, all are
pub one-more : (w : World) (seen next : Seen) (title kept : PageTitle) (kind : Kind) (answer : Answer) → kept ≡ title → answer ≡ answer_in w title kind → next ≡ seen ++ read_with kept kind answer ∷ []
    → Agrees (of_world w) seen → Agrees (of_world w) next
one-more w seen next title kept kind answer same is longer h =
    let here : answer ≡ answer_in w kept kind = is ∙ ap (λ t. answer_in w t kind) (sym same) in
    subst (Agrees (of_world w)) (sym longer)
    (All-push (λ (r : Read). ask (of_world w) r.title r.kind ≡ Some r.answer) seen (read_with kept kind answer) h (ap Some (sym here)))

drafted_in-is : (w : World) (page : PageTitle) (given : Option (List ℕ)) → drafted_in w page given ≡ drafted (of_world w) page given
drafted_in-is w page None = refl
drafted_in-is w page (Some text) = refl

-- a draft by what the world answered is a draft of the world
pub present : (w : World) (seen : Seen) (page : PageTitle) (given : Option (List ℕ)) (d : DraftShown) → Agrees (of_world w) seen → Agrees (of_seen seen) d.reads
    → d.page ≡ page → d.given ≡ given → IsDraft d.page d.given d.expanded d.reads → IsPresent w page given d
present w seen page given d answers read of_page of_given is =
    let there = agrees-seen (of_world w) seen d.reads answers read in
    let here : IsDraft page given d.expanded d.reads = subst (λ t. IsDraft page t d.expanded d.reads) of_given (subst (λ p. IsDraft p d.given d.expanded d.reads) of_page is) in
    record {
      page_is = of_page;
      given_is = of_given;
      drafted = drafted_in-is w page given ∙ here.everywhere (of_world w) there;
      answered = there;
    }
