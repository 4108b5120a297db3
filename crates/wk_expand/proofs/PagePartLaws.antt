-- A template whose title part names a page, in one plain part of the text.
use Rattle.std.proofs.Common.{◌≡◌, ℕ, ◌==◌, List, [], ◌++◌, length, Some, false, sym, ap, ◌∙◌, pos}
use Rattle.std.specs.Option.{option_and_then}
use Rattle.wk_text_rules.specs.Marked.{all_plain, trimmed_output}
use Rattle.wk_text_rules.specs.Titles.{PageTitle, normal}
use Rattle.wk_tree.specs.Parsed.{ParsedText, list_with}
use Rattle.wk_tree.specs.Tokens.{is_argument}
use Rattle.wk_tree.specs.declared.item.ListId.{ListId}
use Rattle.wk_tree.specs.declared.item.NodeId.{NodeId}
use Rattle.wk_tree_rules.specs.Tree.{Part}
use Rattle.wk_tree_rules.specs.Trees.{Item, NodeKind}
use Rattle.wk_view_rules.specs.Expand.{inclusion, kind_output}
use Rattle.wk_view_rules.specs.Expansions.{Expansion, Output, ◌>>=◌}
use Rattle.wk_view_rules.specs.Frames.{Frame}
use Rattle.wk_view_rules.specs.Words.{word}
use Rattle.wk_view_rules.specs.declared.Word.TheVariants.{Page}
use Rattle.wk_expand.specs.Items.{IsPlainName}
use Rattle.wk_expand.specs.PageParts.{IsPageNext, IsPagePart}
use Rattle.wk_expand.specs.Stack.{IsHere, IsNext, Place, parts_at}
use Rattle.wk_expand.specs.Work.{IsGoing, place_of}
use Rattle.wk_expand.specs.declared.stack.Listing.{Listing}
use Rattle.wk_expand.specs.declared.stack.Next.TheVariants.{Expands}
use Rattle.wk_expand.specs.declared.stack.Waiting.TheVariants.{Title}
use Rattle.wk_expand.specs.declared.work.Work.{Work}
use Rattle.wk_expand.proofs.DecideLaws.{page-by, template-by}
use Rattle.wk_expand.proofs.LeadLaws.{list-here}
use Rattle.wk_expand.proofs.NodeLaws.{kind-template}
use Rattle.wk_expand.proofs.PlainLaws.{ExpandsPlainly, behind-plain, plain-text, trimmed-all-plain}
use Rattle.wk_expand.proofs.WrittenLaws.{bind-same}

module _ (inner : Frame → List Item → Expansion Output) (viewed : PageTitle) (frame : Frame) (plainly : ExpandsPlainly inner) where
  -- the page that is named
  pub page-plain : (parsed : ParsedText) (title : ListId) (name : List ℕ) (kind : NodeKind) (parts : List Part) (count : ℕ) (page : PageTitle) → IsPlainName parsed title name → is_argument kind ≡ false → length parts ≡ count → word (all_plain name) (count == 0) ≡ Page → normal name (pos 10) ≡ Some page → (place : Frame) (items : List Item) → list_with parsed title ≡ Some items → (inner place items >>= (λ out. kind_output inner viewed frame kind out parts)) ≡ inclusion inner viewed frame page parts
  page-plain parsed title name kind parts count page h template counted calls named place items there =
      let within : all_plain name ≡ trimmed_output (all_plain h.text) = ap all_plain h.is ∙ sym (trimmed-all-plain h.text) in
      behind-plain inner place parsed title h.text items (λ out. kind_output inner viewed frame kind out parts) plainly h.alone there
      ∙ kind-template inner viewed frame kind (all_plain h.text) parts template
      ∙ template-by inner viewed frame (all_plain h.text) (all_plain name) parts count Page within counted calls
      ∙ page-by inner viewed frame (all_plain h.text) (all_plain name) parts (Some page) within
      (ap (option_and_then (λ text. normal text (pos 10))) (plain-text name) ∙ named)

-- a node whose title part names a page
pub going-paged : (w : Work) (id : NodeId) (behind : Listing) (list : ListId) (page : PageTitle) (e : Expansion Output) → ((p : Place) → IsHere w.expander id p → IsPagePart p list page) → IsGoing w id behind (λ p rest. IsNext p w.expander (Expands Title list []) rest) e → IsGoing w id behind (λ p rest. IsPageNext p w.expander page rest) e
going-paged w id behind list page e paged g =
    let p : Place = place_of g.spot in
    let x = g.rest_is in
    let here : IsHere w.expander id p = record { is = g.is_place; home = x.within } in
    let k = paged p here in
    let name : Output → Expansion Output = λ out. kind_output p.inner p.viewed p.frame p.node.kind out (parts_at p) in
    record {
      spot = g.spot;
      rest = g.rest;
      rest_is = record {
        home = x.within;
        is = x.is
            ∙ bind-same (p.inner x.frame x.items) (λ later. x.step ([] ++ later)) name x.step_is
            ∙ k.gives x.frame x.items (list-here w.expander id p here list x.items x.there);
      };
      is_place = g.is_place;
      one = g.one;
      list = g.list;
      continues = g.continues;
      is = g.is;
    }
