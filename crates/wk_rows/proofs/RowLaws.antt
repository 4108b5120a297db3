-- The lists of a page's rows, by the links that are found and the titles that are read.
use Rattle.std.proofs.Common.{◌≡◌, ℕ, List, [], ◌∷◌, ◌++◌, map, refl, ap, sym, ◌∙◌, Option, Some, None}
use Rattle.std.specs.Prelude.{filter_map}
use Rattle.std.specs.List.{cons_option}
use Rattle.std.proofs.lemmas.List.Sums.{fold-append}
use Rattle.wk_links.specs.Found.{link_in, occurrence_in}
use Rattle.wk_links.specs.declared.found.Found.{Found}
use Rattle.wk_links.specs.declared.found.What.{What}
use Rattle.wk_links.specs.declared.found.What.TheVariants.{Page, Member, Nothing}
use Rattle.wk_text_rules.specs.Marked.{MarkedByte}
use Rattle.wk_text_rules.specs.Occurrences.{Link, page, member, nothing, occurrences}
use Rattle.wk_text_rules.specs.Titles.{PageTitle, with_spaces}
use Rattle.wk_page_rules.specs.PageRows as page_rows
use Rattle.wk_view_rules.specs.Rows as rule
use Rattle.wk_view_rules.specs.Views.{Expanded, turned}
use Rattle.wk_view_rules.specs.Worlds.{Agrees, Read, World, of_world}
use Rattle.wk_view_rules.specs.declared.Kind.{Kind}
use Rattle.wk_view_rules.specs.declared.Kind.TheVariants.{Include, Exists}
use Rattle.wk_expand.specs.Drafts.{DraftShown, IsDraft, with_mark, turned_by}
use Rattle.wk_expand.specs.declared.answer.Read.{Read as ToldRead}
use Rattle.wk_rows.specs.Told.{rows_told}
use Rattle.wk_rows.specs.Members.{membership_by, members_by, with_members}
use Rattle.wk_rows.specs.Titles.{title_asked, titles_asked, titles_linked, with_titles}

pub in_order : (titles : List PageTitle) → with_titles [] titles ≡ rule.titles_in_order titles
unfolding rule.in_title_order
in_order titles = refl

pub members_in_order : (members : List page_rows.Member) → with_members [] members ≡ rule.in_title_order (λ (m : page_rows.Member). m.category) members
unfolding rule.in_title_order
members_in_order members = refl

filter_map-map : {A B C : Type 0} (f : A → B) (h : B → Option C) (xs : List A) → filter_map (λ x. h (f x)) xs ≡ filter_map h (map f xs)
filter_map-map f h [] = refl
filter_map-map f h (x ∷ xs) = ap (cons_option (h (f x))) (filter_map-map f h xs)

-- the titles of the pages that an output links to
pub linked : (found : List Found) (out : List MarkedByte) → map occurrence_in found ≡ occurrences out → titles_linked found ≡ filter_map rule.page_linked (occurrences out)
linked found out e = filter_map-map occurrence_in rule.page_linked found ∙ ap (filter_map rule.page_linked) e

-- titles that are put behind others
pub put_behind : (first second : List PageTitle) → with_titles (with_titles [] first) second ≡ rule.titles_in_order (first ++ second)
put_behind first second = sym (fold-append _ [] first second) ∙ in_order (first ++ second)

abbrev membership_in : PageTitle → Link → Option page_rows.Member
membership_in of_page link = elim link [
  | page title ↦ None
  | member category prefix ↦ Some (record { category = category; sortkey = rule.sortkey_of of_page prefix; prefix = prefix })
  | nothing ↦ None
]

same_membership : (of_page : PageTitle) (what : What) → membership_by (with_spaces of_page.key) what ≡ membership_in of_page (link_in what)
same_membership of_page (Page title) = refl
same_membership of_page (Member category prefix) = refl
same_membership of_page Nothing = refl

same_members : (of_page : PageTitle) (found : List Found) → members_by (with_spaces of_page.key) found ≡ filter_map (rule.membership of_page) (map occurrence_in found)
same_members of_page [] = refl
same_members of_page (link ∷ found) =
    ap (λ o. cons_option o (members_by (with_spaces of_page.key) found)) (same_membership of_page link.what)
    ∙ ap (cons_option (membership_in of_page (link_in link.what))) (same_members of_page found)

-- the categories that an output makes a page a member of
pub members_found : (of_page : PageTitle) (found : List Found) (out : List MarkedByte) → map occurrence_in found ≡ occurrences out → with_members [] (members_by (with_spaces of_page.key) found) ≡ rule.in_title_order (λ (m : page_rows.Member). m.category) (filter_map (rule.membership of_page) (occurrences out))
members_found of_page found out e =
    members_in_order (members_by (with_spaces of_page.key) found)
    ∙ ap (rule.in_title_order (λ (m : page_rows.Member). m.category)) (same_members of_page found ∙ ap (filter_map (rule.membership of_page)) e)

-- rows are the same where their lists are
pub same_rows : (a b : page_rows.PageRows) → a.templates ≡ b.templates → a.exists ≡ b.exists → a.links ≡ b.links → a.members ≡ b.members → a.redirect ≡ b.redirect → a ≡ b
same_rows a b templates exists links members redirect =
    ap (λ t. record { templates = t; exists = a.exists; links = a.links; members = a.members; redirect = a.redirect }) templates
    ∙ ap (λ e. record { templates = b.templates; exists = e; links = a.links; members = a.members; redirect = a.redirect }) exists
    ∙ ap (λ l. record { templates = b.templates; exists = b.exists; links = l; members = a.members; redirect = a.redirect }) links
    ∙ ap (λ m. record { templates = b.templates; exists = b.exists; links = b.links; members = m; redirect = a.redirect }) members
    ∙ ap (λ r. record { templates = b.templates; exists = b.exists; links = b.links; members = b.members; redirect = r }) redirect

-- ---- the rows of a draft

-- the titles that are told to be read are those that were read
pub titles_told : (kind : Kind) (reads : List Read) → titles_asked kind (map with_mark reads) ≡ rule.titles_read kind reads
titles_told kind reads = sym (filter_map-map with_mark (title_asked kind) reads)

-- what is told of a draft's reads gives its rows
pub rows_of_draft : (of_page : PageTitle) (out : List MarkedByte) (reads : List Read) → rows_told of_page out (map with_mark reads) (turned of_page reads) ≡ rule.rows_by of_page out reads
unfolding rule.rows_by
rows_of_draft of_page out reads =
    same_rows _ _ (ap rule.titles_in_order (titles_told Include reads)) (ap rule.titles_in_order (titles_told Exists reads))
    (ap (λ titles. rule.titles_in_order (filter_map rule.page_linked (occurrences out) ++ titles)) (titles_told Exists reads)) refl refl

-- a draft's rows are the page's in each world that agrees with its reads
pub rows_in_world : (of_page : PageTitle) (given : Option (List ℕ)) (expanded : Expanded) (reads : List Read) → given ≡ None → IsDraft of_page given expanded reads → (pages : World) → Agrees (of_world pages) reads → rule.rows_by of_page expanded.out reads ≡ rule.rows pages of_page
unfolding rule.rows
rows_in_world of_page None expanded reads own draft pages agrees = ap (rule.rows_at of_page) (sym (draft.everywhere (of_world pages) agrees))
rows_in_world of_page (Some text) expanded reads own draft pages agrees = cc

-- what a draft's methods tell gives its rows
pub rows_by_methods : (d : DraftShown) (of_page : PageTitle) (out : List MarkedByte) (reads : List ToldRead) (redirect : Option PageTitle) → d.given ≡ None → of_page ≡ d.page → out ≡ d.expanded.out → reads ≡ map with_mark d.reads → redirect ≡ turned_by d.page d.given d.reads → rows_told of_page out reads redirect ≡ rule.rows_by d.page d.expanded.out d.reads
rows_by_methods d of_page out reads redirect own of_page_is out_is reads_is redirect_is =
    ap (λ p. rows_told p out reads redirect) of_page_is
    ∙ ap (λ o. rows_told d.page o reads redirect) out_is
    ∙ ap (λ r. rows_told d.page d.expanded.out r redirect) reads_is
    ∙ ap (λ t. rows_told d.page d.expanded.out (map with_mark d.reads) t) (redirect_is ∙ ap (λ given. turned_by d.page given d.reads) own)
    ∙ rows_of_draft d.page d.expanded.out d.reads
