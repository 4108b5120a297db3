-- Rows are in title order, and have the titles of pages.
use Rattle.std.proofs.Common.{◌≡◌, ℕ, zero, suc, ◌+◌, ◌-◌, false, pos, List, [], ◌∷◌, ◌++◌, length, drop, refl, sym, ◌∙◌, ap, subst, Option, Some, None, arith, inl, inr}
use Rattle.std.specs.Bool.{if◌then◌else◌, ◌==◌}
use Rattle.std.specs.Cmp.{IsTotalOrder}
use Rattle.std.specs.List.{All, AllPairs, cons_option, find, fold, filter_map, starts_with}
use Rattle.std.specs.Option.{IfSome, option_and_then, option_map}
use Rattle.std.specs.Ordering.{int_eq, ordering_reverse}
use Rattle.std.specs.Prelude.{codes}
use Rattle.std.specs.declared.cmp.Ordering.{Ordering}
use Rattle.std.specs.declared.cmp.Ordering.TheVariants.{Less, Equal, Greater}
use Rattle.std.proofs.lemmas.Bool.{cases_Bool}
use Rattle.std.proofs.lemmas.Bool.Decides.{Decides-int_eq}
use Rattle.std.proofs.lemmas.Cmp.{int_cmp_total, lists_total, nat_cmp_total, on_total, then_total}
use Rattle.std.proofs.lemmas.List.Elements.{All-append, All-cons, All-head, All-nil, All-tail, All-weaker}
use Rattle.std.proofs.lemmas.List.Kept.{AllPairs-cons}
use Rattle.wk_text_rules.specs.Blank.{trimmed}
use Rattle.wk_text_rules.specs.Marked.{MarkedByte, text_of}
use Rattle.wk_text_rules.specs.Occurrences.{Content, content, Link, link_at, link_by, link_of, Occurrence, occurrence_of, occurrences, page, member, nothing}
use Rattle.wk_text_rules.specs.Shapes.{Span, spans, spans_from}
use Rattle.wk_text_rules.specs.Titles.{PageTitle, normal, is_virtual, title_cmp}
use Rattle.wk_tree_rules.specs.Redirects.{redirect_target}
use Rattle.wk_view_rules.specs.Plans.{reads_of}
use Rattle.wk_page_rules.specs.PageRows.{Member}
use Rattle.wk_view_rules.specs.Rows.{put_in_order, in_title_order, titles_read, page_linked, membership, sortkey_of, rows, rows_at, rows_by}
use Rattle.wk_view_rules.specs.Views.{turned}
use Rattle.wk_view_rules.specs.Worlds.{is_read_of, kind_eq, page_of, PageText, Read, World, of_world}
use Rattle.wk_view_rules.specs.declared.Kind.{Kind}
use Rattle.wk_view_rules.specs.declared.Kind.TheVariants.{View, Include, Exists}
use Rattle.wk_view_laws.specs.Titles.{IsCategoryTitle, IsInTitleOrder, IsPageTitle, RowsAreInOrder, RowsHavePageTitles}
use Rattle.wk_view_laws.proofs.PlanLemmas.{kind_eq-true}
use Rattle.wk_view_laws.proofs.RowLemmas.{IsReadFor, of_done, read_for-view}
use Rattle.wk_view_laws.proofs.TitleLemmas.{page-redirect_target}

-- ---- order

title_cmp_total : IsTotalOrder title_cmp
title_cmp_total = then_total (on_total (λ (t : PageTitle). t.ns) int_cmp_total) (on_total (λ (t : PageTitle). t.key) (lists_total nat_cmp_total))

AllPairs-head : {X : Type 0} (R : X → X → Type 0) (x : X) (xs : List X) → AllPairs R (x ∷ xs) → All (R x) xs
AllPairs-head R x xs pairs k d within = pairs zero (suc k) d (omega arith) (omega arith)

AllPairs-tail : {X : Type 0} (R : X → X → Type 0) (x : X) (xs : List X) → AllPairs R (x ∷ xs) → AllPairs R xs
AllPairs-tail R x xs pairs i j d before within = pairs (suc i) (suc j) d (omega arith) (omega arith)

module _ {X : Type 0} (title_of : X → PageTitle) where
  abbrev IsBefore : X → X → Type 0
  IsBefore a b = title_cmp (title_of a) (title_of b) ≡ Less

  All-put : (P : X → Type 0) (x : X) (xs : List X) → P x → All P xs → All P (put_in_order title_of x xs)
  All-put P x [] here all = All-cons P x [] here all
  All-put P x (y ∷ ys) here all = go (title_cmp (title_of x) (title_of y)) (All-put P x ys here (All-tail P y ys all))
    where
      go : (o : Ordering) → All P (put_in_order title_of x ys) → All P (elim o [ Less ↦ x ∷ y ∷ ys | Equal ↦ x ∷ ys | Greater ↦ y ∷ put_in_order title_of x ys ])
      go Less later = All-cons P x (y ∷ ys) here all
      go Equal later = All-cons P x ys here (All-tail P y ys all)
      go Greater later = All-cons P y (put_in_order title_of x ys) (All-head P y ys all) later

  order-put : (x : X) (xs : List X) → AllPairs IsBefore xs → AllPairs IsBefore (put_in_order title_of x xs)
  order-put x [] pairs = AllPairs-cons IsBefore x [] (All-nil (IsBefore x)) pairs
  order-put x (y ∷ ys) pairs = go (title_cmp (title_of x) (title_of y)) refl (order-put x ys (AllPairs-tail IsBefore y ys pairs))
    where
      after : All (IsBefore y) ys
      after = AllPairs-head IsBefore y ys pairs

      rest : AllPairs IsBefore ys
      rest = AllPairs-tail IsBefore y ys pairs

      go : (o : Ordering) → title_cmp (title_of x) (title_of y) ≡ o → AllPairs IsBefore (put_in_order title_of x ys) → AllPairs IsBefore (elim o [ Less ↦ x ∷ y ∷ ys | Equal ↦ x ∷ ys | Greater ↦ y ∷ put_in_order title_of x ys ])
      go Less e later = AllPairs-cons IsBefore x (y ∷ ys)
          (All-cons (IsBefore x) y ys e (All-weaker (IsBefore y) (IsBefore x) (λ z h. title_cmp_total.trans (title_of x) (title_of y) (title_of z) e h) ys after)) pairs
      go Equal e later = AllPairs-cons IsBefore x ys
          (All-weaker (IsBefore y) (IsBefore x) (λ z h. title_cmp_total.congr (title_of x) (title_of y) (title_of z) e ∙ h) ys after) rest
      go Greater e later = AllPairs-cons IsBefore y (put_in_order title_of x ys)
          (All-put (IsBefore y) x ys (title_cmp_total.antisymm (title_of y) (title_of x) ∙ ap ordering_reverse e) after) later

  All-fold : (P : X → Type 0) (ordered xs : List X) → All P ordered → All P xs → All P (fold (λ list x. put_in_order title_of x list) ordered xs)
  All-fold P ordered [] here all = here
  All-fold P ordered (x ∷ xs) here all = All-fold P (put_in_order title_of x ordered) xs (All-put P x ordered (All-head P x xs all) here) (All-tail P x xs all)

  order-fold : (ordered xs : List X) → AllPairs IsBefore ordered → AllPairs IsBefore (fold (λ list x. put_in_order title_of x list) ordered xs)
  order-fold ordered [] pairs = pairs
  order-fold ordered (x ∷ xs) pairs = order-fold (put_in_order title_of x ordered) xs (order-put x ordered pairs)

  pub All-in_title_order : (P : X → Type 0) (xs : List X) → All P xs → All P (in_title_order title_of xs)
  unfolding in_title_order
  All-in_title_order P xs all = All-fold P [] xs (All-nil P) all

  pub order-in_title_order : (xs : List X) → IsInTitleOrder title_of (in_title_order title_of xs)
  unfolding in_title_order
  order-in_title_order xs = order-fold [] xs (λ i j d before within. absurd (omega arith))

pub order-rows : (pages : World) (of_page : PageTitle) → RowsAreInOrder (rows pages of_page)
unfolding rows rows_by
order-rows pages of_page = of_done pages of_page (λ o. RowsAreInOrder (rows_at of_page o)) (λ x seen. record {
  templates = order-in_title_order (λ title. title) (titles_read Include seen);
  exists = order-in_title_order (λ title. title) (titles_read Exists seen);
  links = order-in_title_order (λ title. title) (filter_map page_linked (occurrences x.out) ++ titles_read Exists seen);
  members = order-in_title_order (λ (m : Member). m.category) (filter_map (membership of_page) (occurrences x.out));
})

-- ---- titles

All-filter_map : {X Y : Type 0} (P : X → Type 0) (Q : Y → Type 0) (h : X → Option Y) → ((x : X) (y : Y) → P x → h x ≡ Some y → Q y) → (xs : List X) → All P xs → All Q (filter_map h xs)
All-filter_map P Q h each [] all = All-nil Q
All-filter_map {Y = Y} P Q h each (x ∷ xs) all = go (h x) refl (All-filter_map P Q h each xs (All-tail P x xs all))
  where
    go : (o : Option Y) → h x ≡ o → All Q (filter_map h xs) → All Q (cons_option o (filter_map h xs))
    go None e later = later
    go (Some y) e later = All-cons Q y (filter_map h xs) (each x y (All-head P x xs all) e) later

-- the titles read with a kind other than a view's
pages-read : (of_page : PageTitle) (kind : Kind) → kind_eq kind View ≡ false → (seen : List Read) → All (IsReadFor of_page) seen → All IsPageTitle (titles_read kind seen)
pages-read of_page kind no_view seen all = All-filter_map (IsReadFor of_page) IsPageTitle (λ (r : Read). if kind_eq r.kind kind then Some r.title else None) each seen all
  where
    each : (r : Read) (title : PageTitle) → IsReadFor of_page r → (if kind_eq r.kind kind then Some r.title else None) ≡ Some title → IsPageTitle title
    each r title here e = elim (cases_Bool (kind_eq r.kind kind)) [
      | inl same ↦
          let found : Some r.title ≡ Some title = rw same at e in
          let title_is : r.title ≡ title = cc in
          let kind_is : r.kind ≡ kind = kind_eq-true r.kind kind same in
          subst (λ t. IsPageTitle t) title_is (here.other (subst (λ k. kind_eq k View ≡ false) (sym kind_is) no_view))
      | inr other ↦ let none : None ≡ Some title = rw other at e in cc
    ]

-- what a link's title is
abbrev HasPageTitle : Link → Type 0
HasPageTitle (page title) = IsPageTitle title
HasPageTitle (member title prefix) = IsCategoryTitle title
HasPageTitle nothing = Unit {0}

page-link_by : (target : List ℕ) (label : Option (List MarkedByte)) (title : PageTitle) → normal target (pos 0) ≡ Some title → HasPageTitle (link_by target label title)
page-link_by target label title e = elim (cases_Bool (is_virtual title)) [
  | inl virtual ↦ rw virtual tt
  | inr real ↦
      let here : IsPageTitle title = record { text = target; default_ns = pos 0; known = refl; named = e; real = real } in
      elim (cases_Bool (starts_with (λ a b. a == b) (trimmed target) (codes ":"))) [
        | inl colon ↦ rw (real, colon) here
        | inr none ↦ elim (cases_Bool (int_eq title.ns (pos 14))) [
          | inl category ↦ rw (real, none, category) (here, (Decides-int_eq title.ns (pos 14)).0 category)
          | inr other ↦ elim (cases_Bool (int_eq title.ns (pos 6))) [
            | inl file ↦ rw (real, none, other, file) tt
            | inr any ↦ rw (real, none, other, any) here
          ]
        ]
      ]
]

page-link_of : (target : List ℕ) (label : Option (List MarkedByte)) → HasPageTitle (link_of target label)
page-link_of target label = go (normal target (pos 0)) refl
  where
    go : (o : Option PageTitle) → normal target (pos 0) ≡ o → HasPageTitle (elim o [ None ↦ nothing | Some title ↦ link_by target label title ])
    go None e = tt
    go (Some title) e = page-link_by target label title e

-- a link, where a span is one
abbrev IsGoodKind : Option Link → Type 0
IsGoodKind None = Unit {0}
IsGoodKind (Some link) = HasPageTitle link

abbrev link_found : List MarkedByte → Option Content → Option Link × List MarkedByte
link_found out found = elim found [ Some c ↦ (Some (link_of (text_of c.target) c.label), c.rest) | None ↦ (None, drop 1 out) ]

page-link_at : (before : Option MarkedByte) (out : List MarkedByte) → IsGoodKind (link_at before out).0
page-link_at before out = elim (content out) as (λ o. IsGoodKind (link_found out o).0) [
  | None ↦ tt
  | Some c ↦ page-link_of (text_of c.target) c.label
]

All-spans_from : {K X : Type 0} (Q : K → Type 0) (begins : Option X → List X → K × List X) → ((before : Option X) (text : List X) → Q (begins before text).0) → (start : ℕ) (before : Option X) (skip : ℕ) (xs : List X) → All (λ (span : Span K X). Q span.kind) (spans_from begins start before skip xs)
unfolding spans_from
All-spans_from {K} {X} Q begins each start before skip [] = All-nil (λ (span : Span K X). Q span.kind)
All-spans_from {K} {X} Q begins each start before zero (x ∷ xs) = All-cons (λ (span : Span K X). Q span.kind) _ _ (each before (x ∷ xs)) (All-spans_from Q begins each (suc start) (Some x) (length xs - length (begins before (x ∷ xs)).1) xs)
All-spans_from Q begins each start before (suc skip) (x ∷ xs) = All-spans_from Q begins each (suc start) (Some x) skip xs

pages-occurrences : (out : List MarkedByte) → All (λ (o : Occurrence). HasPageTitle o.link) (occurrences out)
unfolding occurrences
pages-occurrences out = All-filter_map (λ (span : Span (Option Link) MarkedByte). IsGoodKind span.kind) (λ (o : Occurrence). HasPageTitle o.link) occurrence_of each
    (spans link_at out) (All-spans_from IsGoodKind link_at page-link_at 0 None 0 out)
  where
    each : (span : Span (Option Link) MarkedByte) (o : Occurrence) → IsGoodKind span.kind → occurrence_of span ≡ Some o → HasPageTitle o.link
    each span o here e = go span.kind here e
      where
        go : (kind : Option Link) → IsGoodKind kind → option_map (λ link. record { start = span.start; end = span.start + length span.source; link = link }) kind ≡ Some o → HasPageTitle o.link
        go None h found = cc
        go (Some link) h found =
            let same : record { start = span.start; end = span.start + length span.source; link = link } ≡ o = cc in
            subst (λ (o : Occurrence). HasPageTitle o.link) same h

abbrev page_by : Link → Option PageTitle
page_by link = elim link [ page title ↦ Some title | member title prefix ↦ None | nothing ↦ None ]

page-page_by : (link : Link) (title : PageTitle) → HasPageTitle link → page_by link ≡ Some title → IsPageTitle title
page-page_by (page other) title here e =
    let same : other ≡ title = cc in
    subst (λ t. IsPageTitle t) same here
page-page_by (member other prefix) title here e = cc
page-page_by nothing title here e = cc

abbrev member_by : PageTitle → Link → Option Member
member_by of_page link = elim link [
  | page title ↦ None
  | member category prefix ↦ Some (record { category = category; sortkey = sortkey_of of_page prefix; prefix = prefix })
  | nothing ↦ None
]

page-member_by : (of_page : PageTitle) (link : Link) (m : Member) → HasPageTitle link → member_by of_page link ≡ Some m → IsCategoryTitle m.category
page-member_by of_page (page other) m here e = cc
page-member_by of_page (member category prefix) m here e =
    let made : Member = record { category = category; sortkey = sortkey_of of_page prefix; prefix = prefix } in
    let same : made ≡ m = cc in
    subst (λ (m : Member). IsCategoryTitle m.category) same here
page-member_by of_page nothing m here e = cc

page-turned : (of_page : PageTitle) (seen : List Read) → IfSome (turned of_page seen) IsPageTitle
page-turned of_page seen = go (option_and_then (λ (r : Read). page_of r.answer) (find (is_read_of of_page View) seen))
  where
    by_text : (text : List ℕ) (o : Option PageTitle) → redirect_target text ≡ o → IfSome o IsPageTitle
    by_text text None e = tt
    by_text text (Some title) e = page-redirect_target text title e

    go : (o : Option PageText) → IfSome (option_and_then (λ (p : PageText). redirect_target p.text) o) IsPageTitle
    go None = tt
    go (Some p) = by_text p.text (redirect_target p.text) refl

pages-rows_by : (of_page : PageTitle) (out : List MarkedByte) (seen : List Read) → All (IsReadFor of_page) seen → RowsHavePageTitles (rows_by of_page out seen)
unfolding rows_by
pages-rows_by of_page out seen all =
    let tested : All IsPageTitle (titles_read Exists seen) = pages-read of_page Exists refl seen all in
    let linked : All IsPageTitle (filter_map page_linked (occurrences out)) =
    All-filter_map (λ (o : Occurrence). HasPageTitle o.link) IsPageTitle page_linked (λ o title here e. page-page_by o.link title here e) (occurrences out) (pages-occurrences out)
    in
    record {
      templates = All-in_title_order (λ title. title) IsPageTitle (titles_read Include seen) (pages-read of_page Include refl seen all);
      exists = All-in_title_order (λ title. title) IsPageTitle (titles_read Exists seen) tested;
      links = All-in_title_order (λ title. title) IsPageTitle (filter_map page_linked (occurrences out) ++ titles_read Exists seen)
          (All-append IsPageTitle (filter_map page_linked (occurrences out)) (titles_read Exists seen) linked tested);
      members = All-in_title_order (λ (m : Member). m.category) (λ (m : Member). IsCategoryTitle m.category) (filter_map (membership of_page) (occurrences out))
          (All-filter_map (λ (o : Occurrence). HasPageTitle o.link) (λ (m : Member). IsCategoryTitle m.category) (membership of_page)
          (λ o m here e. page-member_by of_page o.link m here e) (occurrences out) (pages-occurrences out));
      redirect = page-turned of_page seen;
    }

pub pages-rows : (pages : World) (of_page : PageTitle) → RowsHavePageTitles (rows pages of_page)
unfolding rows
pages-rows pages of_page =
    (of_done pages of_page (λ o. All (IsReadFor of_page) (reads_of o) → RowsHavePageTitles (rows_at of_page o))
    (λ x seen all. pages-rows_by of_page x.out seen all)) (read_for-view (of_world pages) of_page)
