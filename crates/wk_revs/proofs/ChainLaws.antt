-- The newest revision of a page up to a number.
use Rattle.std.proofs.Common.{◌≡◌, ℕ, zero, suc, ◌+◌, ◌-◌, ◌<◌, ◌≤◌, Bool, true, false, List, [], ◌∷◌, ◌++◌, length, get_or, min, refl, sym, ap, ◌∙◌, subst, inl, inr, replicate, eq-eqb, arith, length-append, if◌then◌else◌}
use Rattle.std.proofs.Math.ListN.{get_or-append}
use Rattle.std.proofs.Math.Seq.{get_or-append_seam}
use Rattle.std.proofs.lemmas.List.{get_or-replicate, get_or_past, length-replicate}
use Rattle.std.proofs.lemmas.Bool.{cases_Bool, cases_eq, cases_lt, true≢false}
use Rattle.std.specs.Prelude.{◌==◌}
use borrow.Author.Tests.{eqb-true}
use Rattle.wk_revs.specs.Chains.{AreChains, IsAbove, IsLinked, IsOwn, last_up_to, newest_up_to, no_link}
use Rattle.wk_revs.specs.declared.chains.Link.{Link}

-- ---- by one revision

le_step : (b : Bool) (n x : ℕ) → x ≤ n → (if b then suc n else x) ≤ suc n
le_step true n x h = omega arith
le_step false n x h = omega (arith, h)

own_step : (b : Bool) (pages : List ℕ) (page n x : ℕ) → (b ≡ true → get_or pages n 0 ≡ page) → (0 < x → get_or pages (x - 1) 0 ≡ page)
    → 0 < (if b then suc n else x) → get_or pages ((if b then suc n else x) - 1) 0 ≡ page
own_step true pages page n x here earlier some = let e : suc n - 1 ≡ n = omega arith in rw e (here refl)
own_step false pages page n x here earlier some = earlier some

most_step : (b : Bool) (pages : List ℕ) (page n x last : ℕ) → (get_or pages n 0 ≡ page → b ≡ true) → x ≤ suc n → 0 < x
    → get_or pages (x - 1) 0 ≡ page → (x ≤ n → x ≤ last) → x ≤ (if b then suc n else last)
most_step true pages page n x last here within some own earlier = within
most_step false pages page n x last here within some own earlier = elim (cases_lt n x) [
  | inl l ↦
      let e : x - 1 ≡ n = omega (arith, within, l) in
      absurd (true≢false (sym (here (subst (λ k. get_or pages k 0 ≡ page) e own))))
  | inr l ↦ earlier l
]

-- ---- the newest up to a number

pub up_to-le : (pages : List ℕ) (page n : ℕ) → last_up_to pages page n ≤ n
up_to-le pages page zero = omega arith
up_to-le pages page (suc n) = le_step (get_or pages n 0 == page) n (last_up_to pages page n) (up_to-le pages page n)

pub up_to-own : (pages : List ℕ) (page n : ℕ) → 0 < last_up_to pages page n → get_or pages (last_up_to pages page n - 1) 0 ≡ page
up_to-own pages page zero some = absurd (omega (arith, some))
up_to-own pages page (suc n) some =
    own_step (get_or pages n 0 == page) pages page n (last_up_to pages page n) (eqb-true (get_or pages n 0) page) (up_to-own pages page n) some

pub up_to-most : (pages : List ℕ) (page n x : ℕ) → x ≤ n → 0 < x → get_or pages (x - 1) 0 ≡ page → x ≤ last_up_to pages page n
up_to-most pages page zero x within some own = absurd (omega (arith, within, some))
up_to-most pages page (suc n) x within some own =
    most_step (get_or pages n 0 == page) pages page n x (last_up_to pages page n) (eq-eqb (get_or pages n 0) page) within some own
    (λ l. up_to-most pages page n x l some own)

-- a greater number has a newest revision that is no earlier
pub up_to-rises : (pages : List ℕ) (page m n : ℕ) → m ≤ n → last_up_to pages page m ≤ last_up_to pages page n
up_to-rises pages page m n l = elim (cases_lt 0 (last_up_to pages page m)) [
  | inl some ↦
      up_to-most pages page n (last_up_to pages page m) (omega (arith, up_to-le pages page m, l)) some (up_to-own pages page m some)
  | inr none ↦ omega (arith, none)
]

-- it is one of the page's that isn't below it and isn't above the number
up_to-found : (pages : List ℕ) (page n x : ℕ) → x ≤ n → (0 < x → get_or pages (x - 1) 0 ≡ page) → last_up_to pages page n ≤ x → x ≡ last_up_to pages page n
up_to-found pages page n x within own above = elim (cases_lt 0 x) [
  | inl some ↦ omega (arith, above, up_to-most pages page n x within some (own some))
  | inr none ↦ omega (arith, none, above)
]

up_to-same : (b c : Bool) (n x y : ℕ) → b ≡ c → x ≡ y → (if b then suc n else x) ≡ (if c then suc n else y)
up_to-same b c n x y first second = λ i. if first i then suc n else second i

-- what comes behind changes nothing before
up_to-append : (pages more : List ℕ) (page n : ℕ) → n ≤ length pages → last_up_to (pages ++ more) page n ≡ last_up_to pages page n
up_to-append pages more page zero l = refl
up_to-append pages more page (suc n) l =
    up_to-same _ _ n _ _ (ap (λ k. k == page) (get_or-append pages more 0 n (omega (arith, l)))) (up_to-append pages more page n (omega (arith, l)))

-- the revision that is appended is its page's newest
at_own : (pages : List ℕ) (page : ℕ) → last_up_to (pages ++ page ∷ []) page (suc (length pages)) ≡ suc (length pages)
at_own pages page =
    let here : (get_or (pages ++ page ∷ []) (length pages) 0 == page) ≡ true = eq-eqb _ page (get_or-append_seam pages page [] 0) in
    rw here refl

pub differs-eqb : (a b : ℕ) → (a ≡ b → ⊥) → (a == b) ≡ false
differs-eqb a b apart = elim (cases_Bool (a == b)) [ inl t ↦ absurd (apart (eqb-true a b t)) | inr f ↦ f ]

at_other : (b : Bool) (n x : ℕ) → b ≡ false → (if b then suc n else x) ≡ x
at_other true n x other = absurd (true≢false other)
at_other false n x other = refl

-- and no other page's
pub appended : (pages : List ℕ) (page : ℕ) (new old : ℕ) (q : ℕ) → old ≡ last_up_to pages q (length pages)
    → (q ≡ page → new ≡ length pages + 1) → ((q ≡ page → ⊥) → new ≡ old) → new ≡ last_up_to (pages ++ page ∷ []) q (length (pages ++ page ∷ []))
appended pages page new old q was own other =
    let count : length (pages ++ page ∷ []) ≡ suc (length pages) = omega (arith, length-append pages (page ∷ [])) in
    let at : last_up_to (pages ++ page ∷ []) q (suc (length pages)) ≡ new = elim (cases_eq q page) [
      | inl same ↦
          let mine : last_up_to (pages ++ page ∷ []) q (suc (length pages)) ≡ suc (length pages) = ap (λ p. last_up_to (pages ++ page ∷ []) p (suc (length pages))) same ∙ at_own pages page in
          omega (arith, mine, own same)
      | inr differs ↦
          at_other _ (length pages) (last_up_to (pages ++ page ∷ []) q (length pages))
          (differs-eqb _ q (λ is. differs (sym (sym (get_or-append_seam pages page [] 0) ∙ is))))
          ∙ up_to-append pages (page ∷ []) q (length pages) (omega arith) ∙ sym was ∙ sym (other differs)
    ] in
    sym (ap (last_up_to (pages ++ page ∷ []) q) count ∙ at)

-- ---- links

-- a search that is at or below the number has found it
pub is_found : (pages : List ℕ) (page number at : ℕ) → IsAbove pages page number at → at ≤ number → at ≡ newest_up_to pages page number
is_found pages page number at h l =
    up_to-found pages page (min number (length pages)) at (omega (arith, l, h.own.within)) h.own.own h.above

-- a step back along a link
pub steps_back : (pages : List ℕ) (links : List Link) (newest : List ℕ) (page number at : ℕ) (link : Link) → AreChains pages links newest
    → IsAbove pages page number at → number < at → link ≡ get_or links (at - 1) no_link → IsAbove pages page number link.before
steps_back pages links newest page number at link chains h above is =
    let inside : at - 1 < length pages = omega (arith, above, h.own.within) in
    let some : 0 < at = omega (arith, above) in
    let linked = subst (IsLinked pages (at - 1)) (sym is) (chains.linked (at - 1) inside) in
    let before : link.before ≡ last_up_to pages page (at - 1) = linked.before ∙ ap (λ p. last_up_to pages p (at - 1)) (h.own.own some) in
    record {
      own = record {
        within = omega (arith, before, up_to-le pages page (at - 1), inside);
        own = subst (λ x. 0 < x → get_or pages (x - 1) 0 ≡ page) (sym before) (up_to-own pages page (at - 1));
      };
      above = omega (arith, before, up_to-rises pages page (min number (length pages)) (at - 1) (omega (arith, above)));
    }

-- a step further back
pub jumps_back : (pages : List ℕ) (links : List Link) (newest : List ℕ) (page number at : ℕ) (link : Link) → AreChains pages links newest
    → IsAbove pages page number at → number < at → link ≡ get_or links (at - 1) no_link → number < link.far → IsAbove pages page number link.far
jumps_back pages links newest page number at link chains h above is far =
    let inside : at - 1 < length pages = omega (arith, above, h.own.within) in
    let some : 0 < at = omega (arith, above) in
    let linked = subst (IsLinked pages (at - 1)) (sym is) (chains.linked (at - 1) inside) in
    record {
      own = subst (λ p. IsOwn pages p link.far) (h.own.own some) linked.far_own;
      above = omega (arith, far, up_to-le pages page (min number (length pages)));
    }

-- both links go back
pub links_fall : (pages : List ℕ) (links : List Link) (newest : List ℕ) (at : ℕ) (link : Link) → AreChains pages links newest → 0 < at → at ≤ length pages
    → link ≡ get_or links (at - 1) no_link → (link.before < at) × (link.far < at)
links_fall pages links newest at link chains some within is =
    let inside : at - 1 < length pages = omega (arith, some, within) in
    let linked = subst (IsLinked pages (at - 1)) (sym is) (chains.linked (at - 1) inside) in (
      omega (arith, linked.before, up_to-le pages (get_or pages (at - 1) 0) (at - 1), some),
      omega (arith, linked.far_within, some),
    )

-- ---- searches begin

own_none : (pages : List ℕ) (page number : ℕ) → number ≡ 0 → IsOwn pages page number
own_none pages page number is = record { within = omega (arith, is); own = λ some. absurd (omega (arith, is, some)) }

-- the far link of a page's revision, or of none, is the page's
pub own_far : (pages : List ℕ) (links : List Link) (newest : List ℕ) (page at : ℕ) (link : Link) → AreChains pages links newest → IsOwn pages page at
    → (at ≡ 0 → link ≡ no_link) → (0 < at → link ≡ get_or links (at - 1) no_link) → IsOwn pages page link.far
own_far pages links newest page at link chains own none some = elim (cases_lt 0 at) [
  | inl l ↦
      let linked = subst (IsLinked pages (at - 1)) (sym (some l)) (chains.linked (at - 1) (omega (arith, l, own.within))) in
      subst (λ p. IsOwn pages p link.far) (own.own l) linked.far_own
  | inr l ↦ own_none pages page link.far (ap (λ (x : Link). x.far) (none (omega (arith, l))))
]

-- the revision before one of the page's
pub above_before : (pages : List ℕ) (links : List Link) (newest : List ℕ) (page number : ℕ) (link : Link) → AreChains pages links newest
    → number < length pages → get_or pages number 0 ≡ page → link ≡ get_or links number no_link → IsAbove pages page number link.before
above_before pages links newest page number link chains inside own is =
    let linked = subst (IsLinked pages number) (sym is) (chains.linked number inside) in
    let before : link.before ≡ last_up_to pages page number = linked.before ∙ ap (λ p. last_up_to pages p number) own in
    record {
      own = record {
        within = omega (arith, before, up_to-le pages page number, inside);
        own = subst (λ x. 0 < x → get_or pages (x - 1) 0 ≡ page) (sym before) (up_to-own pages page number);
      };
      above = omega (arith, before, up_to-rises pages page (min number (length pages)) number (omega (arith, inside)));
    }

-- the page's newest revision
pub above_newest : (pages : List ℕ) (links : List Link) (newest : List ℕ) (page number at : ℕ) → AreChains pages links newest
    → 0 < page → at ≡ get_or newest (page - 1) 0 → IsAbove pages page number at
above_newest pages links newest page number at chains some is =
    let same : page - 1 + 1 ≡ page = omega (arith, some) in
    let last : at ≡ last_up_to pages page (length pages) = is ∙ chains.ends (page - 1) ∙ ap (λ p. last_up_to pages p (length pages)) same in
    record {
      own = record {
        within = omega (arith, last, up_to-le pages page (length pages));
        own = subst (λ x. 0 < x → get_or pages (x - 1) 0 ≡ page) (sym last) (up_to-own pages page (length pages));
      };
      above = omega (arith, last, up_to-rises pages page (min number (length pages)) (length pages) (omega arith));
    }

-- no revision is of page 0
none_of_zero : (pages : List ℕ) (links : List Link) (newest : List ℕ) (number : ℕ) → AreChains pages links newest → 0 ≡ newest_up_to pages 0 number
none_of_zero pages links newest number chains = elim (cases_lt 0 (newest_up_to pages 0 number)) [
  | inl some ↦
      let x : ℕ = newest_up_to pages 0 number in
      let within : x ≤ min number (length pages) = up_to-le pages 0 (min number (length pages)) in
      let own : get_or pages (x - 1) 0 ≡ 0 = up_to-own pages 0 (min number (length pages)) some in
      let real : 0 < get_or pages (x - 1) 0 = chains.real (x - 1) (omega (arith, within, some)) in
      absurd (omega (arith, own, real))
  | inr l ↦ omega (arith, l)
]

pub none_of_none : (pages : List ℕ) (links : List Link) (newest : List ℕ) (page number : ℕ) → AreChains pages links newest → page ≡ 0 → 0 ≡ newest_up_to pages page number
none_of_none pages links newest page number chains is =
    none_of_zero pages links newest number chains ∙ ap (λ p. newest_up_to pages p number) (sym is)

-- the newest revision of a page, as it is read
pub own_newest : (pages seen : List ℕ) (links : List Link) (newest last : List ℕ) (page at : ℕ) → AreChains pages links newest
    → seen ≡ pages → last ≡ newest → 0 < page → at ≡ get_or last (page - 1) 0 → IsOwn seen page at
own_newest pages seen links newest last page at chains same same_last some is =
    subst (λ ps. IsOwn ps page at) (sym same)
    (above_newest pages links newest page 0 at chains some (is ∙ ap (λ l. get_or l (page - 1) 0) same_last)).own

-- ---- a revision more

own_append : (pages more : List ℕ) (page number : ℕ) → IsOwn pages page number → IsOwn (pages ++ more) page number
own_append pages more page number h = record {
  within = omega (arith, h.within, length-append pages more);
  own = λ some. get_or-append pages more 0 (number - 1) (omega (arith, some, h.within)) ∙ h.own some;
}

linked_append : (pages more : List ℕ) (k : ℕ) (link : Link) → k < length pages → IsLinked pages k link → IsLinked (pages ++ more) k link
linked_append pages more k link inside h =
    let here = sym (get_or-append pages more 0 k inside) in
    record {
      before = h.before ∙ sym (up_to-append pages more (get_or pages k 0) k (omega (arith, inside))) ∙ ap (λ p. last_up_to (pages ++ more) p k) here;
      far_within = h.far_within;
      far_own = subst (λ p. IsOwn (pages ++ more) p link.far) here (own_append pages more (get_or pages k 0) link.far h.far_own);
    }

module _ (pages : List ℕ) (links : List Link) (newest new : List ℕ) (page : ℕ) (link : Link) (chains : AreChains pages links newest)
    (some : 0 < page) (before : link.before ≡ get_or newest (page - 1) 0) (far : IsOwn pages page link.far) where
  abbrev longer : List ℕ
  longer = pages ++ page ∷ []

  here_own : get_or longer (length pages) 0 ≡ page
  here_own = get_or-append_seam pages page [] 0

  link_here : get_or (links ++ link ∷ []) (length pages) no_link ≡ link
  link_here = ap (λ k. get_or (links ++ link ∷ []) k no_link) (sym chains.lengths) ∙ get_or-append_seam links link [] no_link

  linked_here : IsLinked longer (length pages) link
  linked_here =
      let same : page - 1 + 1 ≡ page = omega (arith, some) in
      let last : link.before ≡ last_up_to pages page (length pages) =
      before ∙ chains.ends (page - 1) ∙ ap (λ p. last_up_to pages p (length pages)) same in
      record {
        before = last ∙ sym (up_to-append pages (page ∷ []) page (length pages) (omega arith)) ∙ ap (λ p. last_up_to longer p (length pages)) (sym here_own);
        far_within = far.within;
        far_own = subst (λ p. IsOwn longer p link.far) (sym here_own) (own_append pages (page ∷ []) page link.far far);
      }

  pub chains_push : get_or new (page - 1) 0 ≡ length pages + 1 → ((q : ℕ) → (q + 1 ≡ page → ⊥) → get_or new q 0 ≡ get_or newest q 0) →
      AreChains (pages ++ page ∷ []) (links ++ link ∷ []) new
  chains_push own others = record {
    lengths = omega (arith, length-append pages (page ∷ []), length-append links (link ∷ []), chains.lengths);
    real = λ k l. elim (cases_lt k (length pages)) [
      | inl less ↦ omega (arith, get_or-append pages (page ∷ []) 0 k less, chains.real k less)
      | inr more ↦
          let e : k ≡ length pages = omega (arith, l, more, length-append pages (page ∷ [])) in
          subst (λ n. 0 < get_or longer n 0) (sym e) (omega (arith, here_own, some))
    ];
    linked = λ k l. elim (cases_lt k (length pages)) [
      | inl less ↦
          subst (IsLinked longer k) (sym (get_or-append links (link ∷ []) no_link k (omega (arith, less, chains.lengths))))
          (linked_append pages (page ∷ []) k (get_or links k no_link) less (chains.linked k less))
      | inr more ↦
          let e : k ≡ length pages = omega (arith, l, more, length-append pages (page ∷ [])) in
          subst (λ n. IsLinked longer n (get_or (links ++ link ∷ []) n no_link)) (sym e) (subst (IsLinked longer (length pages)) (sym link_here) linked_here)
    ];
    ends = λ q.
        appended pages page (get_or new q 0) (get_or newest q 0) (q + 1) (chains.ends q)
        (λ same. let e : q ≡ page - 1 = omega (arith, same) in ap (λ n. get_or new n 0) e ∙ own)
        (others q);
  }

-- ---- no revision yet

-- pages without revisions
pub chains_none : (count : ℕ) → AreChains [] [] (replicate count 0)
chains_none count = record {
  lengths = refl;
  real = λ k l. absurd (omega (arith, l));
  linked = λ k l. absurd (omega (arith, l));
  ends = λ q. elim (cases_lt q count) [
    | inl l ↦ get_or-replicate count q 0 0 l
    | inr l ↦ get_or_past (replicate count 0) q 0 (omega (arith, l, length-replicate {A = ℕ} count 0))
  ];
}
