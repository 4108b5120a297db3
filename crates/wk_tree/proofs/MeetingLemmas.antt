-- A closing run that meets what was seen.
use Rattle.std.proofs.Common.{◌≡◌, ◌≢◌, ℕ, zero, suc, ◌+◌, ◌-◌, ◌<◌, ◌≤◌, ◌==◌, max, Bool, true, false, if◌then◌else◌, List, [], ◌∷◌, ◌++◌, length, map, replicate, take, drop, refl, ap, ap₂, sym, subst, ◌∙◌, arith, append_assoc, append-nil, length-append}
use Rattle.std.proofs.lemmas.List.{length-replicate, drop_at, take_at, same_from_push, length_push}
use Rattle.std.proofs.lemmas.Bool.{eqb-false}
use Rattle.std.proofs.lemmas.List.Concat.{flat_map-append}
use Rattle.std.specs.List.{AllByRecursion}
use Rattle.std.specs.Prelude.{slice_set}
use Rattle.wk_tree.proofs.MatchingLemmas.{height-append, height-plain, content-tokens, run-item, bars-none, raised-zero, keeps-added, keeps-as, keeps-opened, keeps-reopened, split-run, plained-stretch}
use Rattle.wk_tree.specs.Matching.{are_brackets, delimiters_by, as_run, of_run, run_tokens, bar_places, plained, raised, tokens_by, bars_by, opener_behind, openers_by, IsFit, Keeps, IsKept, IsPopped, IsBarOf, IsClosing, MeetsAs, left_tokens, still_open, way_of, met_by_way}
use Rattle.wk_tree.specs.Tokens.{plain_tokens, text_tokens, opening_tokens, item_tokens, content_tokens, entry_tokens, entries_tokens, items_tokens}
use Rattle.wk_tree.specs.declared.matching.Opener.{Opener as KeptOpener}
use Rattle.wk_tree.specs.declared.matching.Matching.{Matching}
use Rattle.wk_tree.specs.declared.matching.Run.{Run as OpenRun}
use Rattle.wk_tree.specs.declared.matching.Way.TheVariants as Way
use Rattle.wk_tree.specs.declared.token.Token.{Token}
use Rattle.wk_tree.specs.declared.token.Token.TheVariants.{Plain, Fill, NodeStart, NodeEnd}
use Rattle.wk_tree_laws.specs.OnePass.{Opener, PassState, added, opened, reopened, Met, met_as_plain, met_as_node, met_as_brackets, met_by_delimiters, met, resumed, closed}
use Rattle.wk_tree_rules.specs.Reduction.{Delimiter, braces, brackets, Run, plain_opening, plain_closing, closing_delimiter, first_delimiters, last_delimiters, node_width, kind_by_width, most_height}
use Rattle.wk_tree_rules.specs.Trees.{Item, node, Entry, item, bar, equals, content_of, content_height, height, plain_entry}

-- ---- runs

pub of_run-as_run : (run : OpenRun) → run.count ≤ run.end → of_run (as_run run) ≡ run
of_run-as_run run fits =
    let e : (run.end - run.count) + run.count ≡ run.end = omega arith in
    ap₂ (λ b n. record { brackets = b; count = run.count; end = n }) (delimiters run.brackets) e
  where
    delimiters : (b : Bool) → are_brackets (delimiters_by b) ≡ b
    delimiters true = refl
    delimiters false = refl

pub opened-as : (run : OpenRun) (seen : PassState) (slot bars start : ℕ) {tokens tokens' : List Token} {places : List ℕ} {openers openers' : List KeptOpener} → 2 ≤ run.count → run.count ≤ run.end
    → slot ≡ length tokens → bars ≡ length places → start ≡ run.end - run.count
    → tokens' ≡ tokens ++ plain_tokens start run.count → openers' ≡ openers ++ record { run = run; slot = slot; bars = bars; height = 0 } ∷ []
    → Keeps seen tokens places openers → Keeps (opened (as_run run) seen) tokens' places openers'
opened-as run seen slot bars start {tokens = tokens} {places = places} {openers = openers} long fits s b at t l k =
    let same = of_run-as_run run fits in
    keeps-as (opened (as_run run) seen) (t ∙ ap (λ n. tokens ++ plain_tokens n run.count) at) refl
    (l ∙ ap₂ (λ r (n : ℕ × ℕ). openers ++ record { run = r; slot = n.0; bars = n.1; height = 0 } ∷ []) (sym same) (ap₂ (λ x y. (x, y)) s b))
    (keeps-opened (as_run run) seen long k)

-- ---- entries

-- an item that isn't a node
pub item-kept : (i : Item) (seen : PassState) {tokens tokens' : List Token} {places : List ℕ} {openers : List KeptOpener} → height i ≡ 0 → tokens' ≡ tokens ++ item_tokens i
    → Keeps seen tokens places openers → Keeps (added (item i ∷ []) seen) tokens' places openers
unfolding content_height
item-kept i seen {tokens = tokens} {places = places} {openers = openers} low t k =
    let none : max (height i) 0 ≡ 0 = omega arith in
    keeps-as (added (item i ∷ []) seen) (t ∙ ap (λ x. tokens ++ x) (sym (append-nil (item_tokens i)))) (sym (append-nil places))
    (sym (ap (λ n. raised n openers) none ∙ raised-zero openers))
    (keeps-added (item i ∷ []) seen (omega arith) k)

pub bar-kept : (e : Entry) (token : Token) (seen : PassState) (n : ℕ) {tokens tokens' : List Token} {places places' : List ℕ} {openers : List KeptOpener} → IsBarOf e token → n ≡ length tokens
    → tokens' ≡ tokens ++ token ∷ [] → places' ≡ places ++ n ∷ [] → Keeps seen tokens places openers → Keeps (added (e ∷ []) seen) tokens' places' openers
unfolding content_height
bar-kept (item i) token seen n is at t p k = absurd is
bar-kept (bar start) token seen n {tokens = tokens} {places = places} {openers = openers} is at t p k =
    keeps-as (added (bar start ∷ []) seen) (t ∙ ap (λ x. tokens ++ x ∷ []) is) (p ∙ ap (λ x. places ++ x ∷ []) at) (sym (raised-zero openers))
    (keeps-added (bar start ∷ []) seen (omega arith) k)
bar-kept (equals start) token seen n {tokens = tokens} {places = places} {openers = openers} is at t p k =
    keeps-as (added (equals start ∷ []) seen) (t ∙ ap (λ x. tokens ++ x ∷ []) is) (p ∙ ap (λ x. places ++ x ∷ []) at) (sym (raised-zero openers))
    (keeps-added (equals start ∷ []) seen (omega arith) k)

closing-text : (delimiters : Delimiter) (start count : ℕ) → text_tokens start (replicate count (closing_delimiter delimiters)) ≡ Plain start count ∷ []
closing-text braces start zero = refl
closing-text brackets start zero = refl
closing-text braces start (suc n) = ap (λ k. Plain start (suc k) ∷ []) (length-replicate n 125)
closing-text brackets start (suc n) = ap (λ k. Plain start (suc k) ∷ []) (length-replicate n 93)

closing-tokens : (run : Run) → item_tokens (plain_closing run) ≡ Plain run.start run.count ∷ []
unfolding item_tokens
closing-tokens run = closing-text run.delimiters run.start run.count

closing-height : (run : Run) → height (plain_closing run) ≡ 0
unfolding height
closing-height run = refl

pub closing-kept : (run : Run) (seen : PassState) (start count : ℕ) {tokens tokens' : List Token} {places : List ℕ} {openers : List KeptOpener} → start ≡ run.start → count ≡ run.count → tokens' ≡ tokens ++ Plain start count ∷ []
    → Keeps seen tokens places openers → Keeps (added (item (plain_closing run) ∷ []) seen) tokens' places openers
closing-kept run seen start count {tokens = tokens} at n t k =
    item-kept (plain_closing run) seen (closing-height run) (t ∙ ap (λ x. tokens ++ x) (ap₂ (λ s m. Plain s m ∷ []) at n ∙ sym (closing-tokens run))) k

-- ---- a opener that was taken

abbrev outer : List Entry → List Opener → PassState
outer first openers = record { first = first; openers = openers }

outer-kept : (first : List Entry) (openers : List Opener) → AllByRecursion IsFit openers → Keeps (outer first openers) (tokens_by first openers) (bars_by first openers) (openers_by first openers)
outer-kept first openers fit = record { tokens_are = refl; bars_are = refl; openers_are = refl; fit = fit }

-- what is left of the last opener
abbrev left_opener : List Entry → List Opener → Opener → ℕ → KeptOpener
left_opener first openers top k = record { run = record { brackets = are_brackets top.run.delimiters; count = k; end = top.run.start + k }; slot = length (tokens_by first openers); bars = length (bars_by first openers); height = 0 }

width-tokens : (c start : ℕ) → 2 ≤ c → c ≤ 3 → opening_tokens (kind_by_width c) start ≡ NodeStart (c == 3) start ∷ replicate (c - 1) Fill
width-tokens zero start low high = absurd (omega arith)
width-tokens (suc zero) start low high = absurd (omega arith)
width-tokens (suc (suc zero)) start low high = refl
width-tokens (suc (suc (suc zero))) start low high = refl
width-tokens (suc (suc (suc (suc n)))) start low high = absurd (omega arith)

pub node-height : (kind : _) (start : ℕ) (es : List Entry) → content_height (content_of (item (node kind start (content_of es)) ∷ [])) ≡ suc (content_height (content_of es))
unfolding content_height height
node-height kind start es = omega arith

node-tokens : (c start : ℕ) (es : List Entry) → 2 ≤ c → c ≤ 3 → entries_tokens (item (node (kind_by_width c) start (content_of es)) ∷ []) ≡ (NodeStart (c == 3) start ∷ replicate (c - 1) Fill) ++ (entries_tokens es ++ NodeEnd ∷ [])
unfolding item_tokens
node-tokens c start es low high =
    append-nil (opening_tokens (kind_by_width c) start ++ (content_tokens (content_of es) ++ NodeEnd ∷ []))
    ∙ ap₂ (λ o t. o ++ (t ++ NodeEnd ∷ [])) (width-tokens c start low high) (content-tokens es)

node-base : (first : List Entry) (top : Opener) (openers : List Opener) (closer : Run) (c k : ℕ) → c ≡ node_width top.run closer → k ≡ top.run.count - c → AllByRecursion IsFit (top ∷ openers) → content_height (content_of top.stretch) ≢ most_height → 2 ≤ closer.count
    → Keeps (added (item (node (kind_by_width c) (top.run.start + (top.run.count - c)) (content_of top.stretch)) ∷ []) (reopened k (first_delimiters k top.run) (outer first openers)))
    (slice_set (slice_set (tokens_by first (top ∷ openers)) (length (tokens_by first openers)) (Plain top.run.start k)) (length (tokens_by first openers) + k) (NodeStart (c == 3) (top.run.start + k)) ++ NodeEnd ∷ [])
    (bars_by first openers)
    (raised (suc (content_height (content_of top.stretch))) (openers_by first openers ++ still_open k (left_opener first openers top k)))
node-base first top openers closer c k is left fit below long =
    let start : ℕ = top.run.start + (top.run.count - c) in
    let made : Item = node (kind_by_width c) start (content_of top.stretch) in
    let two : 2 ≤ c = omega (arith, fit.0.long) in
    let three : c ≤ 3 = omega arith in
    let many : top.run.count ≡ k + suc (c - 1) = omega (arith, fit.0.long) in
    let high : content_height (content_of (item made ∷ [])) ≡ suc (content_height (content_of top.stretch)) = node-height (kind_by_width c) start top.stretch in
    let at : top.run.start + k ≡ start = ap (λ n. top.run.start + n) left in
    let before : List Token = tokens_by first openers in
    let opening : List Token = NodeStart (c == 3) start ∷ replicate (c - 1) Fill in
    keeps-as (added (item made ∷ []) (reopened k (first_delimiters k top.run) (outer first openers)))
    (ap (λ n. slice_set (slice_set (tokens_by first (top ∷ openers)) (length before) (Plain top.run.start k)) (length before + k) (NodeStart (c == 3) n) ++ NodeEnd ∷ []) at
    ∙ ap (λ t. t ++ NodeEnd ∷ []) (split-run before (entries_tokens top.stretch) top.run.start top.run.count k (c - 1) (NodeStart (c == 3) start) many)
    ∙ regroup (before ++ left_tokens top.run.start k) opening (entries_tokens top.stretch) (NodeEnd ∷ [])
    ∙ ap (λ t. (before ++ left_tokens top.run.start k) ++ t) (sym (node-tokens c start top.stretch two three)))
    (sym (append-nil (bars_by first openers)))
    (ap (λ n. raised n (openers_by first openers ++ still_open k (left_opener first openers top k))) (sym high))
    (keeps-added (item made ∷ []) (reopened k (first_delimiters k top.run) (outer first openers)) (omega (arith, fit.0.low))
    (keeps-reopened top.run.delimiters top.run.start k (outer first openers) (outer-kept first openers fit.1)))
  where
    regroup : (a b c d : List Token) → ((a ++ b) ++ c) ++ d ≡ a ++ (b ++ (c ++ d))
    regroup a b c d = simp append_assoc

pub node-kept : (first : List Entry) (top : Opener) (openers : List Opener) (closer : Run) (c slot at k start end bars high : ℕ) (three br : Bool)
    {tokens tokens' : List Token} {places places' : List ℕ} {others others' : List KeptOpener}
    → AllByRecursion IsFit (top ∷ openers) → content_height (content_of top.stretch) ≢ most_height → 2 ≤ closer.count
    → tokens ≡ tokens_by first (top ∷ openers) → places ≡ bars_by first (top ∷ openers) → others ≡ openers_by first openers
    → slot ≡ length (tokens_by first openers) → bars ≡ length (bars_by first openers) → br ≡ are_brackets top.run.delimiters
    → c ≡ node_width top.run closer → at ≡ top.run.start → k ≡ top.run.count - c → start ≡ top.run.start + k → end ≡ top.run.start + k → three ≡ (c == 3) → high ≡ suc (content_height (content_of top.stretch))
    → tokens' ≡ slice_set (slice_set tokens slot (Plain at k)) (slot + k) (NodeStart three start) ++ NodeEnd ∷ []
    → places' ≡ take bars places
    → others' ≡ raised high (others ++ still_open k (record { run = record { brackets = br; count = k; end = end }; slot = slot; bars = bars; height = 0 }))
    → Keeps (met_as_node top closer (outer first openers)).seen tokens' places' others'
node-kept first top openers closer c slot at k start end bars high three br {tokens = tokens} {tokens' = tokens'} {places = places} {places' = places'} {others = others} {others' = others'} fit below long t0 p0 o0 es eb er ec ea ek est een e3 eh t p o =
    let base = node-base first top openers closer c k ec ek fit below long in
    let t1 : tokens' ≡ slice_set (slice_set (tokens_by first (top ∷ openers)) (length (tokens_by first openers)) (Plain top.run.start k)) (length (tokens_by first openers) + k) (NodeStart (c == 3) (top.run.start + k)) ++ NodeEnd ∷ [] = cc in
    let cut : take (length (bars_by first openers)) (bars_by first (top ∷ openers)) ≡ bars_by first openers = take_at (bars_by first openers) (bar_places (length (tokens_by first openers ++ run_tokens top.run)) top.stretch) (length (bars_by first openers)) refl in
    let p1 : places' ≡ bars_by first openers = cc in
    let o1 : others' ≡ raised (suc (content_height (content_of top.stretch))) (openers_by first openers ++ still_open k (left_opener first openers top k)) = cc in
    let made = keeps-as (added (item (node (kind_by_width c) (top.run.start + (top.run.count - c)) (content_of top.stretch)) ∷ []) (reopened k (first_delimiters k top.run) (outer first openers))) t1 p1 o1 base in
    subst (λ n. Keeps (added (item (node (kind_by_width n) (top.run.start + (top.run.count - n)) (content_of top.stretch)) ∷ []) (reopened (top.run.count - n) (first_delimiters (top.run.count - n) top.run) (outer first openers))) tokens' places' others') ec
    (subst (λ n. Keeps (added (item (node (kind_by_width c) (top.run.start + (top.run.count - c)) (content_of top.stretch)) ∷ []) (reopened n (first_delimiters n top.run) (outer first openers))) tokens' places' others') ek made)

-- ---- brackets

length-left : (start k : ℕ) → length (left_tokens start k) ≡ k
length-left start zero = refl
length-left start (suc n) = ap suc (length-replicate n Fill)

length-plain : (start n : ℕ) → 1 ≤ n → length (plain_tokens start n) ≡ n
length-plain start zero h = absurd (omega arith)
length-plain start (suc n) h = ap suc (length-replicate n Fill)

pub plain-tokens : (es : List Entry) → entries_tokens (map (λ e. item (plain_entry e)) es) ≡ items_tokens (map plain_entry es)
plain-tokens [] = refl
plain-tokens (e ∷ es) = ap (λ t. item_tokens (plain_entry e) ++ t) (plain-tokens es)

abbrev bracketed : Opener → Run → List Entry
bracketed top closer = item (plain_opening (last_delimiters 2 top.run)) ∷ map (λ e. item (plain_entry e)) top.stretch ++ item (plain_closing (first_delimiters 2 closer)) ∷ []

bracketed-height : (top : Opener) (closer : Run) → content_height (content_of (bracketed top closer)) ≡ content_height (content_of top.stretch)
unfolding content_height height
bracketed-height top closer =
    let es : List Entry = map (λ e. item (plain_entry e)) top.stretch in
    let last : List Entry = item (plain_closing (first_delimiters 2 closer)) ∷ [] in
    let e : content_height (content_of (es ++ last)) ≡ max (content_height (content_of es)) (content_height (content_of last)) = height-append es last in
    let f : content_height (content_of es) ≡ content_height (content_of top.stretch) = height-plain top.stretch in
    omega arith

bracketed-tokens : (top : Opener) (closer : Run) → entries_tokens (bracketed top closer) ≡ (Plain (top.run.start + (top.run.count - 2)) 2 ∷ Fill ∷ []) ++ (items_tokens (map plain_entry top.stretch) ++ Plain closer.start 2 ∷ [])
bracketed-tokens top closer =
    let es : List Entry = map (λ e. item (plain_entry e)) top.stretch in
    let last : List Entry = item (plain_closing (first_delimiters 2 closer)) ∷ [] in
    ap₂ (λ o t. o ++ t) (run-item (last_delimiters 2 top.run))
    (flat_map-append entry_tokens es last
    ∙ ap₂ (λ t c. t ++ c) (plain-tokens top.stretch) (append-nil (item_tokens (plain_closing (first_delimiters 2 closer))) ∙ closing-tokens (first_delimiters 2 closer)))

brackets-base : (first : List Entry) (top : Opener) (openers : List Opener) (closer : Run) (k : ℕ) → k ≡ top.run.count - 2 → AllByRecursion IsFit (top ∷ openers)
    → Keeps (added (bracketed top closer) (reopened k (first_delimiters k top.run) (outer first openers)))
    (plained (bar_places (length (tokens_by first openers ++ run_tokens top.run)) top.stretch) (slice_set (slice_set (tokens_by first (top ∷ openers)) (length (tokens_by first openers)) (Plain top.run.start k)) (length (tokens_by first openers) + k) (Plain (top.run.start + k) 2)) ++ (Plain closer.start 2 ∷ []))
    (bars_by first openers)
    (raised (content_height (content_of top.stretch)) (openers_by first openers ++ still_open k (left_opener first openers top k)))
brackets-base first top openers closer k left fit =
    let before : List Token = tokens_by first openers in
    let stretch : List Token = entries_tokens top.stretch in
    let front : List Token = (before ++ left_tokens top.run.start k) ++ Plain (top.run.start + k) 2 ∷ Fill ∷ [] in
    let many : top.run.count ≡ k + suc 1 = omega (arith, fit.0.long) in
    let n : ℕ = length (before ++ run_tokens top.run) in
    let long : length front ≡ n =
    omega (arith, length-append (before ++ left_tokens top.run.start k) (Plain (top.run.start + k) 2 ∷ Fill ∷ []), length-append before (left_tokens top.run.start k), length-left top.run.start k, length-append before (run_tokens top.run), length-plain top.run.start top.run.count (omega (arith, fit.0.long))) in
    keeps-as (added (bracketed top closer) (reopened k (first_delimiters k top.run) (outer first openers)))
    (ap (λ t. plained (bar_places n top.stretch) t ++ (Plain closer.start 2 ∷ [])) (split-run before stretch top.run.start top.run.count k 1 (Plain (top.run.start + k) 2) many ∙ ap (λ t. front ++ t) (sym (append-nil stretch)))
    ∙ ap (λ t. t ++ (Plain closer.start 2 ∷ [])) (plained-stretch front top.stretch [] n long)
    ∙ regroup (before ++ left_tokens top.run.start k) (Plain (top.run.start + k) 2 ∷ Fill ∷ []) (items_tokens (map plain_entry top.stretch)) ((Plain closer.start 2 ∷ []))
    ∙ ap (λ m. (before ++ left_tokens top.run.start k) ++ ((Plain (top.run.start + m) 2 ∷ Fill ∷ []) ++ (items_tokens (map plain_entry top.stretch) ++ (Plain closer.start 2 ∷ [])))) left
    ∙ ap (λ t. (before ++ left_tokens top.run.start k) ++ t) (sym (bracketed-tokens top closer)))
    (sym (ap (λ t. bars_by first openers ++ t) (bars-none _ top.stretch (plain_closing (first_delimiters 2 closer))) ∙ append-nil (bars_by first openers)))
    (ap (λ h. raised h (openers_by first openers ++ still_open k (left_opener first openers top k))) (sym (bracketed-height top closer)))
    (keeps-added (bracketed top closer) (reopened k (first_delimiters k top.run) (outer first openers)) (omega (arith, bracketed-height top closer, fit.0.low))
    (keeps-reopened top.run.delimiters top.run.start k (outer first openers) (outer-kept first openers fit.1)))
  where
    regroup : (a b c d : List Token) → ((a ++ b) ++ (c ++ [])) ++ d ≡ a ++ (b ++ (c ++ d))
    regroup a b c d = simp (append_assoc, append-nil)

pub brackets-kept : (first : List Entry) (top : Opener) (openers : List Opener) (closer : Run) (slot at k start end bars high behind : ℕ) (br : Bool)
    {tokens tokens' : List Token} {places places' : List ℕ} {others others' : List KeptOpener}
    → AllByRecursion IsFit (top ∷ openers)
    → tokens ≡ tokens_by first (top ∷ openers) → places ≡ bars_by first (top ∷ openers) → others ≡ openers_by first openers
    → slot ≡ length (tokens_by first openers) → bars ≡ length (bars_by first openers) → br ≡ are_brackets top.run.delimiters
    → at ≡ top.run.start → k ≡ top.run.count - 2 → start ≡ top.run.start + k → end ≡ top.run.start + k → high ≡ content_height (content_of top.stretch) → behind ≡ closer.start
    → tokens' ≡ plained (drop bars places) (slice_set (slice_set tokens slot (Plain at k)) (slot + k) (Plain start 2)) ++ Plain behind 2 ∷ []
    → places' ≡ take bars places
    → others' ≡ raised high (others ++ still_open k (record { run = record { brackets = br; count = k; end = end }; slot = slot; bars = bars; height = 0 }))
    → Keeps (met_as_brackets top closer (outer first openers)).seen tokens' places' others'
brackets-kept first top openers closer slot at k start end bars high behind br {tokens = tokens} {tokens' = tokens'} {places = places} {places' = places'} {others = others} {others' = others'} fit t0 p0 o0 es eb er ea ek est een eh ebe t p o =
    let base = brackets-base first top openers closer k ek fit in
    let mine : List ℕ = bar_places (length (tokens_by first openers ++ run_tokens top.run)) top.stretch in
    let rest : drop (length (bars_by first openers)) (bars_by first (top ∷ openers)) ≡ mine = drop_at (bars_by first openers) mine (length (bars_by first openers)) refl in
    let cut : take (length (bars_by first openers)) (bars_by first (top ∷ openers)) ≡ bars_by first openers = take_at (bars_by first openers) mine (length (bars_by first openers)) refl in
    let t1 : tokens' ≡ plained mine (slice_set (slice_set (tokens_by first (top ∷ openers)) (length (tokens_by first openers)) (Plain top.run.start k)) (length (tokens_by first openers) + k) (Plain (top.run.start + k) 2)) ++ (Plain closer.start 2 ∷ []) = cc in
    let p1 : places' ≡ bars_by first openers = cc in
    let o1 : others' ≡ raised (content_height (content_of top.stretch)) (openers_by first openers ++ still_open k (left_opener first openers top k)) = cc in
    subst (λ n. Keeps (added (bracketed top closer) (reopened n (first_delimiters n top.run) (outer first openers))) tokens' places' others') ek
    (keeps-as (added (bracketed top closer) (reopened k (first_delimiters k top.run) (outer first openers))) t1 p1 o1 base)

-- ---- which way

pub way-met : (m : Delimiter) (b : Bool) (opener : Opener) (closer : Run) (behind seen : PassState) → met_by_delimiters m (delimiters_by b) opener closer behind seen ≡ met_by_way (way_of (are_brackets m) b (content_height (content_of opener.stretch))) opener closer behind seen
way-met braces true opener closer behind seen = refl
way-met brackets false opener closer behind seen = refl
way-met brackets true opener closer behind seen = refl
way-met braces false opener closer behind seen =
    elim (content_height (content_of opener.stretch) == most_height) as (λ t. (if t then met_as_plain closer seen else met_as_node opener closer behind) ≡ met_by_way (if t then Way.Plain else Way.Node) opener closer behind seen) [
      | true ↦ refl
      | false ↦ refl
    ]

-- the last opener is taken
pub record Pops (first : List Entry) (all : List Opener) (opener : KeptOpener) (left : List KeptOpener) : Type 0 where
  pub top : Opener
  pub openers : List Opener
  pub is : all ≡ top ∷ openers
  pub opener_is : opener ≡ opener_behind first openers top
  pub openers_are : left ≡ openers_by first openers

pub pops : (first : List Entry) (all : List Opener) (opener : KeptOpener) (left : List KeptOpener) → openers_by first all ≡ left ++ opener ∷ [] → Pops first all opener left
pops first [] opener left e = absurd (none left e)
  where
    none : (left : List KeptOpener) → [] ≡ left ++ opener ∷ [] → ⊥
    none [] e = cc
    none (x ∷ left) e = cc
pops first (top ∷ openers) opener left e =
    let same = same_from_push (openers_by first openers) left (opener_behind first openers top) opener e in
    record { top = top; openers = openers; is = refl; opener_is = sym same.1; openers_are = sym same.0 }

-- the tokens of the last opener's run begin within the tokens
pub slot-within : (first : List Entry) (top : Opener) (openers : List Opener) → 2 ≤ top.run.count → length (tokens_by first openers) < length (tokens_by first (top ∷ openers))
slot-within first top openers long =
    omega (arith, length-append (tokens_by first openers) (run_tokens top.run ++ entries_tokens top.stretch), length-append (run_tokens top.run) (entries_tokens top.stretch), length-plain top.run.start top.run.count (omega arith))

-- what is left of a closing run
pub rest-is : (run : OpenRun) (n m : ℕ) → n ≡ m → m ≤ run.count → run.count ≤ run.end → as_run (record { brackets = run.brackets; count = n; end = run.end }) ≡ last_delimiters m (as_run run)
rest-is run n m e few fits =
    let at : run.end - n ≡ (run.end - run.count) + (run.count - m) = omega arith in
    ap₂ (λ s k. record { delimiters = delimiters_by run.brackets; start = s; count = k }) at e

pub way-node : (a b : Bool) (h high : ℕ) → h ≡ high → way_of a b h ≡ Way.Node → high ≢ most_height
way-node true true h high e way = absurd (cc)
way-node true false h high e way = absurd (cc)
way-node false true h high e way = absurd (cc)
way-node false false h high e way = by_test (h == most_height) refl way
  where
    by_test : (t : Bool) → (h == most_height) ≡ t → (if t then Way.Plain else Way.Node) ≡ Way.Node → high ≢ most_height
    by_test true f g = absurd (cc)
    by_test false f g = λ same. eqb-false h most_height f (e ∙ same)

-- a closing run meets what was seen by the way that its last opener has
pub meets-by-way : (run : OpenRun) (first : List Entry) (all : List Opener) (top : Opener) (openers : List Opener) (w : _) (m : Matching) (left : OpenRun) → all ≡ top ∷ openers → way_of (are_brackets top.run.delimiters) run.brackets (content_height (content_of top.stretch)) ≡ w
    → MeetsAs (met_by_way w top (as_run run) (outer first openers) (outer first (top ∷ openers))) m left → MeetsAs (met (as_run run) (outer first all)) m left
meets-by-way run first all top openers w m left is way h =
    subst (λ l. MeetsAs (met (as_run run) (outer first l)) m left) (sym is)
    (subst (λ x. MeetsAs x m left) (sym (way-met top.run.delimiters run.brackets top (as_run run) (outer first openers) (outer first (top ∷ openers)) ∙ ap (λ v. met_by_way v top (as_run run) (outer first openers) (outer first (top ∷ openers))) way)) h)

pub no-openers : (first : List Entry) (all : List Opener) → openers_by first all ≡ [] → all ≡ []
no-openers first [] e = refl
no-openers first (top ∷ openers) e = absurd (omega (arith, ap length e, length_push (openers_by first openers) (opener_behind first openers top)))

-- ---- a closing run, met again and again

pub resumed-long : (n : ℕ) (m : Met) (again : PassState) → 2 ≤ n → resumed n m again ≡ again
resumed-long zero m again h = absurd (omega arith)
resumed-long (suc zero) m again h = absurd (omega arith)
resumed-long (suc (suc n)) m again h = refl

closed-more : (n k : ℕ) (closer : Run) (seen : PassState) → n ≡ suc k → closed n closer seen ≡ resumed (met closer seen).rest.count (met closer seen) (closed k (met closer seen).rest (met closer seen).seen)
unfolding closed
closed-more zero k closer seen e = absurd (omega arith)
closed-more (suc n) k closer seen e =
    let same : n ≡ k = omega arith in
    ap (λ j. resumed (met closer seen).rest.count (met closer seen) (closed j (met closer seen).rest (met closer seen).seen)) same

closed-none : (n : ℕ) (closer : Run) (seen : PassState) → n ≡ 0 → closed n closer seen ≡ seen
unfolding closed
closed-none zero closer seen e = refl
closed-none (suc n) closer seen e = absurd (omega arith)

-- it begins
pub closing-begins : (run : OpenRun) (m : Matching) (seen : PassState) (n : ℕ) → n ≡ run.count → IsKept seen m → 2 ≤ run.count → run.count ≤ run.end → IsClosing run m n (closed run.count (as_run run) seen)
closing-begins run m seen n e k long fits = record {
  seen = seen;
  keeps = k;
  fits = fits;
  same = resumed-long run.count (record { seen = seen; rest = as_run run }) (closed n (as_run run) seen) long ∙ ap (λ j. closed j (as_run run) seen) e;
}

-- it goes on
pub closing-more : (left next : OpenRun) (m m' : Matching) (n k : ℕ) (end : PassState) → n ≡ suc k → 2 ≤ left.count → IsClosing left m n end
    → ((seen : PassState) → IsKept seen m → left.count ≤ left.end → MeetsAs (met (as_run left) seen) m' next) → IsClosing next m' k end
closing-more left next m m' n k end e long c meets =
    let now = meets c.seen c.keeps c.fits in
    let was : closed n (as_run left) c.seen ≡ end = sym (resumed-long left.count (record { seen = c.seen; rest = as_run left }) (closed n (as_run left) c.seen) long) ∙ c.same in
    let seen : PassState = (met (as_run left) c.seen).seen in
    record {
      seen = seen;
      keeps = now.keeps;
      fits = now.fits;
      same =
          ap (λ (r : Run). resumed r.count (record { seen = seen; rest = r }) (closed k r seen)) now.left_is
          ∙ sym (closed-more n k (as_run left) c.seen e) ∙ was;
    }

-- it ends with one delimiter
pub closing-one : (left : OpenRun) (m : Matching) (n start : ℕ) (end : PassState) {tokens : List Token} → left.count ≡ 1 → start ≡ left.end - 1 → tokens ≡ m.tokens.items ++ Plain start 1 ∷ [] → IsClosing left m n end → Keeps end tokens m.bars.items m.openers.items
closing-one left m n start end {tokens = tokens} one at t c =
    let s : start ≡ left.end - left.count = at ∙ ap (λ j. left.end - j) (sym one) in
    let e : added (item (plain_closing (as_run left)) ∷ []) c.seen ≡ end =
    sym (ap (λ j. resumed j (record { seen = c.seen; rest = as_run left }) (closed n (as_run left) c.seen)) one) ∙ c.same in
    subst (λ x. Keeps x tokens m.bars.items m.openers.items) e (closing-kept (as_run left) c.seen start 1 s (sym one) t c.keeps)

-- it ends with none
pub closing-none : (left : OpenRun) (m : Matching) (n : ℕ) (end : PassState) → left.count ≢ 1 → (2 ≤ left.count → n ≡ 0) → IsClosing left m n end → IsKept end m
closing-none left m n end more e c = subst (λ x. IsKept x m) (sym (by_count left.count refl) ∙ c.same) c.keeps
  where
    by_count : (j : ℕ) → left.count ≡ j → resumed j (record { seen = c.seen; rest = as_run left }) (closed n (as_run left) c.seen) ≡ c.seen
    by_count zero f = refl
    by_count (suc zero) f = absurd (more f)
    by_count (suc (suc j)) f = closed-none n (as_run left) c.seen (e (omega (arith, f)))

-- ---- a closing run and the last opener, which is taken

pub popped : (seen : PassState) (opener : KeptOpener) (m m' : Matching) (p : Pops seen.first seen.openers opener m'.openers.items) → IsKept seen m → m'.tokens.items ≡ m.tokens.items → m'.bars.items ≡ m.bars.items → IsPopped seen.first p.top p.openers opener m'
popped seen opener m m' p k t b = record {
  opener_is = p.opener_is;
  tokens_are = t ∙ k.tokens_are ∙ ap (tokens_by seen.first) p.is;
  bars_are = b ∙ k.bars_are ∙ ap (bars_by seen.first) p.is;
  openers_are = p.openers_are;
  fit = subst (AllByRecursion IsFit) p.is k.fit;
}

pub way-at : (run : OpenRun) (first : List Entry) (all : List Opener) (opener : KeptOpener) (left : List KeptOpener) (p : Pops first all opener left) (w : _) → way_of opener.run.brackets run.brackets opener.height ≡ w → way_of (are_brackets p.top.run.delimiters) run.brackets (content_height (content_of p.top.stretch)) ≡ w
way-at run first all opener left p w e = sym (ap (λ (l : KeptOpener). way_of l.run.brackets run.brackets l.height) p.opener_is) ∙ e

-- the opener is put back
pub kept-back : (seen : PassState) (opener : KeptOpener) (left : List KeptOpener) (m m' : Matching) (p : Pops seen.first seen.openers opener left) → IsKept seen m → m'.tokens.items ≡ m.tokens.items → m'.bars.items ≡ m.bars.items → m'.openers.items ≡ m.openers.items → IsKept (outer seen.first (p.top ∷ p.openers)) m'
kept-back seen opener left m m' p k t b l = record {
  tokens_are = t ∙ k.tokens_are ∙ ap (tokens_by seen.first) p.is;
  bars_are = b ∙ k.bars_are ∙ ap (bars_by seen.first) p.is;
  openers_are = l ∙ k.openers_are ∙ ap (openers_by seen.first) p.is;
  fit = subst (AllByRecursion IsFit) p.is k.fit;
}

-- no opener is there
pub kept-none : (seen : PassState) (m m' : Matching) → IsKept seen m → m.openers.items ≡ [] → m'.tokens.items ≡ m.tokens.items → m'.bars.items ≡ m.bars.items → m'.openers.items ≡ [] → IsKept (outer seen.first []) m'
kept-none seen m m' k none t b l =
    let is : seen.openers ≡ [] = no-openers seen.first seen.openers (sym k.openers_are ∙ none) in
    record {
      tokens_are = t ∙ k.tokens_are ∙ ap (tokens_by seen.first) is;
      bars_are = b ∙ k.bars_are ∙ ap (bars_by seen.first) is;
      openers_are = l;
      fit = tt;
    }

pub meets-none : (run : OpenRun) (seen : PassState) (m m' : Matching) (left : OpenRun) → IsKept seen m → m.openers.items ≡ [] → MeetsAs (met_as_plain (as_run run) (outer seen.first [])) m' left → MeetsAs (met (as_run run) seen) m' left
meets-none run seen m m' left k none h =
    subst (λ l. MeetsAs (met (as_run run) (outer seen.first l)) m' left) (sym (no-openers seen.first seen.openers (sym k.openers_are ∙ none))) h
