-- What the matching keeps, one operation after another.
use Rattle.std.proofs.Common.{◌≡◌, ℕ, zero, suc, ◌+◌, ◌-◌, ◌<◌, ◌≤◌, max, List, [], ◌∷◌, ◌++◌, length, map, replicate, refl, ap, ap₂, sym, ◌∙◌, arith, take, drop, append_assoc, append-nil, length-append}
use Rattle.std.proofs.lemmas.List.{length-replicate, get_or_read, map-append, set_past, take-append-le, drop-append-le, set_at, get_or_at, length_push}
use Rattle.std.proofs.lemmas.List.Concat.{flat_map-append}
use Rattle.std.specs.List.{AllByRecursion}
use Rattle.std.specs.Prelude.{slice_set, slice_index_or}
use Rattle.wk_tree.specs.Matching.{are_brackets, of_run, run_tokens, bar_places, plain_token, plain_at, plained, raised, tokens_by, bars_by, opener_behind, openers_by, IsFit, Keeps, left_tokens, still_open}
use Rattle.wk_tree.specs.Tokens.{plain_tokens, text_tokens, item_tokens, content_tokens, entry_tokens, entries_tokens, items_tokens}
use Rattle.wk_tree.specs.declared.matching.Opener.{Opener as KeptOpener}
use Rattle.wk_tree.specs.declared.token.Token.{Token}
use Rattle.wk_tree.specs.declared.token.Token.TheVariants.{Plain, Bar, Equals, Fill}
use Rattle.wk_tree_laws.specs.OnePass.{Opener, PassState, pieces_by, added_by, added, opened, reopened}
use Rattle.wk_tree_rules.specs.Reduction.{Delimiter, braces, brackets, Run, Piece, entry, opening, opening_delimiter, plain_opening, most_height}
use Rattle.wk_tree_rules.specs.Tree.{item_of}
use Rattle.wk_tree_rules.specs.Trees.{Item, Entry, item, bar, equals, content_of, content_height, height, plain_entry}

-- ---- heights

pub height-append : (xs ys : List Entry) → content_height (content_of (xs ++ ys)) ≡ max (content_height (content_of xs)) (content_height (content_of ys))
unfolding content_height
height-append [] ys = omega arith
height-append (item i ∷ xs) ys = let later = height-append xs ys in omega arith
height-append (bar start ∷ xs) ys = height-append xs ys
height-append (equals start ∷ xs) ys = height-append xs ys

pub height-plain : (es : List Entry) → content_height (content_of (map (λ e. item (plain_entry e)) es)) ≡ content_height (content_of es)
unfolding content_height height
height-plain [] = refl
height-plain (item i ∷ es) = ap (λ n. max (height i) n) (height-plain es)
height-plain (bar start ∷ es) = let later = height-plain es in omega arith
height-plain (equals start ∷ es) = let later = height-plain es in omega arith

-- ---- tokens

pub content-tokens : (es : List Entry) → content_tokens (content_of es) ≡ entries_tokens es
unfolding content_tokens
content-tokens [] = refl
content-tokens (item i ∷ es) = ap (λ t. item_tokens i ++ t) (content-tokens es)
content-tokens (bar start ∷ es) = ap (λ t. Bar start ∷ t) (content-tokens es)
content-tokens (equals start ∷ es) = ap (λ t. Equals start ∷ t) (content-tokens es)

tokens-added : (parts first : List Entry) (openers : List Opener) → tokens_by (added_by parts first openers).first (added_by parts first openers).openers ≡ tokens_by first openers ++ entries_tokens parts
tokens-added parts first [] = flat_map-append entry_tokens first parts
tokens-added parts first (opener ∷ openers) =
    ap (λ t. tokens_by first openers ++ (run_tokens opener.run ++ t)) (flat_map-append entry_tokens opener.stretch parts)
    ∙ regroup (tokens_by first openers) (run_tokens opener.run) (entries_tokens opener.stretch) (entries_tokens parts)
  where
    regroup : (a b c d : List Token) → a ++ (b ++ (c ++ d)) ≡ (a ++ (b ++ c)) ++ d
    regroup a b c d = simp append_assoc

-- ---- bars

pub bar_places-append : (at : ℕ) (xs ys : List Entry) → bar_places at (xs ++ ys) ≡ bar_places at xs ++ bar_places (at + length (entries_tokens xs)) ys
bar_places-append at [] ys = ap (λ n. bar_places n ys) (omega arith)
bar_places-append at (item i ∷ xs) ys =
    bar_places-append (at + length (item_tokens i)) xs ys
    ∙ ap (λ n. bar_places (at + length (item_tokens i)) xs ++ bar_places n ys) (omega (arith, length-append (item_tokens i) (entries_tokens xs)))
bar_places-append at (bar start ∷ xs) ys =
    ap (λ t. at ∷ t) (bar_places-append (at + 1) xs ys ∙ ap (λ n. bar_places (at + 1) xs ++ bar_places n ys) (omega arith))
bar_places-append at (equals start ∷ xs) ys =
    ap (λ t. at ∷ t) (bar_places-append (at + 1) xs ys ∙ ap (λ n. bar_places (at + 1) xs ++ bar_places n ys) (omega arith))

bars-added : (parts first : List Entry) (openers : List Opener) → bars_by (added_by parts first openers).first (added_by parts first openers).openers ≡ bars_by first openers ++ bar_places (length (tokens_by first openers)) parts
bars-added parts first [] = bar_places-append 0 first parts ∙ ap (λ n. bar_places 0 first ++ bar_places n parts) (omega arith)
bars-added parts first (opener ∷ openers) =
    let before = tokens_by first openers in
    let run = run_tokens opener.run in
    let stretch = entries_tokens opener.stretch in
    let long : length (before ++ run) + length stretch ≡ length (before ++ (run ++ stretch)) =
    omega (arith, length-append before run, length-append before (run ++ stretch), length-append run stretch) in
    ap (λ t. bars_by first openers ++ t) (bar_places-append (length (before ++ run)) opener.stretch parts)
    ∙ sym (append_assoc (bars_by first openers) (bar_places (length (before ++ run)) opener.stretch) (bar_places (length (before ++ run) + length stretch) parts))
    ∙ ap (λ n. (bars_by first openers ++ bar_places (length (before ++ run)) opener.stretch) ++ bar_places n parts) long

-- no bar stands among items
pub bars-none : (at : ℕ) (es : List Entry) (i : Item) → bar_places at (map (λ e. item (plain_entry e)) es ++ item i ∷ []) ≡ []
bars-none at [] i = refl
bars-none at (e ∷ es) i = bars-none (at + length (item_tokens (plain_entry e))) es i

-- ---- openers

pub raised-push : (h : ℕ) (openers : List KeptOpener) (opener : KeptOpener) → raised h (openers ++ opener ∷ []) ≡ openers ++ record opener { height = max opener.height h } ∷ []
raised-push h [] opener = refl
raised-push h (a ∷ []) opener = refl
raised-push h (a ∷ b ∷ openers) opener = ap (λ t. a ∷ t) (raised-push h (b ∷ openers) opener)

pub raised-zero : (openers : List KeptOpener) → raised 0 openers ≡ openers
raised-zero [] = refl
raised-zero (opener ∷ []) =
    let e : max opener.height 0 ≡ opener.height = omega arith in
    ap (λ n. record opener { height = n } ∷ []) e
raised-zero (a ∷ b ∷ openers) = ap (λ t. a ∷ t) (raised-zero (b ∷ openers))

openers-added : (parts first : List Entry) (openers : List Opener) → openers_by (added_by parts first openers).first (added_by parts first openers).openers ≡ raised (content_height (content_of parts)) (openers_by first openers)
openers-added parts first [] = refl
openers-added parts first (opener ∷ openers) =
    ap (λ n. openers_by first openers ++ record (opener_behind first openers opener) { height = n } ∷ []) (height-append opener.stretch parts)
    ∙ sym (raised-push (content_height (content_of parts)) (openers_by first openers) (opener_behind first openers opener))

fit-added : (parts first : List Entry) (openers : List Opener) → content_height (content_of parts) ≤ most_height → AllByRecursion IsFit openers → AllByRecursion IsFit (added_by parts first openers).openers
fit-added parts first [] low fit = tt
fit-added parts first (opener ∷ openers) low fit =
    (record { long = fit.0.long; low = omega (arith, height-append opener.stretch parts, fit.0.low) }, fit.1)

-- ---- what is kept

-- entries behind what was seen
pub keeps-added : (parts : List Entry) (seen : PassState) {tokens : List Token} {bars : List ℕ} {openers : List KeptOpener} → content_height (content_of parts) ≤ most_height → Keeps seen tokens bars openers
    → Keeps (added parts seen) (tokens ++ entries_tokens parts) (bars ++ bar_places (length tokens) parts) (raised (content_height (content_of parts)) openers)
keeps-added parts seen {tokens = tokens} {bars = bars} {openers = openers} low k = record {
  tokens_are = ap (λ t. t ++ entries_tokens parts) k.tokens_are ∙ sym (tokens-added parts seen.first seen.openers);
  bars_are = ap₂ (λ b t. b ++ bar_places (length t) parts) k.bars_are k.tokens_are ∙ sym (bars-added parts seen.first seen.openers);
  openers_are = ap (raised (content_height (content_of parts))) k.openers_are ∙ sym (openers-added parts seen.first seen.openers);
  fit = fit-added parts seen.first seen.openers low k.fit;
}

-- the same for one list in the place of an equal one
pub keeps-as : (seen : PassState) {tokens tokens' : List Token} {bars bars' : List ℕ} {openers openers' : List KeptOpener} → tokens' ≡ tokens → bars' ≡ bars → openers' ≡ openers → Keeps seen tokens bars openers → Keeps seen tokens' bars' openers'
keeps-as seen t b l k = record { tokens_are = t ∙ k.tokens_are; bars_are = b ∙ k.bars_are; openers_are = l ∙ k.openers_are; fit = k.fit }

-- an opening run behind what was seen
pub keeps-opened : (run : Run) (seen : PassState) {tokens : List Token} {bars : List ℕ} {openers : List KeptOpener} → 2 ≤ run.count → Keeps seen tokens bars openers
    → Keeps (opened run seen) (tokens ++ run_tokens run) bars (openers ++ record { run = of_run run; slot = length tokens; bars = length bars; height = 0 } ∷ [])
unfolding content_height
keeps-opened run seen {tokens = tokens} {bars = bars} {openers = openers} long k = record {
  tokens_are = ap₂ (λ t r. t ++ r) k.tokens_are (sym (append-nil (run_tokens run)));
  bars_are = k.bars_are ∙ sym (append-nil (bars_by seen.first seen.openers));
  openers_are =
      ap₂ (λ l (n : ℕ × ℕ). l ++ record { run = of_run run; slot = n.0; bars = n.1; height = 0 } ∷ []) k.openers_are
      (ap₂ (λ t b. (length t, length b)) k.tokens_are k.bars_are);
  fit = (record { long = long; low = omega arith }, k.fit);
}

keeps-one : (delimiters : Delimiter) (start : ℕ) (seen : PassState) {tokens : List Token} {bars : List ℕ} {openers : List KeptOpener} → Keeps seen tokens bars openers
    → Keeps (added (item (plain_opening (record { delimiters = delimiters; start = start; count = 1 })) ∷ []) seen) (tokens ++ plain_tokens start 1) (bars ++ []) (raised 0 openers)
unfolding content_height height item_tokens
keeps-one braces start seen k = keeps-added (item (plain_opening (record { delimiters = braces; start = start; count = 1 })) ∷ []) seen (omega arith) k
keeps-one brackets start seen k = keeps-added (item (plain_opening (record { delimiters = brackets; start = start; count = 1 })) ∷ []) seen (omega arith) k

-- what is left of an opening run behind what was seen
pub keeps-reopened : (delimiters : Delimiter) (start count : ℕ) (seen : PassState) {tokens : List Token} {bars : List ℕ} {openers : List KeptOpener} → Keeps seen tokens bars openers
    → Keeps (reopened count (record { delimiters = delimiters; start = start; count = count }) seen) (tokens ++ left_tokens start count) bars
    (openers ++ still_open count (record { run = record { brackets = are_brackets delimiters; count = count; end = start + count }; slot = length tokens; bars = length bars; height = 0 }))
keeps-reopened delimiters start zero seen {tokens = tokens} {bars = bars} {openers = openers} k = keeps-as seen (append-nil tokens) refl (append-nil openers) k
keeps-reopened delimiters start (suc zero) seen {tokens = tokens} {bars = bars} {openers = openers} k =
    keeps-as (added (item (plain_opening (record { delimiters = delimiters; start = start; count = 1 })) ∷ []) seen)
    refl (sym (append-nil bars)) (append-nil openers ∙ sym (raised-zero openers))
    (keeps-one delimiters start seen k)
keeps-reopened delimiters start (suc (suc n)) seen {tokens = tokens} {bars = bars} {openers = openers} k = keeps-opened (record { delimiters = delimiters; start = start; count = suc (suc n) }) seen (omega arith) k

-- ---- a run's tokens where some of its delimiters are matched

replicate-split : (k r : ℕ) (x : Token) → replicate (k + suc r) x ≡ replicate k x ++ x ∷ replicate r x
replicate-split zero r x = let e : 0 + suc r ≡ suc r = omega arith in ap (λ n. replicate n x) e
replicate-split (suc k) r x =
    let e : suc k + suc r ≡ suc (k + suc r) = omega arith in
    ap (λ n. replicate n x) e ∙ ap (λ t. x ∷ t) (replicate-split k r x)

split-at : (t e : List Token) (start m k r : ℕ) (x : Token) → m ≡ k + suc r → slice_set (t ++ Plain start k ∷ (replicate (k + r) Fill ++ e)) (length t + k) x ≡ ((t ++ left_tokens start k) ++ x ∷ replicate r Fill) ++ e
split-at t e start m zero r x h =
    let z : 0 + r ≡ r = omega arith in
    ap (λ n. slice_set (t ++ Plain start 0 ∷ (replicate n Fill ++ e)) (length t + 0) x) z
    ∙ set_at t (Plain start 0) (replicate r Fill ++ e) x (length t + 0) (omega arith)
    ∙ regroup t x (replicate r Fill) e
  where
    regroup : (a : List Token) (x : Token) (b c : List Token) → a ++ x ∷ (b ++ c) ≡ ((a ++ []) ++ x ∷ b) ++ c
    regroup a x b c = simp (append-nil, append_assoc)
split-at t e start m (suc j) r x h =
    let n : suc j + r ≡ j + suc r = omega arith in
    let front : List Token = t ++ Plain start (suc j) ∷ replicate j Fill in
    let long : length front ≡ length t + suc j = length-append t (Plain start (suc j) ∷ replicate j Fill) ∙ ap (λ n. length t + suc n) (length-replicate j Fill) in
    ap (λ n. slice_set (t ++ Plain start (suc j) ∷ (replicate n Fill ++ e)) (length t + suc j) x) n
    ∙ ap (λ u. slice_set (t ++ Plain start (suc j) ∷ (u ++ e)) (length t + suc j) x) (replicate-split j r Fill)
    ∙ ap (λ u. slice_set u (length t + suc j) x) (regroup t (Plain start (suc j)) (replicate j Fill) Fill (replicate r Fill) e)
    ∙ set_at front Fill (replicate r Fill ++ e) x (length t + suc j) long
    ∙ sym (append_assoc front (x ∷ replicate r Fill) e)
  where
    regroup : (a : List Token) (p : Token) (b : List Token) (f : Token) (c d : List Token) → a ++ p ∷ ((b ++ f ∷ c) ++ d) ≡ (a ++ p ∷ b) ++ f ∷ (c ++ d)
    regroup a p b f c d = simp append_assoc

pub split-run : (t e : List Token) (start m k r : ℕ) (x : Token) → m ≡ k + suc r → slice_set (slice_set (t ++ (plain_tokens start m ++ e)) (length t) (Plain start k)) (length t + k) x ≡ ((t ++ left_tokens start k) ++ x ∷ replicate r Fill) ++ e
split-run t e start zero k r x h = absurd (omega arith)
split-run t e start (suc n) k r x h =
    let same : n ≡ k + r = omega arith in
    ap (λ u. slice_set u (length t + k) x) (set_at t (Plain start (suc n)) (replicate n Fill ++ e) (Plain start k) (length t) refl)
    ∙ ap (λ n. slice_set (t ++ Plain start k ∷ (replicate n Fill ++ e)) (length t + k) x) same
    ∙ split-at t e start (suc n) k r x h

-- ---- bars that become plain

plain-one : (a : List Token) (x : Token) (b : List Token) (n : ℕ) → length a ≡ n → plain_at (a ++ x ∷ b) n ≡ a ++ plain_token x ∷ b
plain-one a x b n e = ap (λ y. slice_set (a ++ x ∷ b) n (plain_token y)) (get_or_at a x b Fill n e) ∙ set_at a x b (plain_token x) n e

pub plained-stretch : (a : List Token) (es : List Entry) (more : List Token) (n : ℕ) → length a ≡ n → plained (bar_places n es) (a ++ (entries_tokens es ++ more)) ≡ a ++ (items_tokens (map plain_entry es) ++ more)
unfolding item_tokens
plained-stretch a [] more n e = refl
plained-stretch a (item i ∷ es) more n e =
    let long : length (a ++ item_tokens i) ≡ n + length (item_tokens i) = omega (arith, length-append a (item_tokens i)) in
    ap (plained (bar_places (n + length (item_tokens i)) es)) (regroup a (item_tokens i) (entries_tokens es) more)
    ∙ plained-stretch (a ++ item_tokens i) es more (n + length (item_tokens i)) long
    ∙ sym (regroup a (item_tokens i) (items_tokens (map plain_entry es)) more)
  where
    regroup : (a b c d : List Token) → a ++ ((b ++ c) ++ d) ≡ (a ++ b) ++ (c ++ d)
    regroup a b c d = simp append_assoc
plained-stretch a (bar start ∷ es) more n e =
    let long : length (a ++ Bar start ∷ []) ≡ n + 1 = length_push a (Bar start) ∙ ap (λ n. n + 1) e in
    ap (λ t. plain_at (plained (bar_places (n + 1) es) t) n) (sym (append_assoc a (Bar start ∷ []) (entries_tokens es ++ more)))
    ∙ ap (λ t. plain_at t n) (plained-stretch (a ++ Bar start ∷ []) es more (n + 1) long ∙ append_assoc a (Bar start ∷ []) (items_tokens (map plain_entry es) ++ more))
    ∙ plain-one a (Bar start) (items_tokens (map plain_entry es) ++ more) n e
plained-stretch a (equals start ∷ es) more n e =
    let long : length (a ++ Equals start ∷ []) ≡ n + 1 = length_push a (Equals start) ∙ ap (λ n. n + 1) e in
    ap (λ t. plain_at (plained (bar_places (n + 1) es) t) n) (sym (append_assoc a (Equals start ∷ []) (entries_tokens es ++ more)))
    ∙ ap (λ t. plain_at t n) (plained-stretch (a ++ Equals start ∷ []) es more (n + 1) long ∙ append_assoc a (Equals start ∷ []) (items_tokens (map plain_entry es) ++ more))
    ∙ plain-one a (Equals start) (items_tokens (map plain_entry es) ++ more) n e

pub plained-append : (xs ys : List ℕ) (tokens : List Token) → plained (xs ++ ys) tokens ≡ plained xs (plained ys tokens)
plained-append [] ys tokens = refl
plained-append (x ∷ xs) ys tokens = ap (λ t. plain_at t x) (plained-append xs ys tokens)

pub items-entries : (es : List Entry) → items_tokens (map plain_entry es) ≡ items_tokens (map item_of (map entry es))
items-entries [] = refl
items-entries (e ∷ es) = ap (λ t. item_tokens (plain_entry e) ++ t) (items-entries es)

pub items-append : (xs ys : List Piece) → items_tokens (map item_of (xs ++ ys)) ≡ items_tokens (map item_of xs) ++ items_tokens (map item_of ys)
items-append xs ys = ap items_tokens (map-append item_of xs ys) ∙ flat_map-append item_tokens (map item_of xs) (map item_of ys)

opening-tokens : (delimiters : Delimiter) (start count : ℕ) → text_tokens start (replicate count (opening_delimiter delimiters)) ≡ plain_tokens start count
opening-tokens braces start zero = refl
opening-tokens brackets start zero = refl
opening-tokens braces start (suc n) = ap (λ k. Plain start (suc k) ∷ replicate k Fill) (length-replicate n 123)
opening-tokens brackets start (suc n) = ap (λ k. Plain start (suc k) ∷ replicate k Fill) (length-replicate n 91)

pub run-item : (run : Run) → item_tokens (plain_opening run) ≡ run_tokens run
unfolding item_tokens
run-item run = opening-tokens run.delimiters run.start run.count

behind : (first : List Entry) (opener : Opener) (openers : List Opener) (more : List Token) → items_tokens (map item_of (pieces_by first openers)) ++ (run_tokens opener.run ++ (items_tokens (map item_of (map entry opener.stretch)) ++ more)) ≡ items_tokens (map item_of (pieces_by first (opener ∷ openers))) ++ more
behind first opener openers more =
    let outer : List Token = items_tokens (map item_of (pieces_by first openers)) in
    let stretch : List Token = items_tokens (map item_of (map entry opener.stretch)) in
    ap (λ r. outer ++ (r ++ (stretch ++ more))) (sym (run-item opener.run))
    ∙ regroup outer (item_tokens (plain_opening opener.run)) stretch more
    ∙ ap (λ t. t ++ more) (sym (items-append (pieces_by first openers) (opening opener.run ∷ map entry opener.stretch)))
  where
    regroup : (a b c d : List Token) → a ++ (b ++ (c ++ d)) ≡ (a ++ (b ++ c)) ++ d
    regroup a b c d = simp append_assoc

-- at the end all bars are plain
pub plained-all : (first : List Entry) (openers : List Opener) (more : List Token) → plained (bars_by first openers) (tokens_by first openers ++ more) ≡ items_tokens (map item_of (pieces_by first openers)) ++ more
plained-all first [] more = plained-stretch [] first more 0 refl ∙ ap (λ t. t ++ more) (items-entries first)
plained-all first (opener ∷ openers) more =
    let before : List Token = tokens_by first openers in
    let run : List Token = run_tokens opener.run in
    let stretch : List Token = entries_tokens opener.stretch in
    let plain : List Token = items_tokens (map plain_entry opener.stretch) in
    plained-append (bars_by first openers) (bar_places (length (before ++ run)) opener.stretch) ((before ++ (run ++ stretch)) ++ more)
    ∙ ap (λ t. plained (bars_by first openers) (plained (bar_places (length (before ++ run)) opener.stretch) t)) (regroup before run stretch more)
    ∙ ap (plained (bars_by first openers)) (plained-stretch (before ++ run) opener.stretch more (length (before ++ run)) refl ∙ append_assoc before run (plain ++ more))
    ∙ plained-all first openers (run ++ (plain ++ more))
    ∙ ap (λ t. items_tokens (map item_of (pieces_by first openers)) ++ (run ++ (t ++ more))) (items-entries opener.stretch)
    ∙ behind first opener openers more
  where
    regroup : (a b c d : List Token) → (a ++ (b ++ c)) ++ d ≡ (a ++ b) ++ (c ++ d)
    regroup a b c d = simp append_assoc

-- the last place of some is taken
pub plained-pop : (kept : ℕ) (old new : List ℕ) (at : ℕ) (tokens : List Token) → old ≡ new ++ at ∷ [] → kept < length old → plained (drop kept old) tokens ≡ plained (drop kept new) (plain_at tokens at)
plained-pop kept old new at tokens e h =
    let long : kept ≤ length new = omega (arith, ap length e, length_push new at) in
    ap (λ t. plained (drop kept t) tokens) e
    ∙ ap (λ t. plained t tokens) (drop-append-le kept new (at ∷ []) long)
    ∙ plained-append (drop kept new) (at ∷ []) tokens

pub take-pop : (kept : ℕ) (old new : List ℕ) (at : ℕ) → old ≡ new ++ at ∷ [] → kept < length old → take kept old ≡ take kept new
take-pop kept old new at e h =
    let long : kept ≤ length new = omega (arith, ap length e, length_push new at) in
    ap (take kept) e ∙ take-append-le kept new (at ∷ []) long

-- the last opener of some is raised
pub raised-set : (h : ℕ) (openers : List KeptOpener) (d : KeptOpener) (n : ℕ) → length openers ≡ suc n → raised h openers ≡ slice_set openers n (record (slice_index_or openers n d) { height = max (slice_index_or openers n d).height h })
raised-set h [] d n e = absurd (omega arith)
raised-set h (opener ∷ []) d zero e = refl
raised-set h (opener ∷ []) d (suc n) e = absurd (omega arith)
raised-set h (a ∷ b ∷ openers) d zero e = absurd (omega arith)
raised-set h (a ∷ b ∷ openers) d (suc n) e = ap (λ t. a ∷ t) (raised-set h (b ∷ openers) d n (omega arith))

pub plained-past : (kept : ℕ) (old new : List ℕ) (at : ℕ) (tokens : List Token) → old ≡ new ++ at ∷ [] → kept < length old → length tokens ≤ at → plained (drop kept old) tokens ≡ plained (drop kept new) tokens
plained-past kept old new at tokens e h past =
    plained-pop kept old new at tokens e h ∙ ap (plained (drop kept new)) (set_past tokens at (plain_token (slice_index_or tokens at Fill)) past)

pub plained-read : (kept : ℕ) (old new : List ℕ) (at : ℕ) (tokens : List Token) (x y : Token) → old ≡ new ++ at ∷ [] → kept < length old → x ≡ slice_index_or tokens at x → at < length tokens → y ≡ plain_token x
    → plained (drop kept old) tokens ≡ plained (drop kept new) (slice_set tokens at y)
plained-read kept old new at tokens x y e h read within is =
    plained-pop kept old new at tokens e h
    ∙ ap (λ z. plained (drop kept new) (slice_set tokens at z)) (ap plain_token (sym (get_or_read tokens at x within read Fill)) ∙ sym is)

pub raised-read : (h : ℕ) (openers : List KeptOpener) (x : KeptOpener) (n m : ℕ) → n ≡ length openers → 0 < n → x ≡ slice_index_or openers (n - 1) x → m ≡ max x.height h
    → slice_set openers (n - 1) (record x { height = m }) ≡ raised h openers
raised-read h openers x n m e some read is =
    let front : length openers ≡ suc (n - 1) = omega arith in
    ap₂ (λ z k. slice_set openers (n - 1) (record z { height = k })) read (is ∙ ap (λ z. max z.height h) read) ∙ sym (raised-set h openers x (n - 1) front)
