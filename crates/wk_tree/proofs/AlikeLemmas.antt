-- Bytes that come as one are laid out as they are one by one, whatever becomes of the delimiters around them.
use Rattle.std.proofs.Common.{◌≡◌, ℕ, zero, suc, ◌+◌, ◌-◌, ◌<◌, ◌==◌, max, Bool, true, false, if◌then◌else◌, List, [], ◌∷◌, ◌++◌, length, map, refl, ap, ap₂, sym, subst, ◌∙◌, arith, append_assoc, append-nil}
use Rattle.std.proofs.lemmas.List.{map-append}
use Rattle.std.proofs.lemmas.List.Concat.{flat_map-append}
use Rattle.wk_lex.specs.Ahead.{byte_atoms}
use Rattle.wk_tree.proofs.LayoutLemmas.{plain-laid}
use Rattle.wk_tree.proofs.MatchingLemmas.{height-append, height-plain, content-tokens, items-entries, items-append}
use Rattle.wk_tree.proofs.MeetingLemmas.{node-height, plain-tokens}
use Rattle.wk_tree.specs.Layout.{OpenNodeShown, LayoutShown, put, with_item, with_token, laid}
use Rattle.wk_tree.specs.Tokens.{text_tokens, opening_tokens, item_tokens, entry_tokens, entries_tokens, items_tokens}
use Rattle.wk_tree.specs.declared.item.Item.{Item as Shown}
use Rattle.wk_tree.specs.declared.item.Item.TheVariants as code
use Rattle.wk_tree.specs.declared.token.Token.{Token}
use Rattle.wk_tree.specs.declared.token.Token.TheVariants.{NodeEnd}
use Rattle.wk_tree_laws.specs.OnePass.{Opener, PassState, pieces_by, pieces_seen, added_by, added, opened, reopened, Met, met_as_plain, met_as_node, met_as_brackets, met_by_delimiters, met, resumed, closed, passed}
use Rattle.wk_tree_rules.specs.Reduction.{Delimiter, braces, brackets, Run, Piece, piece_of, entry, opening, closing, plain_opening, plain_closing, last_delimiters, first_delimiters, node_width, kind_by_width, most_height}
use Rattle.wk_tree_rules.specs.Tree.{item_of}
use Rattle.wk_tree_rules.specs.Trees.{Item, plain, node, NodeKind, Entry, item, content_of, content_height, height, plain_entry}

-- ---- entries

-- entries that are equally high and are laid out alike, within a node and outside nodes, whatever follows them
pub record Alike (es fs : List Entry) : Type 0 where
  pub heights : content_height (content_of es) ≡ content_height (content_of fs)
  pub inside : (tail : List Token) → laid (entries_tokens es ++ tail) ≡ laid (entries_tokens fs ++ tail)
  pub outside : (tail : List Token) → laid (items_tokens (map plain_entry es) ++ tail) ≡ laid (items_tokens (map plain_entry fs) ++ tail)

pub alike-same : (es : List Entry) → Alike es es
alike-same es = record { heights = refl; inside = λ tail. refl; outside = λ tail. refl }

laid-front : (ts xs ys : List Token) → laid xs ≡ laid ys → laid (ts ++ xs) ≡ laid (ts ++ ys)
laid-front [] xs ys e = e
laid-front (t ∷ ts) xs ys e = ap (with_token t) (laid-front ts xs ys e)

laid-both : (xs xs' ys ys' : List Token) → ((tail : List Token) → laid (xs ++ tail) ≡ laid (xs' ++ tail)) → ((tail : List Token) → laid (ys ++ tail) ≡ laid (ys' ++ tail)) → (tail : List Token) → laid ((xs ++ ys) ++ tail) ≡ laid ((xs' ++ ys') ++ tail)
laid-both xs xs' ys ys' f g tail =
    ap laid (append_assoc xs ys tail) ∙ laid-front xs (ys ++ tail) (ys' ++ tail) (g tail) ∙ f (ys' ++ tail) ∙ ap laid (sym (append_assoc xs' ys' tail))

outside-append : (es fs : List Entry) → items_tokens (map plain_entry (es ++ fs)) ≡ items_tokens (map plain_entry es) ++ items_tokens (map plain_entry fs)
outside-append es fs = ap items_tokens (map-append plain_entry es fs) ∙ flat_map-append item_tokens (map plain_entry es) (map plain_entry fs)

alike-append : {es es' fs fs' : List Entry} → Alike es es' → Alike fs fs' → Alike (es ++ fs) (es' ++ fs')
alike-append {es = es} {es' = es'} {fs = fs} {fs' = fs'} a b = record {
  heights = height-append es fs ∙ ap₂ (λ x y. max x y) a.heights b.heights ∙ sym (height-append es' fs');
  inside = λ tail.
      ap (λ t. laid (t ++ tail)) (flat_map-append entry_tokens es fs)
      ∙ laid-both (entries_tokens es) (entries_tokens es') (entries_tokens fs) (entries_tokens fs') a.inside b.inside tail
      ∙ ap (λ t. laid (t ++ tail)) (sym (flat_map-append entry_tokens es' fs'));
  outside = λ tail.
      ap (λ t. laid (t ++ tail)) (outside-append es fs)
      ∙ laid-both (items_tokens (map plain_entry es)) (items_tokens (map plain_entry es')) (items_tokens (map plain_entry fs)) (items_tokens (map plain_entry fs')) a.outside b.outside tail
      ∙ ap (λ t. laid (t ++ tail)) (sym (outside-append es' fs'));
}

-- ---- a node

node-tokens : (kind : NodeKind) (start : ℕ) (es : List Entry) (tail : List Token) → entries_tokens (item (node kind start (content_of es)) ∷ []) ++ tail ≡ opening_tokens kind start ++ (entries_tokens es ++ NodeEnd ∷ tail)
unfolding item_tokens
node-tokens kind start es tail =
    ap (λ t. ((opening_tokens kind start ++ (t ++ NodeEnd ∷ [])) ++ []) ++ tail) (content-tokens es)
    ∙ regroup (opening_tokens kind start) (entries_tokens es) (NodeEnd ∷ []) tail
  where
    regroup : (a b c d : List Token) → ((a ++ (b ++ c)) ++ []) ++ d ≡ a ++ (b ++ (c ++ d))
    regroup a b c d = simp (append_assoc, append-nil)

alike-node : (kind : NodeKind) (start : ℕ) {es fs : List Entry} → Alike es fs → Alike (item (node kind start (content_of es)) ∷ []) (item (node kind start (content_of fs)) ∷ [])
alike-node kind start {es = es} {fs = fs} a =
    let same : (tail : List Token) → laid (entries_tokens (item (node kind start (content_of es)) ∷ []) ++ tail) ≡ laid (entries_tokens (item (node kind start (content_of fs)) ∷ []) ++ tail) = λ tail.
    ap laid (node-tokens kind start es tail)
    ∙ laid-front (opening_tokens kind start) (entries_tokens es ++ NodeEnd ∷ tail) (entries_tokens fs ++ NodeEnd ∷ tail) (a.inside (NodeEnd ∷ tail))
    ∙ ap laid (sym (node-tokens kind start fs tail)) in
    record {
      heights = node-height kind start es ∙ ap suc a.heights ∙ sym (node-height kind start fs);
      inside = same;
      outside = same;
    }

-- ---- brackets

plain-again : (es : List Entry) → items_tokens (map plain_entry (map (λ e. item (plain_entry e)) es)) ≡ items_tokens (map plain_entry es)
plain-again [] = refl
plain-again (e ∷ es) = ap (λ t. item_tokens (plain_entry e) ++ t) (plain-again es)

alike-plain : {es fs : List Entry} → Alike es fs → Alike (map (λ e. item (plain_entry e)) es) (map (λ e. item (plain_entry e)) fs)
alike-plain {es = es} {fs = fs} a = record {
  heights = height-plain es ∙ a.heights ∙ sym (height-plain fs);
  inside = λ tail. ap (λ t. laid (t ++ tail)) (plain-tokens es) ∙ a.outside tail ∙ ap (λ t. laid (t ++ tail)) (sym (plain-tokens fs));
  outside = λ tail. ap (λ t. laid (t ++ tail)) (plain-again es) ∙ a.outside tail ∙ ap (λ t. laid (t ++ tail)) (sym (plain-again fs));
}

alike-brackets : (o c : Item) {es fs : List Entry} → Alike es fs → Alike (item o ∷ map (λ e. item (plain_entry e)) es ++ item c ∷ []) (item o ∷ map (λ e. item (plain_entry e)) fs ++ item c ∷ [])
alike-brackets o c a = alike-append (alike-same (item o ∷ [])) (alike-append (alike-plain a) (alike-same (item c ∷ [])))

-- ---- bytes

-- bytes one by one
abbrev pub byte_entries : ℕ → List ℕ → List Entry
byte_entries at [] = []
byte_entries at (b ∷ source) = item (plain at (b ∷ [])) ∷ byte_entries (at + 1) source

put-again : (start next n m : ℕ) (items : List Shown) → put (code.Plain start n) (put (code.Plain next m) items) ≡ put (code.Plain start (n + m)) items
put-again start next n m [] = refl
put-again start next n m (code.Plain at k ∷ items) =
    let e : n + (m + k) ≡ n + m + k = omega arith in
    ap (λ j. code.Plain start j ∷ items) e
put-again start next n m (code.Sealed at k ∷ items) = refl
put-again start next n m (code.Nothing at k ∷ items) = refl
put-again start next n m (code.Node id ∷ items) = refl

with-again : (start next n m : ℕ) (f : OpenNodeShown) → with_item (code.Plain start n) n (with_item (code.Plain next m) m f) ≡ with_item (code.Plain start (n + m)) (n + m) f
with-again start next n m f =
    let e : n + (m + f.section.len) ≡ n + m + f.section.len = omega arith in
    let g : n + (m + f.total) ≡ n + m + f.total = omega arith in
    ap₂ (λ i (k : ℕ × ℕ). record f { section = record { items = i; len = k.0 }; total = k.1 }) (put-again start next n m f.section.items) (ap₂ (λ x y. (x, y)) e g)

one-laid : (at : ℕ) (source : List ℕ) (tail : List Token) → laid (entries_tokens (item (plain at source) ∷ []) ++ tail) ≡ record (laid tail) { open_node = with_item (code.Plain at (length source)) (length source) (laid tail).open_node }
unfolding item_tokens
one-laid at source tail = ap (λ t. laid (t ++ tail)) (append-nil (text_tokens at source)) ∙ plain-laid at source tail

bytes-laid : (at b : ℕ) (source : List ℕ) (tail : List Token) → laid (entries_tokens (byte_entries at (b ∷ source)) ++ tail) ≡ record (laid tail) { open_node = with_item (code.Plain at (suc (length source))) (suc (length source)) (laid tail).open_node }
unfolding item_tokens
bytes-laid at b [] tail = one-laid at (b ∷ []) tail
bytes-laid at b (c ∷ source) tail =
    let rest : List Token = entries_tokens (byte_entries (at + 1) (c ∷ source)) in
    let n : 1 + suc (length source) ≡ suc (suc (length source)) = omega arith in
    ap laid (append_assoc (text_tokens at (b ∷ [])) rest tail)
    ∙ plain-laid at (b ∷ []) (rest ++ tail)
    ∙ ap (λ (l : LayoutShown). record l { open_node = with_item (code.Plain at 1) 1 l.open_node }) (bytes-laid (at + 1) c source tail)
    ∙ ap (λ f. record (laid tail) { open_node = f }) (with-again at (at + 1) 1 (suc (length source)) (laid tail).open_node ∙ ap (λ k. with_item (code.Plain at k) k (laid tail).open_node) n)

bytes-outside : (at : ℕ) (source : List ℕ) → items_tokens (map plain_entry (byte_entries at source)) ≡ entries_tokens (byte_entries at source)
bytes-outside at [] = refl
bytes-outside at (b ∷ source) = ap (λ t. item_tokens (plain at (b ∷ [])) ++ t) (bytes-outside (at + 1) source)

bytes-height : (at : ℕ) (source : List ℕ) → content_height (content_of (byte_entries at source)) ≡ 0
unfolding content_height height
bytes-height at [] = refl
bytes-height at (b ∷ source) = let later = bytes-height (at + 1) source in omega arith

plain-height : (at : ℕ) (source : List ℕ) → content_height (content_of (item (plain at source) ∷ [])) ≡ 0
unfolding content_height height
plain-height at source = omega arith

alike-bytes : (at b : ℕ) (source : List ℕ) → Alike (byte_entries at (b ∷ source)) (item (plain at (b ∷ source)) ∷ [])
alike-bytes at b source =
    let same : (tail : List Token) → laid (entries_tokens (byte_entries at (b ∷ source)) ++ tail) ≡ laid (entries_tokens (item (plain at (b ∷ source)) ∷ []) ++ tail) = λ tail.
    bytes-laid at b source tail ∙ sym (one-laid at (b ∷ source) tail) in
    record {
      heights = bytes-height at (b ∷ source) ∙ sym (plain-height at (b ∷ source));
      inside = same;
      outside = λ tail. ap (λ t. laid (t ++ tail)) (bytes-outside at (b ∷ source)) ∙ same tail;
    }

-- ---- what was seen

pub data OpenersAlike : List Opener → List Opener → Type 0 where
  no_openers : OpenersAlike [] []
  opener_more : {run : Run} {es fs : List Entry} {openers others : List Opener} → Alike es fs → OpenersAlike openers others → OpenersAlike (record { run = run; stretch = es } ∷ openers) (record { run = run; stretch = fs } ∷ others)

pub record SeenAlike (seen other : PassState) : Type 0 where
  pub first : Alike seen.first other.first
  pub openers : OpenersAlike seen.openers other.openers

pub nothing-alike : (seen : PassState) → seen.openers ≡ [] → SeenAlike seen seen
nothing-alike seen e = record { first = alike-same seen.first; openers = subst (λ l. OpenersAlike l l) (sym e) no_openers }

added-by : {es fs first before : List Entry} {openers others : List Opener} → Alike es fs → Alike first before → OpenersAlike openers others → SeenAlike (added_by es first openers) (added_by fs before others)
added-by a f no_openers = record { first = alike-append f a; openers = no_openers }
added-by a f (opener_more k openers) = record { first = f; openers = opener_more (alike-append k a) openers }

pub added-alike : {es fs : List Entry} {seen other : PassState} → Alike es fs → SeenAlike seen other → SeenAlike (added es seen) (added fs other)
added-alike a k = added-by a k.first k.openers

opened-alike : (run : Run) {seen other : PassState} → SeenAlike seen other → SeenAlike (opened run seen) (opened run other)
opened-alike run k = record { first = k.first; openers = opener_more (alike-same []) k.openers }

reopened-alike : (n : ℕ) (run : Run) {seen other : PassState} → SeenAlike seen other → SeenAlike (reopened n run seen) (reopened n run other)
reopened-alike zero run k = k
reopened-alike (suc zero) run k = added-alike (alike-same (item (plain_opening run) ∷ [])) k
reopened-alike (suc (suc n)) run k = opened-alike run k

-- ---- a closing run

record MetAlike (m o : Met) : Type 0 where
  seen : SeenAlike m.seen o.seen
  rest : m.rest ≡ o.rest

plain-met : (closer : Run) {seen other : PassState} → SeenAlike seen other → MetAlike (met_as_plain closer seen) (met_as_plain closer other)
plain-met closer k = record { seen = added-alike (alike-same (item (plain_closing closer) ∷ [])) k; rest = refl }

module _ (run closer : Run) {es fs : List Entry} (a : Alike es fs) {outer around seen other : PassState} (o : SeenAlike outer around) (k : SeenAlike seen other) where
  abbrev opener : List Entry → Opener
  opener es = record { run = run; stretch = es }

  node-met : MetAlike (met_as_node (opener es) closer outer) (met_as_node (opener fs) closer around)
  node-met =
      let c : ℕ = node_width run closer in
      record {
        seen = added-alike (alike-node (kind_by_width c) (last_delimiters c run).start a) (reopened-alike (run.count - c) (first_delimiters (run.count - c) run) o);
        rest = refl;
      }

  brackets-met : MetAlike (met_as_brackets (opener es) closer outer) (met_as_brackets (opener fs) closer around)
  brackets-met = record {
    seen = added-alike (alike-brackets (plain_opening (last_delimiters 2 run)) (plain_closing (first_delimiters 2 closer)) a) (reopened-alike (run.count - 2) (first_delimiters (run.count - 2) run) o);
    rest = refl;
  }

  braces-met : (t : Bool) → MetAlike (if t then met_as_plain closer seen else met_as_node (opener es) closer outer) (if t then met_as_plain closer other else met_as_node (opener fs) closer around)
  braces-met true = plain-met closer k
  braces-met false = node-met

  delimiters-met : (m c : Delimiter) → MetAlike (met_by_delimiters m c (opener es) closer outer seen) (met_by_delimiters m c (opener fs) closer around other)
  delimiters-met braces braces =
      subst (λ n. MetAlike (met_by_delimiters braces braces (opener es) closer outer seen) (if n == most_height then met_as_plain closer other else met_as_node (opener fs) closer around)) a.heights
      (braces-met (content_height (content_of es) == most_height))
  delimiters-met brackets brackets = brackets-met
  delimiters-met braces brackets = plain-met closer k
  delimiters-met brackets braces = plain-met closer k

met-by : (closer : Run) {first before : List Entry} {openers others : List Opener} → Alike first before → OpenersAlike openers others → MetAlike (met closer (record { first = first; openers = openers })) (met closer (record { first = before; openers = others }))
met-by closer f no_openers = plain-met closer (record { first = f; openers = no_openers })
met-by closer f (opener_more {run = run} a openers) =
    delimiters-met run closer a (record { first = f; openers = openers }) (record { first = f; openers = opener_more a openers }) run.delimiters closer.delimiters

met-alike : (closer : Run) {seen other : PassState} → SeenAlike seen other → MetAlike (met closer seen) (met closer other)
met-alike closer k = met-by closer k.first k.openers

resumed-alike : (n : ℕ) {m o : Met} {again once : PassState} → MetAlike m o → SeenAlike again once → SeenAlike (resumed n m again) (resumed n o once)
resumed-alike zero k l = k.seen
resumed-alike (suc zero) {m = m} {o = o} k l =
    subst (λ (r : Run). SeenAlike (added (item (plain_closing m.rest) ∷ []) m.seen) (added (item (plain_closing r) ∷ []) o.seen)) k.rest
    (added-alike (alike-same (item (plain_closing m.rest) ∷ [])) k.seen)
resumed-alike (suc (suc n)) k l = l

closed-alike : (n : ℕ) (closer : Run) {seen other : PassState} → SeenAlike seen other → SeenAlike (closed n closer seen) (closed n closer other)
unfolding closed
closed-alike zero closer k = k
closed-alike (suc n) closer {seen = seen} {other = other} k =
    let now : MetAlike (met closer seen) (met closer other) = met-alike closer k in
    let m : Met = met closer seen in
    let o : Met = met closer other in
    subst (λ (r : Run). SeenAlike (resumed m.rest.count m (closed n m.rest m.seen)) (resumed r.count o (closed n r o.seen))) now.rest
    (resumed-alike m.rest.count now (closed-alike n m.rest now.seen))

-- ---- an atom

pub passed-alike : (p : Piece) {seen other : PassState} → SeenAlike seen other → SeenAlike (passed seen (p ∷ [])) (passed other (p ∷ []))
unfolding passed
passed-alike (entry e) k = added-alike (alike-same (e ∷ [])) k
passed-alike (opening run) k = opened-alike run k
passed-alike (closing run) k = closed-alike run.count run k

pub passed-all : (seen : PassState) (xs ys : List Piece) → passed seen (xs ++ ys) ≡ passed (passed seen xs) ys
unfolding passed
passed-all seen [] ys = refl
passed-all seen (entry e ∷ xs) ys = passed-all (added (e ∷ []) seen) xs ys
passed-all seen (opening run ∷ xs) ys = passed-all (opened run seen) xs ys
passed-all seen (closing run ∷ xs) ys = passed-all (closed run.count run seen) xs ys

added-twice : (xs ys first : List Entry) (openers : List Opener) → added ys (added_by xs first openers) ≡ added_by (xs ++ ys) first openers
added-twice xs ys first [] = ap (λ t. record { first = t; openers = [] }) (append_assoc first xs ys)
added-twice xs ys first (opener ∷ openers) = ap (λ t. record { first = first; openers = record opener { stretch = t } ∷ openers }) (append_assoc opener.stretch xs ys)

passed-bytes : (at b : ℕ) (source : List ℕ) (seen : PassState) → passed seen (map piece_of (byte_atoms at (b ∷ source))) ≡ added (byte_entries at (b ∷ source)) seen
unfolding passed
passed-bytes at b [] seen = refl
passed-bytes at b (c ∷ source) seen =
    passed-bytes (at + 1) c source (added (item (plain at (b ∷ [])) ∷ []) seen)
    ∙ added-twice (item (plain at (b ∷ [])) ∷ []) (byte_entries (at + 1) (c ∷ source)) seen.first seen.openers

pub bytes-alike : (at : ℕ) (source : List ℕ) {seen other : PassState} → 0 < length source → SeenAlike seen other → SeenAlike (passed seen (map piece_of (byte_atoms at source))) (added (item (plain at source) ∷ []) other)
bytes-alike at [] some k = absurd (omega arith)
bytes-alike at (b ∷ source) {seen = seen} {other = other} some k =
    subst (λ s. SeenAlike s (added (item (plain at (b ∷ source)) ∷ []) other)) (sym (passed-bytes at b source seen)) (added-alike (alike-bytes at b source) k)

-- ---- at the end

openers-laid : {first before : List Entry} {openers others : List Opener} → Alike first before → OpenersAlike openers others → (tail : List Token)
    → laid (items_tokens (map item_of (pieces_by first openers)) ++ tail) ≡ laid (items_tokens (map item_of (pieces_by before others)) ++ tail)
openers-laid {first = first} {before = before} f no_openers tail =
    ap (λ t. laid (t ++ tail)) (sym (items-entries first)) ∙ f.outside tail ∙ ap (λ t. laid (t ++ tail)) (items-entries before)
openers-laid {first = first} {before = before} f (opener_more {run = run} {es = es} {fs = fs} {openers = openers} {others = others} a more) tail =
    let outer : List Token = items_tokens (map item_of (pieces_by first openers)) in
    let around : List Token = items_tokens (map item_of (pieces_by before others)) in
    let delimiters : List Token = item_tokens (plain_opening run) in
    let stretch : List Token = items_tokens (map item_of (map entry es)) in
    let other : List Token = items_tokens (map item_of (map entry fs)) in
    let behind : (tail : List Token) → laid (stretch ++ tail) ≡ laid (other ++ tail) = λ tail.
    ap (λ t. laid (t ++ tail)) (sym (items-entries es)) ∙ a.outside tail ∙ ap (λ t. laid (t ++ tail)) (items-entries fs) in
    ap (λ t. laid (t ++ tail)) (items-append (pieces_by first openers) (opening run ∷ map entry es))
    ∙ laid-both outer around (delimiters ++ stretch) (delimiters ++ other) (openers-laid f more) (laid-both delimiters delimiters stretch other (λ tail. refl) behind) tail
    ∙ ap (λ t. laid (t ++ tail)) (sym (items-append (pieces_by before others) (opening run ∷ map entry fs)))

pub seen-laid : {seen other : PassState} → SeenAlike seen other → laid (items_tokens (map item_of (pieces_seen seen))) ≡ laid (items_tokens (map item_of (pieces_seen other)))
seen-laid {seen = seen} {other = other} k =
    ap laid (sym (append-nil (items_tokens (map item_of (pieces_seen seen)))))
    ∙ openers-laid k.first k.openers []
    ∙ ap laid (append-nil (items_tokens (map item_of (pieces_seen other))))
