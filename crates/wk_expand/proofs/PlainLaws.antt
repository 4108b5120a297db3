-- Lists that are one plain part of the text.
use Rattle.std.proofs.Common.{◌≡◌, ℕ, ◌+◌, ◌-◌, ◌<◌, Bool, true, false, cond, List, [], ◌∷◌, length, drop, take, get_or, reverse, Option, Some, None, IsSome, refl, sym, ap, subst, ◌∙◌, arith}
use Rattle.std.specs.Bool.{if◌then◌else◌}
use Rattle.std.proofs.lemmas.List.{drop-map, length-map, take-map}
use Rattle.indexmap.proofs.ReorderLemmas.{map-reverse}
use Rattle.std.specs.List.{slice_get, list_all, prefix_len, suffix_len}
use Rattle.std.specs.Option.{IfSome, option_and_then}
use Rattle.wk_text_rules.specs.Blank.{is_blank_byte, trimmed, trimmed_end, trimmed_start}
use Rattle.wk_text_rules.specs.Marked.{plain as plain_byte, all_plain, is_plain, is_plain_blank, plain_text_of, text_of, trimmed_output, trimmed_output_end, trimmed_output_start}
use Rattle.wk_text_rules.specs.Titles.{PageTitle}
use Rattle.wk_tree.specs.Parsed.{ParsedText, list_with}
use Rattle.wk_tree.specs.declared.item.Item.{Item}
use Rattle.wk_tree.specs.declared.item.Item.TheVariants.{Plain}
use Rattle.wk_tree.specs.declared.item.ListId.{ListId}
use Rattle.wk_tree.specs.Tokens.{is_argument}
use Rattle.wk_tree_rules.specs.Tree.{Part}
use Rattle.wk_tree_rules.specs.Trees.{Item as TreeItem, NodeKind, plain}
use Rattle.wk_view_rules.specs.Expand.{argument_value, kind_output}
use Rattle.wk_view_rules.specs.Expansions.{Expansion, Output, argument_within_limit, give, ◌>>=◌}
use Rattle.wk_view_rules.specs.Frames.{Binding, Frame, bound, caller}
use Rattle.wk_view_rules.specs.Plans.{gives}
use Rattle.wk_view_rules.specs.Worlds.{Seen}
use Rattle.wk_expand.specs.Running.{ComesTo}
use Rattle.wk_frames.specs.Frames.{IsBinding}
use Rattle.wk_expand.specs.State.{progress_with}
use Rattle.wk_expand.specs.declared.answer.Counts.{Counts}
use Rattle.wk_frames.specs.declared.levels.Bound.{Bound}
use Rattle.wk_expand.specs.declared.state.Expander.{Expander}
use Rattle.wk_expand.proofs.ArgumentLaws.{argument-bound}
use Rattle.wk_expand.specs.Items.{item_with, text_at, IsItem, IsPlainName, IsPlainText, IsTextAt}
use Rattle.wk_expand.proofs.ListLaws.{AreItems, item-found-at, item-known, items-long}
use Rattle.wk_expand.proofs.NodeLaws.{kind-argument, some_within}
use Rattle.wk_expand.proofs.PageLaws.{behind_value, run_value}
use Rattle.wk_expand.proofs.PartLaws.{at_some, some_part}
use Rattle.wk_expand.proofs.RunLaws.{passes-at}

alone : {X : Type 0} (xs : List X) (x : X) → 1 ≡ length xs → slice_get xs 0 ≡ Some x → xs ≡ x ∷ []
alone [] x long e = cc
alone (y ∷ []) x long e = let same : y ≡ x = cc in ap (λ z. z ∷ []) same
alone (y ∷ z ∷ xs) x long e = absurd (omega (arith, long))

-- a list with one item, which the code finds to be plain
pub plain-alone : (parsed : ParsedText) (list : ListId) (count start len : ℕ) (c : Item) → IsSome (list_with parsed list) → IfSome (list_with parsed list) (λ found. count ≡ length found) → count ≡ 1 → IfSome (item_with parsed list 0) (IsItem parsed c) → c ≡ Plain start len → (list_with parsed list ≡ Some (plain start (text_at parsed start len) ∷ [])) × IsTextAt parsed start len
plain-alone parsed list count start len c there long one found is =
    let items = some_part (list_with parsed list) there in
    let single : 1 ≡ length items.0 = sym one ∙ at_some (λ xs. count ≡ length xs) (list_with parsed list) items.0 items.1 long in
    let i = some_within items.0 0 (omega (arith, single)) in
    let known = item-known parsed list 0 c (Plain start len) i.0 found is (ap (option_and_then (λ xs. slice_get xs 0)) items.1 ∙ i.1) in
    (items.1 ∙ ap (λ xs. Some xs) (alone items.0 i.0 single i.1 ∙ ap (λ x. x ∷ []) known.0), known.1)

-- a list with one item in memory
pub plain-one : (parsed : ParsedText) (list : ListId) (cs : List Item) (kept : AreItems parsed list cs) (start len : ℕ) (text : List ℕ) → IsSome (list_with parsed list) → length cs ≡ 1 → get_or cs 0 (Plain 0 0) ≡ Plain start len → text ≡ text_at parsed start len → IsPlainText parsed list text
plain-one parsed list cs kept start len text there one is same =
    let within : 0 < length cs = omega (arith, one) in
    let found = plain-alone parsed list (length cs) start len (get_or cs 0 (Plain 0 0)) there (items-long parsed list cs kept) one (item-found-at parsed list cs kept 0 within) is in
    subst (λ (t : List ℕ). IsPlainText parsed list t) (sym same) (record { start = start; there = found.0 })

-- ---- the name that it gives

text-of-plain : (text : List ℕ) → text_of (all_plain text) ≡ text
text-of-plain [] = refl
text-of-plain (b ∷ text) = ap (λ rest. b ∷ rest) (text-of-plain text)

every-plain : (text : List ℕ) → list_all is_plain (all_plain text) ≡ true
every-plain [] = refl
every-plain (b ∷ text) = every-plain text

pub plain-text : (text : List ℕ) → plain_text_of (all_plain text) ≡ Some text
plain-text text =
    ap (λ b. if b then Some (text_of (all_plain text)) else None) (every-plain text)
    ∙ ap (λ t. Some t) (text-of-plain text)

prefix-plain : (text : List ℕ) → prefix_len is_plain_blank (all_plain text) ≡ prefix_len is_blank_byte text
prefix-plain [] = refl
prefix-plain (b ∷ text) = ap (λ (n : ℕ). cond (is_blank_byte b) (1 + n) 0) (prefix-plain text)

suffix-plain : (text : List ℕ) → suffix_len is_plain_blank (all_plain text) ≡ suffix_len is_blank_byte text
suffix-plain text = ap (prefix_len is_plain_blank) (sym (map-reverse plain_byte text)) ∙ prefix-plain (reverse text)

trimmed-start-plain : (text : List ℕ) → trimmed_output_start (all_plain text) ≡ all_plain (trimmed_start text)
trimmed-start-plain text =
    ap (λ (n : ℕ). drop n (all_plain text)) (prefix-plain text)
    ∙ drop-map plain_byte (prefix_len is_blank_byte text) text

trimmed-end-plain : (text : List ℕ) → trimmed_output_end (all_plain text) ≡ all_plain (trimmed_end text)
trimmed-end-plain text =
    let n : length (all_plain text) - suffix_len is_plain_blank (all_plain text) ≡ length text - suffix_len is_blank_byte text = omega (arith, length-map text plain_byte, suffix-plain text) in
    ap (λ (k : ℕ). take k (all_plain text)) n
    ∙ take-map plain_byte (length text - suffix_len is_blank_byte text) text

pub trimmed-all-plain : (text : List ℕ) → trimmed_output (all_plain text) ≡ all_plain (trimmed text)
trimmed-all-plain text = ap trimmed_output_end (trimmed-start-plain text) ∙ trimmed-end-plain (trimmed_start text)

-- the name is the text without the blank bytes at both ends
pub name-plain : (text name : List ℕ) → name ≡ trimmed text → plain_text_of (trimmed_output (all_plain text)) ≡ Some name
name-plain text name is =
    ap plain_text_of (trimmed-all-plain text) ∙ plain-text (trimmed text) ∙ ap (λ (t : List ℕ). Some t) (sym is)

-- ---- its expansion

-- a list of one plain part is expanded to its text
abbrev pub ExpandsPlainly : (Frame → List TreeItem → Expansion Output) → Type 0
ExpandsPlainly inner = (frame : Frame) (start : ℕ) (text : List ℕ) → inner frame (plain start text ∷ []) ≡ give (all_plain text)

-- what is done with the output of such a list is done with its text
pub behind-plain : {A : Type 0} (inner : Frame → List TreeItem → Expansion Output) (frame : Frame) (parsed : ParsedText) (list : ListId) (text : List ℕ) (items : List TreeItem) (next : Output → Expansion A) → ExpandsPlainly inner → IsPlainText parsed list text → list_with parsed list ≡ Some items → (inner frame items >>= next) ≡ next (all_plain text)
behind-plain inner frame parsed list text items next plainly h there =
    let same : items ≡ plain h.start text ∷ [] = (let e : Some items ≡ Some (plain h.start text ∷ []) = sym there ∙ h.there in cc) in
    ap (λ xs. inner frame xs >>= next) same
    ∙ ap (λ (e : Expansion Output). e >>= next) (plainly frame h.start text)

-- ---- the value of an argument

shown-plain : (named : Bool) (text : List ℕ) → (if named then trimmed_output (all_plain text) else all_plain text) ≡ all_plain (if named then trimmed text else text)
shown-plain true text = trimmed-all-plain text
shown-plain false text = refl

module _ (inner : Frame → List TreeItem → Expansion Output) (viewed : PageTitle) (frame : Frame) (plainly : ExpandsPlainly inner) where
  -- a value that is one plain part
  pub value-plain : (parsed : ParsedText) (v : Bound) (b : Binding) (text shown : List ℕ) → IsPlainText parsed v.value text → IsBinding parsed v b → shown ≡ (if v.named then trimmed text else text) → run_value inner viewed frame b ≡ argument_within_limit (all_plain shown)
  value-plain parsed v b text shown h is_b is =
      let same : b.value ≡ plain h.start text ∷ [] = (let e : Some b.value ≡ Some (plain h.start text ∷ []) = sym is_b.value ∙ h.there in cc) in
      ap (λ xs. inner (caller frame) xs >>= behind_value inner viewed frame b.named) same
      ∙ ap (λ (e : Expansion Output). e >>= behind_value inner viewed frame b.named) (plainly (caller frame) h.start text)
      ∙ ap argument_within_limit (shown-plain b.named text)
      ∙ ap (λ (n : Bool). argument_within_limit (all_plain (if n then trimmed text else text))) (sym is_b.named)
      ∙ ap (λ (t : List ℕ). argument_within_limit (all_plain t)) (sym is)

  -- the name of an argument that is one plain part, to which a value is bound
  pub title-plain : (parsed : ParsedText) (title : ListId) (name : List ℕ) (kind : NodeKind) (parts : List Part) (b : Binding) → IsPlainName parsed title name → is_argument kind ≡ true → bound frame name ≡ Some b → (place : Frame) (items : List TreeItem) → list_with parsed title ≡ Some items → (inner place items >>= (λ out. kind_output inner viewed frame kind out parts)) ≡ argument_value inner viewed frame b
  title-plain parsed title name kind parts b h argument is place items there =
      behind-plain inner place parsed title h.text items (λ out. kind_output inner viewed frame kind out parts) plainly h.alone there
      ∙ kind-argument inner viewed frame kind (all_plain h.text) parts argument
      ∙ argument-bound inner viewed frame (all_plain h.text) parts b (ap (option_and_then (bound frame)) (name-plain h.text name h.is) ∙ is)

-- bytes of an argument are counted
pub counted : (seen : Seen) (s : Expander) (counts : Counts) (out given : Output) → argument_within_limit out (progress_with s.counts s.tested.items) ≡ gives (given, progress_with counts s.tested.items) → ComesTo seen (argument_within_limit out) s (give given) (record s { counts = counts })
counted seen s counts out given e = record {
  same = record { page = refl; levels = refl };
  passes = passes-at seen (argument_within_limit out) (give given) s (record s { counts = counts }) refl e;
}

pub some-each : {X : Type 0} (o : Option X) (P : X → Type 0) → ((x : X) → o ≡ Some x → P x) → IfSome o P
some-each None P h = tt
some-each (Some x) P h = h x refl
