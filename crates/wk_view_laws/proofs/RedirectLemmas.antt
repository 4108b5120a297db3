-- What an inclusion of a redirect asks.
use Rattle.std.proofs.Common.{◌≡◌, ℕ, suc, zero, ◌+◌, ◌/◌, ◌≤◌, ◌<◌, false, List, [], ◌∷◌, ◌++◌, length, refl, ◌∙◌, ap, arith, inl, inr}
use Rattle.std.specs.Bool.{nat_lt, nat_le}
use Rattle.std.proofs.lemmas.Bool.{cases_Bool}
use Rattle.std.proofs.lemmas.Bool.Decides.{nat_tests}
use borrow.Author.Tests.{ltb-true}
use Rattle.wk_text_rules.specs.Marked.{all_plain, all_sealed}
use Rattle.wk_text_rules.specs.Titles.{PageTitle}
use Rattle.wk_tree_rules.specs.Tree.{Part, tree, nodes, nodes_of}
use Rattle.wk_tree_rules.specs.Trees.{Item, plain, sealed, nothing, node, NodeKind, Content}
use Rattle.wk_tree_rules.specs.declared.Mode.TheVariants as mode
use Rattle.wk_view_rules.specs.Expand.{items_output, with_bindings, included, redirected, included_text, inclusion, expand}
use Rattle.wk_view_rules.specs.Expansions.{Expansion, Output, Progress, with_nodes, most_nodes, most_bytes, most_depth}
use Rattle.wk_view_rules.specs.Frames.{Frame}
use Rattle.wk_view_rules.specs.Plans.{gives, noted, run, reads_of}
use Rattle.wk_view_rules.specs.Worlds.{World, PageText, Read, of_world}
use Rattle.wk_view_laws.specs.Inclusions.{MeetsRedirect, read_for_inclusion}

not-lt : (a b : ℕ) → a ≤ b → nat_lt b a ≡ false
not-lt a b h = elim (cases_Bool (nat_lt b a)) [
  | inl over ↦ let wrong : b < a = ltb-true b a over in absurd (omega arith)
  | inr within ↦ within
]

not-le : (a b : ℕ) → a < b → nat_le b a ≡ false
not-le a b h = grind (arith, nat_tests)

pub run-redirect :
    (pages : World) (inner : Frame → List Item → Expansion Output) (viewed : PageTitle) (frame : Frame) (title target : PageTitle) (text target_text : PageText) (parts : List Part) (progress : Progress) (before : List Read)
    → MeetsRedirect pages frame progress title target text target_text
    → run (of_world pages) (inclusion inner viewed frame title parts progress) before
    ≡ run (of_world pages) (included inner viewed frame title target target_text.text parts (with_nodes (progress.counters.nodes + (1 + length text.text / 64)) progress)) (noted (noted before (read_for_inclusion title text)) (read_for_inclusion target target_text))
unfolding run inclusion included_text redirected
run-redirect pages inner viewed frame title target text target_text parts progress before h =
    rw (h.real, h.closed, not-le (length frame) most_depth h.shallow, h.there, h.redirects, not-lt (progress.counters.nodes + (1 + length text.text / 64)) most_nodes h.affordable, h.target_closed, h.target_there) refl

-- items without nodes ask nothing and count nothing
items-quiet : (visit : NodeKind → Content → Expansion Output) (items : List Item) → nodes items ≡ [] → (progress : Progress) → (out : Output) × (items_output visit items progress ≡ gives (out, progress))
unfolding items_output nodes_of
items-quiet visit [] h progress = ([], refl)
items-quiet visit (plain start source ∷ items) h progress =
    let later = items-quiet visit items h progress in (all_plain source ++ later.0, rw later.1 refl)
items-quiet visit (sealed start source ∷ items) h progress =
    let later = items-quiet visit items h progress in (all_sealed source ++ later.0, rw later.1 refl)
items-quiet visit (nothing start source ∷ items) h progress =
    let later = items-quiet visit items h progress in (later.0, rw later.1 refl)
items-quiet visit (node kind start content ∷ items) h progress = cc

expand-quiet : (left : ℕ) (viewed : PageTitle) (frame : Frame) (items : List Item) → nodes items ≡ [] → (progress : Progress) → (out : Output) × (expand left viewed frame items progress ≡ gives (out, progress))
unfolding expand
expand-quiet zero viewed frame items h progress = items-quiet _ items h progress
expand-quiet (suc left) viewed frame items h progress = items-quiet _ items h progress

-- a text without nodes, included without arguments, is read by itself
reads-included : (pages : World) (left : ℕ) (viewed : PageTitle) (frame : Frame) (title source : PageTitle) (text : List ℕ) (progress : Progress) (before : List Read) → nodes (tree mode.Include text) ≡ [] → reads_of (run (of_world pages) (included (expand left viewed) viewed frame title source text [] progress) before) ≡ before
unfolding run included with_bindings
reads-included pages left viewed frame title source text progress before h =
    let charge = progress.counters.nodes + length text / 64 in
    let inside = expand-quiet left viewed (record { title = source; bindings = [] } ∷ frame) (tree mode.Include text) h (with_nodes charge progress) in
    elim (cases_Bool (nat_lt most_nodes charge)) [
      | inl over ↦ rw over refl
      | inr within ↦ elim (cases_Bool (nat_lt most_bytes (progress.counters.include + length inside.0))) [
        | inl long ↦ rw (within, inside.1, long) refl
        | inr short ↦ rw (within, inside.1, short) refl
      ]
    ]

pub reads-redirect :
    (pages : World) (left : ℕ) (viewed : PageTitle) (frame : Frame) (title target : PageTitle) (text target_text : PageText) (progress : Progress) (before : List Read)
    → MeetsRedirect pages frame progress title target text target_text
    → nodes (tree mode.Include target_text.text) ≡ []
    → reads_of (run (of_world pages) (inclusion (expand left viewed) viewed frame title [] progress) before)
    ≡ noted (noted before (read_for_inclusion title text)) (read_for_inclusion target target_text)
reads-redirect pages left viewed frame title target text target_text progress before h quiet =
    ap reads_of (run-redirect pages (expand left viewed) viewed frame title target text target_text [] progress before h)
    ∙ reads-included pages left viewed frame title target target_text.text _ _ quiet
