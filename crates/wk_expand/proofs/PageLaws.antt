-- Texts within each other: the frame of a page that is entered, and that of its caller.
use Rattle.std.proofs.Common.{◌≡◌, ℕ, ◌/◌, ◌<◌, Bool, List, [], ◌∷◌, length, drop, Some, IsSome, refl, sym, ap, ap₂, subst, ◌∙◌}
use Rattle.std.specs.Bool.{if◌then◌else◌}
use Rattle.wk_text_rules.specs.Marked.{trimmed_output}
use Rattle.wk_text_rules.specs.Titles.{PageTitle}
use Rattle.wk_tree_rules.specs.Tree.{tree, Part}
use Rattle.wk_tree_rules.specs.Trees.{Item}
use Rattle.wk_tree_rules.specs.declared.Mode.TheVariants as mode
use Rattle.wk_tree.specs.Parsed.{ParsedText, list_with}
use Rattle.wk_tree.specs.declared.item.ListId.{ListId}
use Rattle.wk_view_rules.specs.Expand.{argument_value, included, with_bindings}
use Rattle.wk_view_rules.specs.Expansions.{Expansion, Output, charged, argument_within_limit, inclusion_within_limit, ◌>>=◌}
use Rattle.wk_view_rules.specs.Frames.{Frame, Binding, binding_length, caller}
use Rattle.wk_view_rules.specs.Worlds.{Seen}
use Rattle.wk_frames.specs.Levels.{LevelsShown, tree_in}
use Rattle.wk_expand.specs.Running.{IsSame, ComesTo}
use Rattle.wk_frames.specs.Frames.{ShowsBindings, ShowsFrame}
use Rattle.wk_expand.specs.State.{IsFrame, caller_tree, current}
use Rattle.wk_frames.specs.declared.levels.Level.{Level}
use Rattle.wk_expand.specs.declared.state.Expander.{Expander}
use Rattle.wk_expand.proofs.PartLaws.{some_of, some_part}

-- an expansion that has come as far, in other texts
abbrev pub with_levels : LevelsShown → Expander → Expander
with_levels v s = record s { levels = v }

-- a charge by the same number
pub charged-as : (seen : Seen) (n m : ℕ) (rest target : Expansion Output) (s t : Expander) → n ≡ m → ComesTo seen (charged (n / 64) rest) s target t → ComesTo seen (charged (m / 64) rest) s target t
charged-as seen n m rest target s t same h = subst (λ k. ComesTo seen (charged (k / 64) rest) s target t) same h

-- ---- the innermost page is left

shows-left : (root : ParsedText) (level : Level) (levels : List Level) (frame : Frame) → ShowsFrame root (level ∷ levels) frame → ShowsFrame root levels (caller frame)
shows-left root level levels [] h = absurd h
shows-left root level levels (l ∷ frame) h = h.2

pub frame-left : (s : Expander) (viewed : PageTitle) (frame : Frame) (level : Level) (v : LevelsShown) → s.levels.included ≡ level ∷ v.included → v.root ≡ s.levels.root → IsFrame s viewed frame → IsFrame (with_levels v s) viewed (caller frame)
frame-left s viewed frame level v included root is = record {
  page = is.page;
  shows = subst (λ r. ShowsFrame r v.included (caller frame)) (sym root)
      (shows-left s.levels.root level v.included frame (subst (λ levels. ShowsFrame s.levels.root levels frame) included is.shows));
}

tree-left : (s : Expander) (level : Level) (v : LevelsShown) → s.levels.included ≡ level ∷ v.included → v.root ≡ s.levels.root → current (with_levels v s) ≡ caller_tree s
tree-left s level v included root = ap₂ tree_in root (sym (ap (drop 1) included))

pub caller-same : (s t : Expander) → IsSame s t → caller_tree t ≡ caller_tree s
caller-same s t same = ap (λ (v : LevelsShown). tree_in v.root (drop 1 v.included)) same.levels

-- a list of the caller's text, where the page is left
pub list-left : (s t : Expander) (level : Level) (v : LevelsShown) (list : ListId) (items : List Item) → IsSame s t → t.levels.included ≡ level ∷ v.included → v.root ≡ t.levels.root → list_with (caller_tree s) list ≡ Some items → list_with (current (with_levels v t)) list ≡ Some items
list-left s t level v list items same included root e =
    ap (λ parsed. list_with parsed list) (tree-left t level v included root ∙ caller-same s t same) ∙ e

pub list-left-there : (s t : Expander) (level : Level) (v : LevelsShown) (list : ListId) → IsSame s t → t.levels.included ≡ level ∷ v.included → v.root ≡ t.levels.root → IsSome (list_with (caller_tree s) list) → IsSome (list_with (current (with_levels v t)) list)
list-left-there s t level v list same included root there =
    let items = some_part (list_with (caller_tree s) list) there in
    some_of (list_with (current (with_levels v t)) list) items.0 (list-left s t level v list items.0 same included root items.1)

pub within-same : (s t : Expander) → IsSame s t → 0 < length s.levels.included → 0 < length t.levels.included
within-same s t same h = subst (λ (v : LevelsShown). 0 < length v.included) (sym same.levels) h

-- ---- a page is entered

pub frame-entered : (s : Expander) (viewed : PageTitle) (frame : Frame) (level : Level) (w : LevelsShown) (bindings : List Binding) → w ≡ record s.levels { included = level ∷ s.levels.included } → ShowsBindings (current s) level.args bindings → IsFrame s viewed frame → IsFrame (with_levels w s) viewed (record { title = level.title; bindings = bindings } ∷ frame)
frame-entered s viewed frame level w bindings entered shows is = record {
  page = is.page;
  shows = subst (λ (v : LevelsShown). ShowsFrame v.root v.included (record { title = level.title; bindings = bindings } ∷ frame)) (sym entered)
      (refl, shows, is.shows);
}

-- a list of the page's text
pub list-entered : (s : Expander) (level : Level) (w : LevelsShown) (list : ListId) (items : List Item) → w ≡ record s.levels { included = level ∷ s.levels.included } → list_with level.tree list ≡ Some items → list_with (current (with_levels w s)) list ≡ Some items
list-entered s level w list items entered e = ap (λ (v : LevelsShown). list_with (tree_in v.root v.included) list) entered ∙ e

-- ---- the rules

module _ (inner : Frame → List Item → Expansion Output) (viewed : PageTitle) (frame : Frame) where
  abbrev pub behind_value : Bool → Output → Expansion Output
  behind_value named out = argument_within_limit (if named then trimmed_output out else out)

  abbrev pub run_value : Binding → Expansion Output
  run_value b = inner (caller frame) b.value >>= behind_value b.named

  pub value-is : (b : Binding) → argument_value inner viewed frame b ≡ charged (binding_length b / 64) (run_value b)
  unfolding argument_value
  value-is b = refl

  abbrev pub behind_bindings : PageTitle → PageTitle → List ℕ → List Binding → Expansion Output
  behind_bindings title source text bindings = inner (record { title = source; bindings = bindings } ∷ frame) (tree mode.Include text) >>= inclusion_within_limit title

  abbrev pub run_text : PageTitle → PageTitle → List ℕ → List Part → Expansion Output
  run_text title source text parts = with_bindings inner viewed frame 1 [] parts >>= behind_bindings title source text

  pub included-is : (title source : PageTitle) (text : List ℕ) (parts : List Part) → included inner viewed frame title source text parts ≡ charged (length text / 64) (run_text title source text parts)
  unfolding included
  included-is title source text parts = refl
