-- The rules of an inclusion, case by case.
use Rattle.std.proofs.Common.{◌≡◌, ℕ, ◌+◌, ◌/◌, true, false, List, length, Option, Some, None, refl, ap, subst}
use Rattle.std.specs.Bool.{nat_le}
use Rattle.wk_text_rules.specs.Titles.{PageTitle, is_virtual}
use Rattle.wk_tree_rules.specs.Redirects.{redirect_target}
use Rattle.wk_tree_rules.specs.Tree.{Part}
use Rattle.wk_tree_rules.specs.Trees.{Item}
use Rattle.wk_view_rules.specs.Expand.{included, redirected, included_text, inclusion}
use Rattle.wk_view_rules.specs.Expansions.{Expansion, Output, give, answer_to, charged, ◌>>=◌, most_depth}
use Rattle.wk_view_rules.specs.Frames.{Frame, is_within}
use Rattle.wk_view_rules.specs.Texts.{loop_error, depth_error, link_text}
use Rattle.wk_view_rules.specs.Worlds.{Answer, Seen, page_of}
use Rattle.wk_view_rules.specs.declared.Kind.TheVariants.{Include}
use Rattle.wk_expand.specs.Running.{ComesTo, StopsAt}
use Rattle.wk_expand.specs.declared.state.Expander.{Expander}
use Rattle.wk_expand.specs.declared.state.Stop.{Stop}
use Rattle.wk_expand.proofs.RunLaws.{comes-bind, comes-in, stops-as, stops-bind}

module _ (inner : Frame → List Item → Expansion Output) (viewed : PageTitle) (frame : Frame) (title : PageTitle) (parts : List Part) where
  pub inclusion-virtual : is_virtual title ≡ true → inclusion inner viewed frame title parts ≡ give (link_text title)
  unfolding inclusion
  inclusion-virtual virtual = rw virtual refl

  pub inclusion-loop : is_virtual title ≡ false → is_within frame title ≡ true → inclusion inner viewed frame title parts ≡ give (loop_error title)
  unfolding inclusion
  inclusion-loop real within = rw (real, within) refl

  pub inclusion-deep : is_virtual title ≡ false → is_within frame title ≡ false → nat_le most_depth (length frame) ≡ true → inclusion inner viewed frame title parts ≡ give (depth_error title)
  unfolding inclusion
  inclusion-deep real outside deep = rw (real, outside, deep) refl

  -- by the answer to a title
  abbrev pub by_text : Answer → Expansion Output
  by_text answer = elim (page_of answer) [ None ↦ give (link_text title) | Some p ↦ included_text inner viewed frame title p.text parts ]

  pub inclusion-asks : is_virtual title ≡ false → is_within frame title ≡ false → nat_le most_depth (length frame) ≡ false → inclusion inner viewed frame title parts ≡ (answer_to title Include >>= by_text)
  unfolding inclusion
  inclusion-asks real outside shallow = rw (real, outside, shallow) refl

  -- by the title that a text redirects to
  abbrev pub by_redirect : List ℕ → Option PageTitle → Expansion Output
  by_redirect text found = elim found [
    | None ↦ included inner viewed frame title title text parts
    | Some target ↦ charged (1 + length text / 64) (redirected inner viewed frame title target parts)
  ]

  pub included_text-by : (text : List ℕ) (found : Option PageTitle) → redirect_target text ≡ found → included_text inner viewed frame title text parts ≡ by_redirect text found
  unfolding included_text
  included_text-by text found e = ap (by_redirect text) e

  pub redirected-loop : (target : PageTitle) → is_within frame target ≡ true → redirected inner viewed frame title target parts ≡ give (loop_error target)
  unfolding redirected
  redirected-loop target within = rw within refl

  abbrev pub by_target : PageTitle → Answer → Expansion Output
  by_target target answer = elim (page_of answer) [ None ↦ give (link_text title) | Some p ↦ included inner viewed frame title target p.text parts ]

  pub redirected-asks : (target : PageTitle) → is_within frame target ≡ false → redirected inner viewed frame title target parts ≡ (answer_to target Include >>= by_target target)
  unfolding redirected
  redirected-asks target outside = rw outside refl

  -- ---- where an answer leads

  pub redirected-comes : (seen : Seen) (s t : Expander) (target : PageTitle) (answer : Answer) → is_within frame target ≡ false → ComesTo seen (answer_to target Include) s (give answer) t → ComesTo seen (redirected inner viewed frame title target parts) s (by_target target answer) t
  redirected-comes seen s t target answer outside h =
      comes-in seen (redirected inner viewed frame title target parts) (answer_to target Include >>= by_target target) (by_target target answer) s t (redirected-asks target outside)
      (comes-bind seen (answer_to target Include) (by_target target) s answer t h)

  pub redirected-stops : (seen : Seen) (s : Expander) (target : PageTitle) (stop : Stop) → is_within frame target ≡ false → StopsAt seen (answer_to target Include) s stop → StopsAt seen (redirected inner viewed frame title target parts) s stop
  redirected-stops seen s target stop outside h =
      stops-as seen (redirected inner viewed frame title target parts) (answer_to target Include >>= by_target target) s stop (redirected-asks target outside)
      (stops-bind seen (answer_to target Include) (by_target target) s stop h)

  pub inclusion-comes : (seen : Seen) (s t : Expander) (answer : Answer) → is_virtual title ≡ false → is_within frame title ≡ false → nat_le most_depth (length frame) ≡ false → ComesTo seen (answer_to title Include) s (give answer) t → ComesTo seen (inclusion inner viewed frame title parts) s (by_text answer) t
  inclusion-comes seen s t answer real outside shallow h =
      comes-in seen (inclusion inner viewed frame title parts) (answer_to title Include >>= by_text) (by_text answer) s t (inclusion-asks real outside shallow)
      (comes-bind seen (answer_to title Include) by_text s answer t h)

  pub inclusion-stops : (seen : Seen) (s : Expander) (stop : Stop) → is_virtual title ≡ false → is_within frame title ≡ false → nat_le most_depth (length frame) ≡ false → StopsAt seen (answer_to title Include) s stop → StopsAt seen (inclusion inner viewed frame title parts) s stop
  inclusion-stops seen s stop real outside shallow h =
      stops-as seen (inclusion inner viewed frame title parts) (answer_to title Include >>= by_text) s stop (inclusion-asks real outside shallow)
      (stops-bind seen (answer_to title Include) by_text s stop h)

  -- a text that redirects is charged first
  pub redirect-comes : (seen : Seen) (s t : Expander) (text : List ℕ) (n : ℕ) (target : PageTitle) (rest : Expansion Output) → redirect_target text ≡ Some target → n ≡ length text → ComesTo seen (charged (1 + n / 64) (redirected inner viewed frame title target parts)) s rest t → ComesTo seen (included_text inner viewed frame title text parts) s rest t
  redirect-comes seen s t text n target rest to is h =
      comes-in seen (included_text inner viewed frame title text parts) (charged (1 + length text / 64) (redirected inner viewed frame title target parts)) rest s t (included_text-by text (Some target) to)
      (subst (λ k. ComesTo seen (charged (1 + k / 64) (redirected inner viewed frame title target parts)) s rest t) is h)
