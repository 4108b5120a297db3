-- A template as it is written, part by part.
use Rattle.std.proofs.Common.{◌≡◌, ℕ, zero, suc, ◌+◌, List, [], ◌∷◌, ◌++◌, drop, codes, Some, refl, ap, ◌∙◌, arith, append_assoc, append-nil}
use Rattle.std.specs.List.{slice_get}
use Rattle.wk_text_rules.specs.Marked.{MarkedByte, all_plain}
use Rattle.wk_text_rules.specs.Titles.{PageTitle}
use Rattle.wk_tree_rules.specs.Tree.{Part}
use Rattle.wk_tree_rules.specs.Trees.{Item}
use Rattle.wk_view_rules.specs.Expand.{whole_part, written_parts, template_as_written}
use Rattle.wk_view_rules.specs.Expansions.{Expansion, Output, Progress, give, ◌>>=◌}
use Rattle.wk_view_rules.specs.Frames.{Frame}
use Rattle.wk_view_rules.specs.Plans.{Plan, gives, asks, and_then}
use Rattle.wk_expand.specs.Nodes.{rest_written}

-- three plans, one behind the other
pub plans-regrouped : {A B C : Type 0} (p : Plan A) (f : A → Plan B) (g : B → Plan C) → and_then (and_then p f) g ≡ and_then p (λ x. and_then (f x) g)
plans-regrouped (gives x) f g = refl
plans-regrouped (asks title kind more) f g = ap (asks title kind) (λ i answer. plans-regrouped (more answer) f g i)

pub regrouped : {A B C : Type 0} (e : Expansion A) (f : A → Expansion B) (g : B → Expansion C) → ((e >>= f) >>= g) ≡ (e >>= (λ x. f x >>= g))
regrouped e f g = λ i progress. plans-regrouped (e progress) (λ end. f end.0 end.1) (λ end. g end.0 end.1) i

pub bind-same : {A B : Type 0} (e : Expansion A) (f g : A → Expansion B) → ((x : A) → f x ≡ g x) → (e >>= f) ≡ (e >>= g)
bind-same e f g same = λ i. e >>= (λ x. same x i)

pub drop-some : {X : Type 0} (xs : List X) (i : ℕ) (x : X) → slice_get xs i ≡ Some x → drop i xs ≡ x ∷ drop (i + 1) xs
drop-some [] i x e = cc
drop-some (y ∷ xs) zero x e = let same : y ≡ x = cc in ap (λ z. z ∷ xs) same
drop-some (y ∷ xs) (suc i) x e =
    let same : suc (i + 1) ≡ suc i + 1 = omega arith in
    drop-some xs i x e ∙ ap (λ n. x ∷ drop n (y ∷ xs)) same

parted : (out bar first : List MarkedByte) → out ++ bar ++ first ≡ (out ++ bar) ++ first
parted out bar first = simp append_assoc

grouped : (out bar first later end : List MarkedByte) → out ++ (bar ++ first ++ later) ++ end ≡ out ++ bar ++ first ++ later ++ end
grouped out bar first later end = simp append_assoc

module _ (inner : Frame → List Item → Expansion Output) (viewed : PageTitle) (frame : Frame) where
  pub written-start : (name : Output) (parts : List Part) → template_as_written inner viewed frame name parts ≡ rest_written inner viewed frame (all_plain (codes "{{") ++ name) parts
  unfolding template_as_written
  written-start name parts = refl

  pub written-end : (out : Output) → rest_written inner viewed frame out [] ≡ give (out ++ all_plain (codes "}}"))
  unfolding written_parts
  written-end out = ap (λ o. give (o ++ all_plain (codes "}}"))) (append-nil out)

  abbrev pub behind_part : Output → List Part → Output → Expansion Output
  behind_part out parts first = rest_written inner viewed frame (out ++ all_plain (codes "|") ++ first) parts

  pub behind-part-is : (out : Output) (parts : List Part) (first : Output) → behind_part out parts first ≡ rest_written inner viewed frame ((out ++ all_plain (codes "|")) ++ first) parts
  behind-part-is out parts first = ap (λ (o : Output). rest_written inner viewed frame o parts) (parted out (all_plain (codes "|")) first)

  abbrev after_part : List Part → Output × Progress → Plan (Output × Progress)
  after_part parts end = and_then (written_parts inner viewed frame parts end.1) (λ last. gives (all_plain (codes "|") ++ end.0 ++ last.0, last.1))

  abbrev closed : Output → Output × Progress → Plan (Output × Progress)
  closed out end = gives (out ++ end.0 ++ all_plain (codes "}}"), end.1)

  pub written-more : (out : Output) (part : Part) (parts : List Part) → rest_written inner viewed frame out (part ∷ parts) ≡ (whole_part inner viewed frame part >>= behind_part out parts)
  unfolding written_parts
  written-more out part parts = λ i progress.
      (plans-regrouped (whole_part inner viewed frame part progress) (after_part parts) (closed out)
      ∙ ap (and_then (whole_part inner viewed frame part progress)) (λ j end.
      (plans-regrouped (written_parts inner viewed frame parts end.1) (λ last. gives (all_plain (codes "|") ++ end.0 ++ last.0, last.1)) (closed out)
      ∙ ap (and_then (written_parts inner viewed frame parts end.1)) (λ k last. gives (grouped out (all_plain (codes "|")) end.0 last.0 (all_plain (codes "}}")) k, last.1))) j)) i
