-- How the plans of a text go together.
use Rattle.std.proofs.Common.{◌≡◌, ℕ, zero, suc, List, [], ◌∷◌, ◌++◌, codes, Some, None, refl, sym, ap, ◌∙◌, append_assoc, append-nil}
use Rattle.wk_tree_rules.specs.Tree.{Part, title_part, further_parts}
use Rattle.wk_tree_rules.specs.Trees.{Item, NodeKind, Content, opening_braces, closing_braces}
use Rattle.wk_view_rules.specs.Expansions.{Expansion, Progress, give, ◌>>=◌}
use Rattle.wk_view_rules.specs.Plans.{Plan, gives, asks, and_then}
use Rattle.wk_subst_rules.specs.Places.{Place}
use Rattle.wk_subst_rules.specs.Substitution.{as_written, item_text, items_text, substituted_items, whole_part, whole_parts}
use Rattle.wk_subst.specs.Nodes.{adds, charged_node, list_then}

-- three plans, one behind the other
pub plans-regrouped : {A B C : Type 0} (p : Plan A) (f : A → Plan B) (g : B → Plan C) → and_then (and_then p f) g ≡ and_then p (λ x. and_then (f x) g)
plans-regrouped (gives x) f g = refl
plans-regrouped (asks title kind more) f g = ap (asks title kind) (λ i answer. plans-regrouped (more answer) f g i)

pub regrouped : {A B C : Type 0} (e : Expansion A) (f : A → Expansion B) (g : B → Expansion C) → ((e >>= f) >>= g) ≡ (e >>= (λ x. f x >>= g))
regrouped e f g = λ i progress. plans-regrouped (e progress) (λ end. f end.0 end.1) (λ end. g end.0 end.1) i

pub bind-same : {A B : Type 0} (e : Expansion A) (f g : A → Expansion B) → ((x : A) → f x ≡ g x) → (e >>= f) ≡ (e >>= g)
bind-same e f g same = λ i. e >>= (λ x. same x i)

-- two pieces of a text, one behind the other, where what they give goes behind the text that there is
pub two-pieces : {A B : Type 0} (e : Expansion A) (f : A → Expansion B) (g h : A → B → List ℕ) (left : List ℕ → Expansion (List ℕ)) (out : List ℕ) → ((a : A) (b : B) → out ++ g a b ≡ h a b) → adds (e >>= (λ a. f a >>= (λ b. give (g a b)))) left out ≡ (e >>= (λ a. f a >>= (λ b. left (h a b))))
two-pieces {A = A} {B = B} e f g h left out same = λ i progress.
    let given : A → B × Progress → Plan (List ℕ × Progress) = λ a last. gives (g a last.0, last.1) in
    let behind : List ℕ × Progress → Plan (List ℕ × Progress) = λ end. left (out ++ end.0) end.1 in
    let one : A × Progress → Plan (List ℕ × Progress) = λ end. and_then (f end.0 end.1) (given end.0) in
    (plans-regrouped (e progress) one behind
    ∙ ap (and_then (e progress)) (λ j end.
    (plans-regrouped (f end.0 end.1) (given end.0) behind
    ∙ ap (and_then (f end.0 end.1)) (λ k last. left (same end.0 last.0 k) last.1)) j)) i

-- ---- lists

pub items-are : (few : ℕ) (place : Place) (items : List Item) → substituted_items few place items ≡ items_text place (charged_node few place) items
unfolding substituted_items
items-are zero place items = refl
items-are (suc few) place items = refl

module _ (few : ℕ) (place : Place) (left : List ℕ → Expansion (List ℕ)) (out : List ℕ) where
  pub list-is : (items : List Item) → adds (substituted_items few place items) left out ≡ list_then few place items left out
  unfolding list_then
  list-is items = ap (λ (e : Expansion (List ℕ)). adds e left out) (items-are few place items)

  pub list-end : list_then few place [] left out ≡ left out
  unfolding list_then items_text
  list-end = ap left (append-nil out)

  pub list-more : (i : Item) (items : List Item) → list_then few place (i ∷ items) left out ≡ adds (item_text place (charged_node few place) i) (list_then few place items left) out
  unfolding list_then items_text
  list-more i items =
      two-pieces (item_text place (charged_node few place) i) (λ first. items_text place (charged_node few place) items) (λ first later. first ++ later) (λ first later. (out ++ first) ++ later) left out
      (λ first later. sym (append_assoc out first later))

-- ---- nodes as they are written

whole-text : (out first later : List ℕ) (end : List ℕ) → (out ++ (codes "|" ++ (first ++ later))) ++ end ≡ (((out ++ codes "|") ++ first) ++ later) ++ end
whole-text out first later end =
    ap (λ (x : List ℕ). x ++ end) (sym (append_assoc out (codes "|") (first ++ later)) ∙ sym (append_assoc (out ++ codes "|") first later))

written-text : (out braces title parts end : List ℕ) → out ++ (braces ++ (title ++ (parts ++ end))) ≡ (((out ++ braces) ++ title) ++ parts) ++ end
written-text out braces title parts end =
    sym (append_assoc out braces (title ++ (parts ++ end)))
    ∙ sym (append_assoc (out ++ braces) title (parts ++ end))
    ∙ sym (append_assoc ((out ++ braces) ++ title) parts end)

named-text : (out name value : List ℕ) → out ++ (name ++ (codes "=" ++ value)) ≡ ((out ++ name) ++ codes "=") ++ value
named-text out name value = sym (append_assoc out name (codes "=" ++ value)) ∙ sym (append_assoc (out ++ name) (codes "=") value)

module _ (inner : Place → List Item → Expansion (List ℕ)) (place : Place) (left : List ℕ → Expansion (List ℕ)) (out : List ℕ) where
  -- behind a part, to the closing braces
  abbrev pub ends_with : NodeKind → List ℕ → Expansion (List ℕ)
  ends_with kind made = left (made ++ closing_braces kind)

  pub parts-end : (kind : NodeKind) → adds (whole_parts inner place []) (ends_with kind) out ≡ left (out ++ closing_braces kind)
  unfolding whole_parts
  parts-end kind = ap (ends_with kind) (append-nil out)

  pub parts-more : (kind : NodeKind) (part : Part) (parts : List Part) → adds (whole_parts inner place (part ∷ parts)) (ends_with kind) out ≡ adds (whole_part inner place part) (adds (whole_parts inner place parts) (ends_with kind)) (out ++ codes "|")
  unfolding whole_parts
  parts-more kind part parts =
      two-pieces (whole_part inner place part) (λ first. whole_parts inner place parts) (λ first later. codes "|" ++ (first ++ later)) (λ first later. out ++ (codes "|" ++ (first ++ later))) (ends_with kind) out (λ first later. refl)
      ∙ bind-same (whole_part inner place part) (λ first. whole_parts inner place parts >>= (λ later. ends_with kind (out ++ (codes "|" ++ (first ++ later))))) (λ first. adds (whole_parts inner place parts) (ends_with kind) ((out ++ codes "|") ++ first))
      (λ first. bind-same (whole_parts inner place parts) (λ later. ends_with kind (out ++ (codes "|" ++ (first ++ later)))) (λ later. ends_with kind (((out ++ codes "|") ++ first) ++ later)) (λ later. ap left (whole-text out first later (closing_braces kind))))

  pub written-is : (kind : NodeKind) (content : Content) → adds (as_written inner place kind content) left out ≡ adds (inner place (title_part content)) (adds (whole_parts inner place (further_parts content)) (ends_with kind)) (out ++ opening_braces kind)
  unfolding as_written
  written-is kind content =
      two-pieces (inner place (title_part content)) (λ title. whole_parts inner place (further_parts content)) (λ title parts. opening_braces kind ++ (title ++ (parts ++ closing_braces kind)))
      (λ title parts. (((out ++ opening_braces kind) ++ title) ++ parts) ++ closing_braces kind) left out
      (λ title parts. written-text out (opening_braces kind) title parts (closing_braces kind))

  pub whole-named : (part : Part) (name : List Item) → part.name ≡ Some name → adds (whole_part inner place part) left out ≡ adds (inner place name) (λ made. adds (inner place part.value) left (made ++ codes "=")) out
  unfolding whole_part
  whole-named part name e = rw e
      (two-pieces (inner place name) (λ name_text. inner place part.value) (λ name_text value_text. name_text ++ (codes "=" ++ value_text)) (λ name_text value_text. ((out ++ name_text) ++ codes "=") ++ value_text) left out
      (λ name_text value_text. named-text out name_text value_text))

  pub whole-bare : (part : Part) → part.name ≡ None → adds (whole_part inner place part) left out ≡ adds (inner place part.value) left out
  unfolding whole_part
  whole-bare part e = rw e refl
