-- What is listed of what was found.
use Rattle.std.proofs.Common.{◌≡◌, ℕ, cond, List, [], ◌∷◌, length, map, take, Option, Some, None, refl, sym, ap, ap₂, ◌∙◌}
use Rattle.std.specs.Prelude.{nat_lt, option_map}
use Rattle.std.specs.List.{last_or}
use Rattle.std.proofs.lemmas.List.{take-map, length-map}
use Rattle.std.proofs.lemmas.Simd.{map-map}
use Rattle.serde_json.specs.Data.{Data}
use Rattle.wk_page_rules.specs.History.{History, Revision}
use Rattle.wk_answer_rules.specs.Lists.{last_listed, revisions_listed}
use Rattle.wk_answer_rules.specs.Values.{array_of, object_of, reply_beside}
use Rattle.wk_replies.specs.Listed.{listed_entries}
use Rattle.wk_listings.specs.Replied.{value_at}
use Rattle.wk_listings.specs.Owners.{numbered_at}
use Rattle.wk_listings.specs.Shapes.{entries_in}
use Rattle.wk_listings.specs.declared.entries.Shape.{Shape}

last-mapped : {X : Type 0} (g : ℕ → ℕ × X) (by : (n : ℕ) → (g n).0 ≡ n) (o : Option ℕ) (ns : List ℕ)
    → option_map (λ (r : ℕ × X). r.0) (last_or (option_map g o) (map g ns)) ≡ option_map (λ (n : ℕ). n) (last_or o ns)
last-mapped g by None [] = refl
last-mapped g by (Some n) [] = ap Some (by n)
last-mapped g by o (n ∷ ns) = last-mapped g by (Some n) ns

place-mapped : {X : Type 0} (g : ℕ → ℕ × X) (by : (n : ℕ) → (g n).0 ≡ n) (limit : ℕ) (ns : List ℕ)
    → last_listed (λ (r : ℕ × X). r.0) limit (map g ns) ≡ last_listed (λ n. n) limit ns
place-mapped g by limit ns =
    rw (length-map ns g, take-map g limit ns)
    (ap (λ (o : Option ℕ). cond (nat_lt limit (length ns)) o None) (last-mapped g by None (take limit ns)))

pub revisions_are_listed : (name : List ℕ) (h : History) (shape : Shape) (limit : ℕ) (numbers : List ℕ) (point : ℕ)
    → (reply_beside (listed_entries name (last_listed (λ n. n) limit numbers)
    (array_of (map (λ n. object_of (entries_in h shape (numbered_at h n))) (take limit numbers)))) point).value
    ≡ value_at point (revisions_listed name (entries_in h shape) limit (map (numbered_at h) numbers))
revisions_are_listed name h shape limit numbers point =
    let place = place-mapped (numbered_at h) (λ n. refl) limit numbers in
    let entries : map (λ n. object_of (entries_in h shape (numbered_at h n))) (take limit numbers)
    ≡ map (λ (r : ℕ × Revision). object_of (entries_in h shape r)) (take limit (map (numbered_at h) numbers))
    = sym (map-map (λ (r : ℕ × Revision). object_of (entries_in h shape r)) (numbered_at h) (take limit numbers))
    ∙ ap (map (λ (r : ℕ × Revision). object_of (entries_in h shape r))) (sym (take-map (numbered_at h) limit numbers)) in
    ap₂ (λ (o : Option ℕ) (l : List Data). (reply_beside (listed_entries name o (array_of l)) point).value) (sym place) entries
