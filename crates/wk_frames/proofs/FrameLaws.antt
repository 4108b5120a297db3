-- The pages that include each other as a frame.
use Rattle.std.proofs.Common.{◌≡◌, ℕ, suc, Bool, ◌||◌, List, [], ◌∷◌, length, drop, refl, sym, ap, ap₂}
use Rattle.std.specs.List.{list_any}
use Rattle.wk_text_rules.specs.Titles.{PageTitle, title_eq}
use Rattle.wk_tree.specs.Parsed.{ParsedText}
use Rattle.wk_view_rules.specs.Frames.{Frame, is_within, bound}
use Rattle.wk_frames.specs.Frames.{ShowsFrame, IsBindingIn}
use Rattle.wk_frames.specs.Levels.{tree_in, look_in}
use Rattle.wk_frames.specs.declared.levels.Level.{Level}

pub within-shown : (root : ParsedText) (levels : List Level) (frame : Frame) (title : PageTitle) → ShowsFrame root levels frame → list_any (λ (l : Level). title_eq l.title title) levels ≡ is_within frame title
within-shown root [] [] title h = refl
within-shown root (level ∷ levels) (l ∷ frame) title h = ap₂ (λ (t : PageTitle) (later : Bool). title_eq t title || later) (sym h.0) (within-shown root levels frame title h.2)
within-shown root [] (l ∷ frame) title h = absurd h
within-shown root (level ∷ levels) [] title h = absurd h

pub length-shown : (root : ParsedText) (levels : List Level) (frame : Frame) → ShowsFrame root levels frame → length levels ≡ length frame
length-shown root [] [] h = refl
length-shown root (level ∷ levels) (l ∷ frame) h = ap suc (length-shown root levels frame h.2)
length-shown root [] (l ∷ frame) h = absurd h
length-shown root (level ∷ levels) [] h = absurd h

-- ---- what is bound in the innermost page

pub bound-shown : (root : ParsedText) (levels : List Level) (frame : Frame) (name : List ℕ) → ShowsFrame root levels frame → IsBindingIn (tree_in root (drop 1 levels)) (look_in levels name) (bound frame name)
bound-shown root [] [] name h = tt
bound-shown root [] (l ∷ frame) name h = absurd h
bound-shown root (x ∷ xs) [] name h = absurd h
bound-shown root (x ∷ xs) (l ∷ frame) name h = h.1.shows name
