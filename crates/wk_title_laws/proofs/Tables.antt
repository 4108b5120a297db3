-- Facts about Unicode's tables that the law of titles stands on, each shown by a computation.
use Rattle.std.proofs.Common.{◌≡◌, ℕ, Bool, true, false, not, ◌&&◌, ◌||◌, ◌==◌, nat_lt, [], ap, refl, ◌∙◌}
use Rattle.std.specs.List.{list_all}
use Rattle.ucd_table.proofs.Facts.{tree_value, tree_of, tree_value-tree_of}
use Rattle.ucd_table.proofs.RangedFacts.{points_ok, values_ok, Stepped-at_points}
use Rattle.ucd_table.proofs.Computing.{tables}
use Rattle.ucd_normal.specs.declared.forms.Form.TheVariants.{Nfd, Nfc, Nfkc}
use Rattle.ucd_normal.specs.Binary.{is_full_composition_exclusion}
use Rattle.ucd_normal.specs.CanonicalCombiningClass.{canonical_combining_class as ccc}
use Rattle.ucd_normal.specs.Composition.{paired_with}
use Rattle.ucd_normal.specs.Compositions.{compositions}
use Rattle.ucd_normal.specs.Decomposition.{decomposition, expand}
use Rattle.ucd_normal.specs.QuickCheck.{quick_check}
use Rattle.ucd_normal.proofs.CompositionLemmas.{is_empty}
use Rattle.ucd_normal.proofs.CompositionsLemmas.{compositions_stepped}
use Rattle.ucd_normal.proofs.DecompositionLemmas.{decomposition_stepped}
use Rattle.unicode_normalization.proofs.TableFacts.{Tables, Entry, by_rows, pick, full}
use Rattle.wk_text_rules.specs.Titles.{is_direction_mark}

-- space, `#`, the colon, the underscore and the direction marks
abbrev pub is_special : ℕ → Bool
is_special c = c == 32 || c == 35 || c == 58 || c == 95 || is_direction_mark c

by_trees : Tables
unfolding tables points_ok values_ok paired_with expand decomposition_stepped compositions_stepped
by_trees =
    record {
      class = ccc;
      entry = tree_value decomposition_stepped.default (tree_of decomposition decomposition_stepped);
      excluded = is_full_composition_exclusion;
      pairs = tree_value compositions_stepped.default (tree_of compositions compositions_stepped);
      nfc = quick_check Nfc;
      nfkc = quick_check Nfkc;
    }

same_tables : by_rows ≡ by_trees
unfolding by_trees
same_tables =
    λ i. record {
      class = ccc;
      entry = tree_value-tree_of decomposition decomposition_stepped i;
      excluded = is_full_composition_exclusion;
      pairs = tree_value-tree_of compositions compositions_stepped i;
      nfc = quick_check Nfc;
      nfkc = quick_check Nfkc;
    }

-- a character that decomposes is no ASCII and not special, and decomposes to no special character
abbrev pub avoids_special : Tables → ℕ → Entry → Bool
avoids_special t c entry = not (nat_lt c 128) && not (is_special c) && list_all (λ x. not (is_special x)) (full t Nfd c)

pub decomposes_apart : (c : ℕ) → is_empty (pick Nfd (decomposition c)) ≡ false → avoids_special by_rows c (decomposition c) ≡ true
unfolding by_trees
decomposes_apart c some =
    ap (λ t. avoids_special t c (decomposition c)) same_tables
    ∙ Stepped-at_points decomposition decomposition_stepped (λ e. is_empty (pick Nfd e)) (avoids_special by_trees) refl c some

-- nothing composes onto these
pub pairs_of_space : compositions 32 ≡ []
unfolding by_trees
pairs_of_space = refl

pub pairs_of_colon : compositions 58 ≡ []
unfolding by_trees
pairs_of_colon = refl

pub pairs_of_underscore : compositions 95 ≡ []
unfolding by_trees
pairs_of_underscore = refl
