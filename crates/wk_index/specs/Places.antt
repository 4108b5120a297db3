-- Titles with the pages that are found by them, as they are gathered.
use Rattle.std.specs.Prelude.{◌≡◌, ℕ, ℤ, Bool, true, List, Some}
use Rattle.std.specs.BTreeMap.{BTreeMap, get}
use Rattle.std.specs.List.{list_any}
use Rattle.wk_text_rules.specs.Titles.{PageTitle, title_eq}
use Rattle.wk_index.specs.declared.pages_by_title.TitlePages.{TitlePages}
use Rattle.wk_index.specs.Named.{KeptIn, Sets, has, has_at}
use Rattle.wk_index.specs.TitleMap.{place_cmp}

-- titles with the pages that are found by them, by the number of their namespace and their key
abbrev pub Places : Type 0
Places = BTreeMap (ℤ × List ℕ) TitlePages

-- at the number of a namespace and a key stands the title of the two, if any
abbrev pub AreTitled : Places → Type 0
AreTitled titles = (place : ℤ × List ℕ) (known : TitlePages) → get place_cmp titles place ≡ Some known → known.title ≡ record { ns = place.0; key = place.1 }

-- the number of the namespace and the key of a title
abbrev pub place_of : PageTitle → ℤ × List ℕ
place_of title = (title.ns, title.key)

-- the page is found by the title
abbrev pub gathers : Places → PageTitle → ℕ → Bool
gathers = has_at place_cmp place_of (λ (known : TitlePages). known.pages.items)

-- what was found is found still
abbrev pub Grows : Places → Places → Type 0
Grows = KeptIn gathers

-- the page is found by all these titles
abbrev pub GathersTitles : List PageTitle → ℕ → Places → Type 0
GathersTitles titles page places = (title : PageTitle) → list_any (title_eq title) titles ≡ true → gathers places title page ≡ true

-- what was gathered is found by the sets
abbrev pub AddsGathered : Places → Sets → Type 0
AddsGathered places named = (title : PageTitle) (page : ℕ) → gathers places title page ≡ true → has named title page ≡ true
