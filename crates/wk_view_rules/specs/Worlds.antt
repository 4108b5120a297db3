-- What pages there are, what is asked of them, and what was answered (own; titles and revisions are those of
-- MediaWiki's Manual:Page table).
use Rattle.std.specs.Prelude.{◌≡◌, ℕ, Bool, true, false, ◌&&◌, IsTrue, List, find, All, AllPairs, Option, Some, None, is_some, option_map}
use Rattle.wk_text_rules.specs.Titles.{PageTitle, title_eq}
use Rattle.wk_view_rules.specs.declared.Kind.{Kind}
use Rattle.wk_view_rules.specs.declared.Kind.TheVariants.{View, Include, Exists}

-- a page's current text, and the number of its revision
pub record PageText : Type 0 where
  pub revision : ℕ
  pub text : List ℕ

-- the pages that exist
abbrev pub World : Type 0
World = PageTitle → Option PageText

-- an answer: a page's text, or nothing where the page is missing; or whether it exists
pub data Answer : Type 0 where
  page : Option PageText → Answer
  existence : Bool → Answer

-- how a world answers: with text, but where existence is asked
abbrev pub answer_in : World → PageTitle → Kind → Answer
answer_in pages title View = page (pages title)
answer_in pages title Include = page (pages title)
answer_in pages title Exists = existence (is_some (pages title))

-- the text that an answer gives
abbrev pub page_of : Answer → Option PageText
page_of (page text) = text
page_of (existence there) = None

-- the page is there, by an answer
abbrev pub is_there : Answer → Bool
is_there (page text) = is_some text
is_there (existence there) = there

-- The mark of an answer: the number of the revision, 0 where the page is missing; of existence 1 or 0.
abbrev pub mark : Answer → ℕ
mark (page None) = 0
mark (page (Some text)) = text.revision
mark (existence true) = 1
mark (existence false) = 0

-- ---- what was asked and answered

pub record Read : Type 0 where
  pub title : PageTitle
  pub kind : Kind
  pub answer : Answer

abbrev pub kind_eq : Kind → Kind → Bool
kind_eq View View = true
kind_eq Include Include = true
kind_eq Exists Exists = true
kind_eq _ _ = false

-- this title was asked with this kind
abbrev pub is_read_of : PageTitle → Kind → Read → Bool
is_read_of title kind read = title_eq read.title title && kind_eq read.kind kind

-- an answer has the form that its kind asks for
abbrev pub fits_kind : Kind → Answer → Bool
fits_kind View (page text) = true
fits_kind Include (page text) = true
fits_kind Exists (existence there) = true
fits_kind _ _ = false

-- answers that were seen, in the order in which they were asked for
abbrev pub Seen : Type 0
Seen = List Read

-- Each pair of title and kind was asked once, and each answer has its kind's form.
pub record IsSeen (reads : Seen) : Type 0 where
  pub distinct : AllPairs (λ (a b : Read). is_read_of a.title a.kind b ≡ false) reads
  pub formed : All (λ (r : Read). IsTrue (fits_kind r.kind r.answer)) reads

-- ---- sources

-- What an expansion asks: a world, or the answers that were seen so far.
pub data Source : Type 0 where
  of_world : World → Source
  of_seen : Seen → Source

-- A world always answers. A list of reads answers what is in it.
abbrev pub ask : Source → PageTitle → Kind → Option Answer
ask (of_world pages) title kind = Some (answer_in pages title kind)
ask (of_seen reads) title kind = option_map (λ (r : Read). r.answer) (find (is_read_of title kind) reads)

-- The source gives each of the reads the answer that it has.
abbrev pub Agrees : Source → List Read → Type 0
Agrees source reads = All (λ (r : Read). ask source r.title r.kind ≡ Some r.answer) reads

-- a read's text, if it has one, is the text of its revision
abbrev pub HasItsText : (ℕ → Option (List ℕ)) → Option PageText → Type 0
HasItsText text_of None = Unit {0}
HasItsText text_of (Some p) = text_of p.revision ≡ Some p.text

-- Each text that was read is the text of its revision, by the texts of the revisions.
abbrev pub IsHonest : (ℕ → Option (List ℕ)) → List Read → Type 0
IsHonest text_of reads = All (λ (r : Read). HasItsText text_of (page_of r.answer)) reads
