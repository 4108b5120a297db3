-- The modules that a request may call, and the parameters that each of them has (MediaWiki's API:Main page, API:Query
-- and the page of each module).
use Rattle.std.specs.Prelude.{ℕ, Bool, true, false, List, [], ◌∷◌, find, bytes_eq, codes, Option, Some, None, is_some, if◌then◌else◌}
use Rattle.wk_form.specs.Parameters.{Parameters, first_value}
use Rattle.wk_request_rules.specs.declared.Module.{Module}
use Rattle.wk_request_rules.specs.declared.Module.TheVariants.{Edit, Delete, Parse, ExpandTemplates, Backlinks, EmbeddedIn, CategoryMembers, RecentChanges, Revisions, Tokens, SiteInfo}

-- ---- which module is called

-- the actions, but for `query`, whose modules follow
abbrev pub actions : List (List ℕ × Module)
actions =
    (codes "edit", Edit) ∷ (codes "delete", Delete) ∷ (codes "parse", Parse) ∷ (codes "expandtemplates", ExpandTemplates) ∷ []

abbrev pub query_lists : List (List ℕ × Module)
query_lists =
    (codes "backlinks", Backlinks) ∷ (codes "embeddedin", EmbeddedIn) ∷ (codes "categorymembers", CategoryMembers)
    ∷ (codes "recentchanges", RecentChanges) ∷ []

abbrev pub query_props : List (List ℕ × Module)
query_props = (codes "revisions", Revisions) ∷ []

abbrev pub query_metas : List (List ℕ × Module)
query_metas = (codes "tokens", Tokens) ∷ (codes "siteinfo", SiteInfo) ∷ []

-- a module, or the parameter whose value names none
pub data ModuleCalled : Type 0 where
  known : Module → ModuleCalled
  unknown : List ℕ → ModuleCalled

-- the module that this parameter's value names in a table; a parameter that is missing names none
abbrev pub named_in : List (List ℕ × Module) → List ℕ → Parameters → ModuleCalled
named_in table parameter params = elim (first_value parameter params) [
  | None ↦ unknown parameter
  | Some value ↦ elim (find (λ entry. bytes_eq entry.0 value) table) [ None ↦ unknown parameter | Some entry ↦ known entry.1 ]
]

-- the parameter is there, whatever its value is
abbrev pub is_given : List ℕ → Parameters → Bool
is_given parameter params = is_some (first_value parameter params)

-- the first value of the parameter is this one
abbrev pub has_value : List ℕ → List ℕ → Parameters → Bool
has_value parameter value params = elim (first_value parameter params) [ None ↦ false | Some given ↦ bytes_eq given value ]

-- the parameters that name the modules of a query
abbrev pub query_kinds : List (List ℕ × List (List ℕ × Module))
query_kinds = (codes "list", query_lists) ∷ (codes "prop", query_props) ∷ (codes "meta", query_metas) ∷ []

-- A query has the first of `list`, `prop` and `meta` that is there (own); with none of them `list` is missing.
abbrev pub query_module : Parameters → ModuleCalled
query_module params = elim (find (λ kind. is_given kind.0 params) query_kinds) [
  | None ↦ unknown (codes "list")
  | Some kind ↦ named_in kind.1 kind.0 params
]

abbrev pub module_called : Parameters → ModuleCalled
module_called params =
    if has_value (codes "action") (codes "query") params then query_module params
    else named_in actions (codes "action") params

-- ---- what each module takes

-- it saves a page: it must be posted, with a token, and may name the revision that the editor began with
abbrev pub saves : Module → Bool
saves Edit = true
saves Delete = true
saves _ = false

-- the parameter with the title that it must have
abbrev pub title_parameter : Module → Option (List ℕ)
title_parameter Edit = Some (codes "title")
title_parameter Delete = Some (codes "title")
title_parameter Parse = Some (codes "page")
title_parameter Backlinks = Some (codes "bltitle")
title_parameter EmbeddedIn = Some (codes "eititle")
title_parameter CategoryMembers = Some (codes "cmtitle")
title_parameter Revisions = Some (codes "titles")
title_parameter _ = None

-- it must have a text
abbrev pub needs_text : Module → Bool
needs_text Edit = true
needs_text ExpandTemplates = true
needs_text _ = false

abbrev pub base_parameter : Module → Option (List ℕ)
base_parameter m = if saves m then Some (codes "baserevid") else None

-- the most entries that are listed
abbrev pub limit_parameter : Module → Option (List ℕ)
limit_parameter Backlinks = Some (codes "bllimit")
limit_parameter EmbeddedIn = Some (codes "eilimit")
limit_parameter CategoryMembers = Some (codes "cmlimit")
limit_parameter RecentChanges = Some (codes "rclimit")
limit_parameter Revisions = Some (codes "rvlimit")
limit_parameter _ = None

-- where the listing goes on
abbrev pub continue_parameter : Module → Option (List ℕ)
continue_parameter Backlinks = Some (codes "blcontinue")
continue_parameter EmbeddedIn = Some (codes "eicontinue")
continue_parameter CategoryMembers = Some (codes "cmcontinue")
continue_parameter RecentChanges = Some (codes "rccontinue")
continue_parameter Revisions = Some (codes "rvcontinue")
continue_parameter _ = None
