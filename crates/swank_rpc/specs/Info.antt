-- What the server says of the global package and the packages, after `connection-info`, `create-repl` and `set-package` of SLIME's
-- `swank.lisp`.
use Rattle.std.specs.Prelude.{ℕ, List, [], ◌∷◌, map, take, slice_get, option_map, option_and_then, unwrap_or}
use Rattle.lisp_data.specs.declared.sexp.Sexp.{Sexp}
use Rattle.lisp_data.specs.declared.sexp.Sexp.TheVariants as form
use Rattle.lisp_packages.specs.Packages.{place_of, prompt_of}
use Rattle.lisp_packages.specs.declared.lisp_package.Package.{Package}
use Rattle.rpc_messages.specs.Cut.{cut}
use Rattle.server_info.specs.Info.{info}
use Rattle.step_model.specs.CurrentPackage.{global_package}
use Rattle.step_model.specs.Image.{ImageState}

-- ---- the global package

-- what a prompt shows for the package of a name: its first nickname, else its name
abbrev pub prompt : List Package → List ℕ → List ℕ
prompt ps name = unwrap_or (option_map prompt_of (option_and_then (slice_get ps) (place_of ps name))) name

abbrev pub named_with_prompt : List Package → List ℕ → Sexp
named_with_prompt ps name = form.List (form.Str name ∷ form.Str (prompt ps name) ∷ [])

-- `(NAME PROMPT)` of the global package
abbrev pub repl_package : ImageState → Sexp
repl_package image = named_with_prompt image.packages (global_package image)

-- how many names a list of packages has at most
abbrev pub max_items : ℕ
max_items = 1000

-- the names of the first 1,000 packages, in order of making, each cut where it is long
abbrev pub package_names : List Package → Sexp
package_names ps = form.List (map (λ p. form.Str (cut p.name)) (take max_items ps))

-- the answer of `connection-info`
abbrev pub connection_info : ImageState → Sexp
connection_info image = info (global_package image) (prompt image.packages (global_package image))
