-- What the server says of itself, after `connection-info` of SLIME's `swank.lisp`.
use Rattle.std.specs.Prelude.{ℕ, pos, List, [], ◌∷◌, ◌++◌, codes}
use Rattle.lisp_data.specs.declared.sexp.Sexp.{Sexp}
use Rattle.lisp_data.specs.declared.sexp.Sexp.TheVariants as form

-- `(:coding-systems ("utf-8-unix"))`
abbrev pub encoding : Sexp
encoding = form.List (form.Sym (codes ":CODING-SYSTEMS") ∷ form.List (form.Str (codes "utf-8-unix") ∷ []) ∷ [])

-- `(:type "Profile" :name "profile" :version "1")`
abbrev pub implementation : Sexp
implementation = form.List (form.Sym (codes ":TYPE") ∷ form.Str (codes "Profile") ∷ form.Sym (codes ":NAME") ∷ form.Str (codes "profile") ∷ form.Sym (codes ":VERSION") ∷ form.Str (codes "1") ∷ [])

-- `(:instance "none")`
abbrev pub machine : Sexp
machine = form.List (form.Sym (codes ":INSTANCE") ∷ form.Str (codes "none") ∷ [])

-- `(:name NAME :prompt PROMPT)`
abbrev pub package_line : List ℕ → List ℕ → Sexp
package_line name prompt = form.List (form.Sym (codes ":NAME") ∷ form.Str name ∷ form.Sym (codes ":PROMPT") ∷ form.Str prompt ∷ [])

-- the part that is the same in every session
abbrev pub about_server : List Sexp
about_server =
    form.Sym (codes ":PID") ∷ form.Int (pos 0)
    ∷ form.Sym (codes ":STYLE") ∷ form.Sym (codes ":SPAWN")
    ∷ form.Sym (codes ":ENCODING") ∷ encoding
    ∷ form.Sym (codes ":LISP-IMPLEMENTATION") ∷ implementation
    ∷ form.Sym (codes ":MACHINE") ∷ machine
    ∷ []

-- the part on the image, with the name and the prompt of the global package
abbrev pub about_image : List ℕ → List ℕ → List Sexp
about_image name prompt =
    form.Sym (codes ":FEATURES") ∷ form.List []
    ∷ form.Sym (codes ":MODULES") ∷ form.List []
    ∷ form.Sym (codes ":PACKAGE") ∷ package_line name prompt
    ∷ form.Sym (codes ":VERSION") ∷ form.Str (codes "2.28")
    ∷ []

-- what the server says of itself, where the global package has this name and this prompt
abbrev pub info : List ℕ → List ℕ → Sexp
info name prompt = form.List (about_server ++ about_image name prompt)
