-- The standard names in a fresh image.
use Rattle.std.proofs.Common.{◌≡◌, ◌∙◌, ap, refl, ℕ, List, map}
use Rattle.std.specs.Prelude.{Some}
use Rattle.lisp_data.specs.Symbols.{cl}
use Rattle.lisp_packages.specs.Entries.{entry_of}
use Rattle.lisp_packages.specs.Fresh.{standard_entry, standard_names, standard_packages}
use Rattle.lisp_packages.specs.Packages.{external_at, only_external, own_at}
use Rattle.lisp_packages.specs.declared.entry.Entry.{Entry}

pub own-standard : own_at standard_packages 0 ≡ map standard_entry standard_names
unfolding standard_packages
own-standard = refl

-- a name that is among them is that of an external symbol
pub standard-found : (name : List ℕ) → entry_of (map standard_entry standard_names) name ≡ Some (standard_entry name) → external_at standard_packages 0 name ≡ Some (cl name)
standard-found name e = ap (λ (own : List Entry). only_external (entry_of own name)) own-standard ∙ ap only_external e
