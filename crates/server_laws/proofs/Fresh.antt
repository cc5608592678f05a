-- The packages of a fresh image have short names.
use Rattle.std.proofs.Common.{◌≡◌, true, List, [], ◌∷◌, refl, ap, ◌∙◌}
use Rattle.std.specs.Prelude.{codes}
use Rattle.lisp_data.specs.Symbols.{common_lisp, keyword_package}
use Rattle.lisp_image.specs.Image.{fresh_image}
use Rattle.lisp_packages.specs.declared.entry.Entry.{Entry}
use Rattle.lisp_packages.specs.declared.lisp_package.Package.{Package}
use Rattle.lisp_packages.specs.Fresh.{standard_packages, standard_packages-is}
use Rattle.server_laws.specs.Small.{HasShortNames, are_short}

-- the three packages, with any symbols of COMMON-LISP
abbrev three : List Entry → List Package
three own =
    (record { name = common_lisp; nicknames = codes "CL" ∷ []; uses = []; own = own })
    ∷ (record { name = codes "COMMON-LISP-USER"; nicknames = codes "CL-USER" ∷ []; uses = 0 ∷ []; own = [] })
    ∷ (record { name = keyword_package; nicknames = []; uses = []; own = [] })
    ∷ []

three_short : (own : List Entry) → are_short (three own) ≡ true
three_short own = refl

those_short : {own : List Entry} → standard_packages ≡ three own → are_short standard_packages ≡ true
those_short {own = own} e = ap are_short e ∙ three_short own

pub fresh_short : HasShortNames (fresh_image standard_packages)
fresh_short = those_short standard_packages-is
