-- What an image becomes once a borrow of its packages is over.
use Rattle.std.specs.Borrow.{Lends, MutBor, Fml}
use Rattle.std.specs.Prelude.{List}
use Rattle.lisp_packages.specs.declared.lisp_package.Package.{Package}
use Rattle.lisp_packages.specs.contracts.packages.Packages.{the_row as packages_row}
use Rattle.lisp_image.specs.Image.{ImageState, with_packages}
use Rattle.lisp_image.specs.contracts.image.Image.{the_row}

-- the image has the packages written last through the borrow, and stays as it is otherwise
abbrev pub LendsPackages : MutBor ImageState → MutBor (List Package) → Fml
LendsPackages image packages = Lends the_row packages_row image packages (with_packages image.now)
