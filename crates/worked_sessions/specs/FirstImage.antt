-- The image with which a session begins.
use Rattle.lisp_image.specs.Image.{ImageState, fresh_image}
use Rattle.lisp_packages.specs.Fresh.{standard_packages}

-- the image of the standard packages, in which nothing was defined
abbrev pub image : ImageState
image = fresh_image standard_packages
