-- The image of a session, as far as steps speak of it: its packages, the global values of variables, the variables that are proclaimed
-- special, and the functions.
pub use Rattle.lisp_image.specs.Image.{ImageState, global, is_special, function, with_global, with_special, with_function, with_packages}
pub use Rattle.lisp_image.specs.declared.function.Function.{Function}
pub use Rattle.lisp_image.specs.declared.function.Place.{Place}
