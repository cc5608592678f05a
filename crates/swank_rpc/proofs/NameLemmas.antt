-- What names find: a token without a colon nothing, and the full name of a package by its place.
use Rattle.std.proofs.Common.{◌≡◌, ℕ, Bool, List, length, refl, ap}
use Rattle.std.specs.Prelude.{◌&&◌, if◌then◌else◌, Option, Some, None, option_map}
use Rattle.std.specs.Option.{option_map_or}
use Rattle.std.specs.List.{after_first, before_first, position_or_len}
use Rattle.lisp_packages.specs.Naming.{is_colon}
use Rattle.lisp_packages.proofs.TokenLemmas.{none-any}
use Rattle.swank_rpc.specs.Names.{is_swank, name_in, without_colon}

pub name_in-none : (token : List ℕ) → position_or_len is_colon token ≡ length token → name_in token ≡ None
name_in-none token h = ap (λ (b : Bool). if b && is_swank (before_first is_colon token) then Some (without_colon (after_first is_colon token)) else None) (none-any token h)

pub map_or-some : {A B : Type 0} (f : A → B) (o : Option A) (otherwise b : B) → Some b ≡ option_map f o → b ≡ option_map_or f o otherwise
map_or-some f None otherwise b e = absurd (cc)
map_or-some f (Some a) otherwise b e = cc

pub map_or-none : {A B : Type 0} (f : A → B) (o : Option A) (otherwise : B) → None ≡ option_map f o → otherwise ≡ option_map_or f o otherwise
map_or-none f None otherwise e = refl
map_or-none f (Some a) otherwise e = absurd (cc)
