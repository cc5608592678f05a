-- Integers in base 16 (HyperSpec 22.3.2.4).
use Rattle.std.specs.Prelude.{ℤ, pos, List, ℕ, [], ◌++◌, true, codes, if◌then◌else◌, int_lt, unsigned_abs}
use Rattle.std.specs.Fmt.{digits}

-- the digits of its absolute value, in upper case, after a minus where it is negative
unfoldable pub hexadecimal : ℤ → List ℕ
hexadecimal z = (if int_lt z (pos 0) then codes "-" else []) ++ digits 16 true (unsigned_abs z)
