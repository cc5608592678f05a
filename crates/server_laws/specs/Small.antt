-- What makes the messages of a session fit their packets: package names and what acts write are short, and what arrives is small.
use mir.Syntax.{w64}
use Rattle.std.specs.Prelude.{ℕ, ◌≤◌, ◌^◌, Bool, ◌&&◌, nat_le, nat_lt, List, [], ◌∷◌, length, FitsSigned, IsTrue}
use Rattle.std.specs.List.{list_all, list_any}
use Rattle.std.specs.Str.{bytes_eq}
use Rattle.lisp_errors.specs.Limits.{max_weight}
use Rattle.lisp_packages.specs.declared.lisp_package.Package.{Package}
use Rattle.rpc_messages.specs.declared.from_emacs.FromEmacs.{FromEmacs}
use Rattle.rpc_messages.specs.declared.from_emacs.FromEmacs.TheVariants as mail
use Rattle.rpc_messages.specs.declared.to_emacs.ToEmacs.{ToEmacs}
use Rattle.rpc_messages.specs.Outgoing.{HasSmallNumbers}
use Rattle.session_model.specs.Wire.{text_of}
use Rattle.step_model.specs.CurrentPackage.{user_package}
use Rattle.step_model.specs.Image.{ImageState}
use Rattle.step_model.specs.Rules.{Writing, Output, NewPackage}
use Rattle.swank_rpc.specs.Info.{prompt}

-- how many octets a package's name has at most
abbrev pub max_name : ℕ
max_name = 2 ^ 20

-- whether a package's name is short, and what a prompt shows for the package of that name
abbrev pub is_short : List Package → Package → Bool
is_short ps p = nat_le (length p.name) max_name && nat_le (length (prompt ps p.name)) max_name

-- whether the package is the one that is current where nothing names another
abbrev pub is_user : Package → Bool
is_user p = bytes_eq p.name user_package

-- whether packages have short names: each has, COMMON-LISP-USER is one of them, and they can be counted
abbrev pub are_short : List Package → Bool
are_short ps = nat_lt (length ps) (2 ^ 63) && list_any is_user ps && list_all (is_short ps) ps

-- the packages of the image have short names
abbrev pub HasShortNames : ImageState → Type 0
HasShortNames image = IsTrue (are_short image.packages)

-- what an act writes is short: a text weighs no more than a value may, and the name of a new package and its prompt are short
abbrev pub IsShortWriting : Writing → Type 0
IsShortWriting (Output text repl_result) = length text ≤ max_weight
IsShortWriting (NewPackage name prompt) = (length name ≤ max_name) × (length prompt ≤ max_name)

abbrev pub AreShortWritings : List Writing → Type 0
AreShortWritings [] = Unit {0}
AreShortWritings (w ∷ ws) = IsShortWriting w × AreShortWritings ws

-- how many octets of an unreadable packet are shown at most: 1,000 characters and three dots
abbrev pub max_packet : ℕ
max_packet = 4003

-- a message's id has 64 bits, and an unreadable packet was cut
abbrev pub IsSmall : FromEmacs → Type 0
IsSmall (mail.Rex form «package» thread id) = FitsSigned w64 id
IsSmall (mail.Unreadable packet text) = length packet ≤ max_packet
IsSmall _ = Unit {0}

abbrev pub AreSmall : List FromEmacs → Type 0
AreSmall [] = Unit {0}
AreSmall (m ∷ ms) = IsSmall m × AreSmall ms

-- a message fits a packet: its text does, and each of its numbers is an integer of a form
pub record FitsPacket (m : ToEmacs) : Type 0 where
  pub text : length (text_of m) ≤ 0xFFFFFF
  pub numbers : HasSmallNumbers m
