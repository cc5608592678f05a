-- The packets that are written (SLIME's swank/rpc.lisp, `write-message`, `write-header`).
use Rattle.std.specs.Prelude.{ℕ, ◌/◌, ◌%◌, List, [], ◌∷◌, ◌++◌, length}
use Rattle.std.specs.List.{flat_map}
use Rattle.hex.specs.Hex.{encode_upper}

-- the three octets of a number below 2^24, the highest first
abbrev pub octets_of : ℕ → List ℕ
octets_of n = n / 65536 ∷ n / 256 % 256 ∷ n % 256 ∷ []

-- the header of a payload of so many octets: six hexadecimal digits, in upper case
abbrev pub header : ℕ → List ℕ
header len = encode_upper (octets_of len)

-- the packet of a payload
abbrev pub packet_of : List ℕ → List ℕ
packet_of payload = header (length payload) ++ payload

-- the packets of payloads, one after another
abbrev pub frames : List (List ℕ) → List ℕ
frames payloads = flat_map packet_of payloads
