use Rattle.std.proofs.Common.{◌≡◌, refl, ◌∙◌, arith}
use Rattle.hex.specs.Hex.{encode_lower}
use Rattle.packet_framing.specs.Frames.{octets_of}
use Rattle.packet_framing.proofs.HeaderLemmas.{map-encode_lower, header_value-header}
use Rattle.packet_framing.proofs.header.header_of.Goals as goal

pub returns-clause-digits : goal.returns-clause-digits
returns-clause-digits c =
    let lower : c.encode_to_slice.new.output ≡ encode_lower (octets_of c.args.len) = grind (arith, c.encode_to_slice.ensures.fits.1 refl) in
    let small = c.requires in
    c.make_ascii_uppercase.ensures.after ∙ rw lower (map-encode_lower _ _ _ (omega arith) (omega arith) (omega arith))

pub returns-clause-read : goal.returns-clause-read
returns-clause-read c = rw (returns-clause-digits c) (header_value-header c.args.len c.requires)
