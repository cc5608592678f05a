use Rattle.lisp_format.proofs.hexadecimal.+digits_length.Given as goal

abbrev pub decreases-digits_length : goal.decreases-digits_length
decreases-digits_length l = l.places
