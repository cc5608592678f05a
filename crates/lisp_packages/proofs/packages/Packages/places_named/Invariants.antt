use Rattle.std.proofs.Common.{◌≡◌, drop}
use Rattle.lisp_packages.specs.Making.{places_named}
use Rattle.lisp_packages.proofs.MakingLemmas.{places_before}
use Rattle.lisp_packages.proofs.packages.Packages.places_named.Given as goal

-- the places so far and those of the texts still to come are all
abbrev pub invariant-loop-text : goal.invariant-loop-text
invariant-loop-text l = places_before l.places (places_named l.self (drop l.text-index l.texts)) ≡ places_named l.self l.texts
