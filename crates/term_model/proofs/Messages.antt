-- The messages among labels.
use Rattle.std.proofs.Common.{◌≡◌, List, [], ◌∷◌, ◌++◌, refl, ap}
use Rattle.term_model.specs.Label.{Label, Routed, Took, Ended, Swept, Refused, Out, Opened, Closed, Cleanup, Broke, messages_in}

pub messages_in-append : (a b : List Label) → messages_in (a ++ b) ≡ messages_in a ++ messages_in b
messages_in-append [] b = refl
messages_in-append (Out m ∷ a) b = ap (λ ms. m ∷ ms) (messages_in-append a b)
messages_in-append (Routed t i m ∷ a) b = messages_in-append a b
messages_in-append (Took t i p ∷ a) b = messages_in-append a b
messages_in-append (Ended t i result ∷ a) b = messages_in-append a b
messages_in-append (Swept t i ∷ a) b = messages_in-append a b
messages_in-append (Refused i ∷ a) b = messages_in-append a b
messages_in-append (Opened t n ∷ a) b = messages_in-append a b
messages_in-append (Closed t n ∷ a) b = messages_in-append a b
messages_in-append (Cleanup t k ∷ a) b = messages_in-append a b
messages_in-append (Broke t ∷ a) b = messages_in-append a b
