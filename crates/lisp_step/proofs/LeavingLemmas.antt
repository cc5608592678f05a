-- Leaving one frame after another.
use Rattle.std.proofs.Common.{◌≡◌, ◌∙◌, ◌<◌, List, [], ◌∷◌, ◌++◌, length, Some, None, refl, sym, ap, append_assoc, arith}
use Rattle.lisp_frames.specs.Stack.{innermost, outer}
use Rattle.rpc_messages.specs.declared.to_emacs.ToEmacs.{ToEmacs}
use Rattle.server_rules.specs.Leaving.{aborts}
use Rattle.term_model.specs.declared.frame.Frame.{Frame}
use Rattle.term_model.specs.declared.frame.Frame.TheVariants as frame
use Rattle.term_model.specs.Term.{Context}

aborts-cons : (l : Frame) (c : Context) → aborts (l ∷ c) ≡ aborts (l ∷ []) ++ aborts c
aborts-cons (frame.On p) c = refl
aborts-cons (frame.Rex i id form) c = refl
aborts-cons (frame.Protect k cleanup) c = refl
aborts-cons (frame.Cleanup k kept) c = refl
aborts-cons (frame.Sldb k condition told) c = refl
aborts-cons (frame.Ask kind tag) c = refl

-- what is written, and what is still to come, is the whole
pub one-left : (c : Context) (l : Frame) (before after : List ToEmacs) → Some l ≡ innermost c → after ≡ before ++ aborts (l ∷ []) → after ++ aborts (outer c) ≡ before ++ aborts c
one-left [] l before after there written = absurd (cc)
one-left (m ∷ c) l before after there written =
    let same : l ≡ m = cc in
    ap (λ ms. ms ++ aborts c) written ∙ append_assoc before (aborts (l ∷ [])) (aborts c) ∙ ap (λ ms. before ++ ms) (sym (aborts-cons l c))
    ∙ ap (λ x. before ++ aborts (x ∷ c)) same

pub fewer : (c : Context) (l : Frame) → Some l ≡ innermost c → length (outer c) < length c
fewer [] l there = absurd (cc)
fewer (m ∷ c) l there = omega arith

pub none-left : (c : Context) → None ≡ innermost c → c ≡ []
none-left [] there = refl
none-left (m ∷ c) there = absurd (cc)
