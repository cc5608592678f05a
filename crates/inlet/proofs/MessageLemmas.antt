-- What is said of a message, from the message that it is.
use Rattle.std.proofs.Common.{◌≡◌, ◌∷◌, [], refl, ap, ◌∙◌, sym, subst}
use Rattle.std.specs.Prelude.{◌≢◌, ◌⊎◌, ℕ, List, Result, Ok, Err, IfOk}
use Rattle.std.proofs.Common.{inl, inr}
use Rattle.std.specs.Str.{chars, IsUtf8}
use Rattle.rpc_messages.specs.Cut.{cut}
use Rattle.rpc_messages.specs.declared.from_emacs.FromEmacs.{FromEmacs}
use Rattle.rpc_messages.specs.declared.from_emacs.FromEmacs.TheVariants.{Unreadable}
use Rattle.sexp_reader.specs.Faults.{IsFault}
use Rattle.sexp_reader.specs.declared.fault.ReadFault.{ReadFault}
use Rattle.sexp_reader.specs.declared.fault.ReadFault.TheVariants.{NoMemory}
use Rattle.sexp_reader.specs.Grammar.{IsSpelled}
use Rattle.lisp_data.specs.declared.sexp.Sexp.{Sexp}
use Rattle.rpc_messages.specs.Incoming.{message_in}
use Rattle.sexp_reader.specs.Names.{fault_name}
use Rattle.inlet.specs.Messages.{IsMessageOf, is_no_text, is_no_form, is_form, message_or_unknown, AreMessagesOf, none, next}

-- what holds of a message holds of the one that was answered
pub IfOk-is : {E : Type 0} (result : Result FromEmacs E) (message : FromEmacs) (P : FromEmacs → Type 0) → P message → IfOk result (λ m. m ≡ message) → IfOk result P
IfOk-is (Ok m) message P holds is = subst P (sym is) holds
IfOk-is (Err _) message P holds is = tt

-- the message of a fault, which is no want of memory
pub IfOk-fault : {E : Type 0} (result : Result FromEmacs E) (payload : List ℕ) (fault : ReadFault) → IsUtf8 payload → (IsFault (chars payload) fault ⊎ (fault ≡ NoMemory))
    → IfOk result (λ _. fault ≢ NoMemory) → IfOk result (λ m. m ≡ Unreadable (cut payload) (fault_name fault)) → IfOk result (IsMessageOf payload)
IfOk-fault (Ok m) payload fault utf8 (inl is) other e = subst (IsMessageOf payload) (sym e) (is_no_form fault utf8 is)
IfOk-fault (Ok m) payload fault utf8 (inr wants) other e = absurd (other wants)
IfOk-fault (Err _) payload fault utf8 refused other e = tt

-- that a text spells one form or has one fault
pub record IsExact : Type 0 where
  pub one_form : (text : List ℕ) → (a b : Sexp) → IsSpelled text a → IsSpelled text b → a ≡ b
  pub one_fault : (text : List ℕ) → (a b : ReadFault) → IsFault text a → IsFault text b → a ≡ b
  pub not_both : (text : List ℕ) → (form : Sexp) → (fault : ReadFault) → IsSpelled text form → IsFault text fault → ⊥

-- a payload has one message
pub one_message : IsExact → (payload : List ℕ) (a b : FromEmacs) → IsMessageOf payload a → IsMessageOf payload b → a ≡ b
one_message exact payload _ _ (is_no_text not) (is_no_text _) = refl
one_message exact payload _ _ (is_no_text not) (is_no_form _ utf8 _) = absurd (not utf8)
one_message exact payload _ _ (is_no_text not) (is_form _ utf8 _) = absurd (not utf8)
one_message exact payload _ _ (is_no_form _ utf8 _) (is_no_text not) = absurd (not utf8)
one_message exact payload _ _ (is_no_form fault _ a) (is_no_form fault' _ b) = ap (λ f. Unreadable (cut payload) (fault_name f)) (exact.one_fault (chars payload) fault fault' a b)
one_message exact payload _ _ (is_no_form fault _ a) (is_form form _ b) = absurd (exact.not_both (chars payload) form fault b a)
one_message exact payload _ _ (is_form _ utf8 _) (is_no_text not) = absurd (not utf8)
one_message exact payload _ _ (is_form form _ a) (is_no_form fault _ b) = absurd (exact.not_both (chars payload) form fault a b)
one_message exact payload _ _ (is_form form _ a) (is_form form' _ b) = ap (λ x. message_or_unknown payload (message_in x)) (exact.one_form (chars payload) form form' a b)

-- some payloads have one list of messages
pub one_list : IsExact → (payloads : List (List ℕ)) (a b : List FromEmacs) → AreMessagesOf payloads a → AreMessagesOf payloads b → a ≡ b
one_list exact [] _ _ none none = refl
one_list exact (payload ∷ payloads) _ _ (next _ m _ ms is are) (next _ n _ ns is' are') =
    ap (λ x. x ∷ ms) (one_message exact payload m n is is') ∙ ap (λ xs. n ∷ xs) (one_list exact payloads ms ns are are')
