-- Each request is answered once, directly when it ends.
use Rattle.std.specs.Prelude.{◌≡◌, ◌≢◌, ◌≤◌, ◌⊎◌, ℕ, ℤ, ◌+◌, ◌==◌, Bool, true, false, ◌&&◌, List, [], ◌∷◌, Option, Some, None, slice_get}
use Rattle.rpc_messages.specs.declared.from_emacs.FromEmacs.{FromEmacs}
use Rattle.rpc_messages.specs.declared.from_emacs.FromEmacs.TheVariants as mail
use Rattle.rpc_messages.specs.declared.to_emacs.Returned.{Returned}
use Rattle.rpc_messages.specs.declared.to_emacs.Returned.TheVariants as returned
use Rattle.rpc_messages.specs.declared.to_emacs.ToEmacs.{ToEmacs}
use Rattle.rpc_messages.specs.declared.to_emacs.ToEmacs.TheVariants as message
use Rattle.term_model.specs.declared.frame.Frame.{Frame}
use Rattle.term_model.specs.declared.frame.Frame.TheVariants as frame
use Rattle.term_model.specs.Label.{Label, Routed, Ended, Swept, Refused, Out}
use Rattle.term_model.specs.Term.{split}
use Rattle.step_model.specs.Image.{ImageState}
use Rattle.step_model.specs.Rules.{Rules}
use Rattle.session_model.specs.declared.event.Entry.{Entry}
use Rattle.session_model.specs.declared.event.Event.{Event}
use Rattle.session_model.specs.declared.event.Event.TheVariants.{Arrive}
use Rattle.session_model.specs.Journal.{labels, run}
use Rattle.session_model.specs.World.{Thread, World, thread_at}
use Rattle.session_laws.specs.Counting.{count}

-- ---- each end is answered

abbrev pub id_in_message : FromEmacs → Option ℤ
id_in_message (mail.Rex form «package» thread id) = Some id
id_in_message m = None

abbrev pub id_in : Event → Option ℤ
id_in (Arrive m) = id_in_message m
id_in event = None

abbrev pub id_of : Option Entry → Option ℤ
id_of (Some e) = id_in e.event
id_of None = None

-- the id of the request that arrived at a place of the journal, None where none did
abbrev pub id_at : List Entry → ℕ → Option ℤ
id_at j i = id_of (slice_get j i)

-- whether a message is neither a return nor a refusal
abbrev pub is_no_answer : ToEmacs → Bool
is_no_answer (message.Return id result) = false
is_no_answer (message.InvalidRpc id text) = false
is_no_answer m = true

-- whether a label says of no request that it is over, and isn't such a message
abbrev pub is_other : Label → Bool
is_other (Ended t i result) = false
is_other (Swept t i) = false
is_other (Refused i) = false
is_other (Out m) = is_no_answer m
is_other l = true

-- after each end of a request comes its return, with its id and its result; after each sweep its abort; after each refusal its
-- `:invalid-rpc`; and there is no other return and no other `:invalid-rpc`
pub data AreAnswered (j : List Entry) : List Label → Type 0 where
  nothing : AreAnswered j []
  ended : {t i : ℕ} {id : ℤ} {result : Returned} {ls : List Label} → id_at j i ≡ Some id → AreAnswered j ls → AreAnswered j (Ended t i result ∷ Out (message.Return id result) ∷ ls)
  swept : {t i : ℕ} {id : ℤ} {ls : List Label} → id_at j i ≡ Some id → AreAnswered j ls → AreAnswered j (Swept t i ∷ Out (message.Return id returned.Abort) ∷ ls)
  refused : {i : ℕ} {id : ℤ} {text : List ℕ} {ls : List Label} → id_at j i ≡ Some id → AreAnswered j ls → AreAnswered j (Refused i ∷ Out (message.InvalidRpc id text) ∷ ls)
  other : {l : Label} {ls : List Label} → is_other l ≡ true → AreAnswered j ls → AreAnswered j (l ∷ ls)

-- ---- each request is in one place

-- whether a label says that request i was routed to thread t
abbrev pub routes_request : ℕ → ℕ → Label → Bool
routes_request t i (Routed u j (mail.Rex form «package» thread id)) = (u == t) && (j == i)
routes_request t i l = false

-- whether a label says that request i was refused
abbrev pub refuses : ℕ → Label → Bool
refuses i (Refused j) = j == i
refuses i l = false

-- whether a label says that request i is over for thread t: its evaluation ended, or it was swept
abbrev pub closes : ℕ → ℕ → Label → Bool
closes t i (Ended u j result) = (u == t) && (j == i)
closes t i (Swept u j) = (u == t) && (j == i)
closes t i l = false

-- the same of any thread
abbrev pub closes_any : ℕ → Label → Bool
closes_any i (Ended u j result) = j == i
closes_any i (Swept u j) = j == i
closes_any i l = false

-- whether a message of a mailbox is request i
abbrev pub is_request_at : ℕ → ℕ × FromEmacs → Bool
is_request_at i (j, mail.Rex form «package» thread id) = j == i
is_request_at i (j, m) = false

-- whether a layer is that of request i
abbrev pub serves : ℕ → Frame → Bool
serves i (frame.Rex j id form) = j == i
serves i l = false

-- how often request i stands in the mailbox and in the term of a thread, none where it isn't live
abbrev pub held : ℕ → Option Thread → ℕ
held i (Some thread) = count (is_request_at i) thread.mailbox + count (serves i) (split thread.term).0
held i None = 0

-- how often request i is with thread t: in its mailbox, in its term, ended or swept
abbrev pub places_with : ℕ → ℕ → World → List Label → ℕ
places_with t i w ls = held i (thread_at w t) + count (closes t i) ls

-- request i was refused, and is with no thread
pub record IsRefused (i : ℕ) (w : World) (ls : List Label) : Type 0 where
  pub refused : count (refuses i) ls ≡ 1
  pub nowhere : (t : ℕ) → places_with t i w ls ≡ 0

-- request i was routed to thread t and is in one place of that thread, and of no other
pub record IsWith (t i : ℕ) (w : World) (ls : List Label) : Type 0 where
  pub routed : count (routes_request t i) ls ≡ 1
  pub not_refused : count (refuses i) ls ≡ 0
  pub in_one_place : places_with t i w ls ≡ 1
  pub with_no_other : (u : ℕ) → u ≢ t → places_with u i w ls ≡ 0

-- each request that ends, is swept or refused is answered directly, by its id; each that arrived is in exactly one place; none is over
-- twice, and none is over for a thread to which it wasn't routed
pub record AnswersOnce (rules : Rules) (image : ImageState) (j : List Entry) : Type 0 where
  pub answered : AreAnswered j (labels rules image j)
  pub one_place : (i : ℕ) (id : ℤ) → id_at j i ≡ Some id → IsRefused i (run rules image j) (labels rules image j) ⊎ ((t : ℕ) × IsWith t i (run rules image j) (labels rules image j))
  pub over_where_routed : (t i : ℕ) → count (closes t i) (labels rules image j) ≤ count (routes_request t i) (labels rules image j)
  pub over_once : (i : ℕ) → count (closes_any i) (labels rules image j) ≤ 1
