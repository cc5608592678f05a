-- Where a message goes that comes from Emacs (`dispatch-event` of SLIME's `swank.lisp`): a request for `t` to a new worker, every
-- other message to the thread that it names.
use Rattle.std.specs.Prelude.{ℕ, ℤ, ◌+◌, ◌==◌, Bool, true, false, not, if◌then◌else◌, List, [], ◌∷◌, ◌++◌, length, filter, Option, Some, None, codes}
use Rattle.std.specs.Fmt.{decimal}
use Rattle.rpc_messages.specs.declared.from_emacs.FromEmacs.{FromEmacs}
use Rattle.rpc_messages.specs.declared.from_emacs.FromEmacs.TheVariants as mail
use Rattle.rpc_messages.specs.declared.from_emacs.ThreadName.{ThreadName}
use Rattle.rpc_messages.specs.declared.from_emacs.ThreadName.TheVariants as name
use Rattle.rpc_messages.specs.declared.to_emacs.ToEmacs.TheVariants as message
use Rattle.term_model.specs.Label.{Routed, Refused, Out}
use Rattle.step_model.specs.Built.{Built}
use Rattle.session_model.specs.World.{Thread, World, Happened, fresh, repl, thread_at, with_thread, tells, silent}

-- the worker to which a request was routed last, the thread of the REPL where no worker lives
abbrev pub most_recent : List ℕ → ℕ
most_recent [] = repl
most_recent (t ∷ workers) = t

-- the thread that a name stands for, other than a new one
abbrev pub named : World → ThreadName → ℕ
named w name.New = most_recent w.workers
named w name.Repl = repl
named w (name.Id t) = t

abbrev pub not_found : ℕ → List ℕ
not_found t = codes "Thread not found: " ++ decimal t

-- the workers without one of them
abbrev pub workers_without : ℕ → List ℕ → List ℕ
workers_without t workers = filter (λ worker. not (worker == t)) workers

-- the live workers once a request was routed to a live thread
abbrev pub workers_after : ℕ → List ℕ → List ℕ
workers_after t workers = if t == repl then workers else t ∷ workers_without t workers

abbrev pub posted : Thread → ℕ → FromEmacs → Thread
posted thread i m = record thread { mailbox = thread.mailbox ++ (i, m) ∷ [] }

-- a message for a thread, where that is live
abbrev pub posts : World → ℕ → FromEmacs → Thread → Happened
posts w t m thread = tells (with_thread w t (Some (posted thread w.places m))) (Routed t w.places m ∷ [])

-- a request for a new worker
abbrev pub hires : World → FromEmacs → Happened
hires w m =
    let t = length w.threads in
    tells (record w { threads = w.threads ++ Some (fresh ((w.places, m) ∷ [])) ∷ []; workers = t ∷ w.workers }) (Routed t w.places m ∷ [])

-- a request for a thread that stands already: one that isn't live refuses it
abbrev pub requests : World → ℕ → ℤ → FromEmacs → Option Thread → Happened
requests w t id m (Some thread) = posts (record w { workers = workers_after t w.workers }) t m thread
requests w t id m None = tells w (Refused w.places ∷ Out (message.InvalidRpc id (not_found t)) ∷ [])

-- the answer to a question: for a thread that isn't live it is dropped
abbrev pub answers : World → ℕ → FromEmacs → Option Thread → Happened
answers w t m (Some thread) = posts w t m thread
answers w t m None = silent w

-- an interrupt stays pending until the thread is lent
abbrev pub interrupts : World → ℕ → Option Thread → Happened
interrupts w t (Some thread) = silent (with_thread w t (Some (record thread { interrupts = thread.interrupts + 1 })))
interrupts w t None = tells w (Out (message.DebugCondition t (not_found t)) ∷ [])

abbrev pub requests_by : World → ℤ → FromEmacs → ThreadName → Happened
requests_by w id m name.New = hires w m
requests_by w id m name.Repl = requests w repl id m (thread_at w repl)
requests_by w id m (name.Id t) = requests w t id m (thread_at w t)

-- a message arrives
abbrev pub arrives : World → FromEmacs → Happened
arrives w (mail.Rex form «package» thread id) = requests_by w id (mail.Rex form «package» thread id) thread
arrives w (mail.Interrupt thread) = interrupts w (named w thread) (thread_at w (named w thread))
arrives w (mail.ReturnString thread tag text) = answers w (named w thread) (mail.ReturnString thread tag text) (thread_at w (named w thread))
arrives w (mail.Return thread tag value) = answers w (named w thread) (mail.Return thread tag value) (thread_at w (named w thread))
arrives w (mail.Unreadable packet text) = tells w (Out (message.ReaderError packet text) ∷ [])

-- an interrupt, where such are kept or aren't: as long as none is, one for a live thread is dropped
abbrev pub interrupts_if : (kept : Bool) → World → ℕ → Option Thread → Happened
interrupts_if true w t thread = interrupts w t thread
interrupts_if false w t (Some thread) = silent w
interrupts_if false w t None = interrupts w t None

-- a message arrives, as far as that is built: an interrupt for a live thread is dropped as long as none is kept
abbrev pub arrives_as_built : Built → World → FromEmacs → Happened
arrives_as_built built w (mail.Interrupt thread) = interrupts_if built.interrupts w (named w thread) (thread_at w (named w thread))
arrives_as_built built w m = arrives w m
