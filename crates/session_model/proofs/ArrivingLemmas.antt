-- What holds where nothing happens, and where a message arrives, holds where it arrives as far as that is built.
use Rattle.std.proofs.Common.{◌≡◌, ℕ, Bool, true, false, Option, Some, None, refl}
use Rattle.std.specs.Prelude.{is_some}
use Rattle.rpc_messages.specs.declared.from_emacs.FromEmacs.{FromEmacs}
use Rattle.rpc_messages.specs.declared.from_emacs.FromEmacs.TheVariants as mail
use Rattle.rpc_messages.specs.declared.from_emacs.ThreadName.{ThreadName}
use Rattle.step_model.specs.AsBuilt.{all_built}
use Rattle.step_model.specs.Built.{Built}
use Rattle.session_model.specs.Arriving.{arrives, arrives_as_built, interrupts, interrupts_if, named}
use Rattle.session_model.specs.World.{Thread, World, Happened, silent, thread_at}

if_either : (P : Happened → Type 0) (kept : Bool) (w : World) (t : ℕ) (o : Option Thread) → P (silent w) → P (interrupts w t o) → P (interrupts_if kept w t o)
if_either P true w t o nothing all = all
if_either P false w t (Some thread) nothing all = nothing
if_either P false w t None nothing all = all

-- what holds where nothing happens, and where the message arrives, holds where it arrives as far as that is built
pub arrived_either : (P : Happened → Type 0) (built : Built) (w : World) (m : FromEmacs) → P (silent w) → P (arrives w m) → P (arrives_as_built built w m)
arrived_either P built w (mail.Rex form «package» thread id) nothing all = all
arrived_either P built w (mail.Interrupt thread) nothing all = if_either P built.interrupts w (named w thread) (thread_at w (named w thread)) nothing all
arrived_either P built w (mail.ReturnString thread tag text) nothing all = all
arrived_either P built w (mail.Return thread tag value) nothing all = all
arrived_either P built w (mail.Unreadable packet text) nothing all = all

drops : (kept : Bool) (w : World) (t : ℕ) (o : Option Thread) → kept ≡ false → is_some o ≡ true → interrupts_if kept w t o ≡ silent w
drops true w t o none live = absurd (cc)
drops false w t (Some thread) none live = refl
drops false w t None none live = absurd (cc)

-- as long as no interrupt is kept, one for a live thread is dropped
pub dropped : (built : Built) (w : World) (thread : ThreadName) → built.interrupts ≡ false → is_some (thread_at w (named w thread)) ≡ true → arrives_as_built built w (mail.Interrupt thread) ≡ silent w
dropped built w thread none live = drops built.interrupts w (named w thread) (thread_at w (named w thread)) none live

-- with all of it built each message arrives
pub all-arrive : (w : World) (m : FromEmacs) → arrives_as_built all_built w m ≡ arrives w m
all-arrive w (mail.Rex form «package» thread id) = refl
all-arrive w (mail.Interrupt thread) = refl
all-arrive w (mail.ReturnString thread tag text) = refl
all-arrive w (mail.Return thread tag value) = refl
all-arrive w (mail.Unreadable packet text) = refl
