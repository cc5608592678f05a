-- What a waiting thread takes, after `wait-for-event` of SLIME's `swank.lisp`.
use Rattle.std.specs.Prelude.{◌==◌, Bool, true, false}
use Rattle.rpc_messages.specs.declared.from_emacs.FromEmacs.{FromEmacs}
use Rattle.rpc_messages.specs.declared.from_emacs.FromEmacs.TheVariants as message
use Rattle.rpc_messages.specs.declared.pattern.Pattern.{Pattern}
use Rattle.rpc_messages.specs.declared.pattern.Pattern.TheVariants.{Rex, StringFor, ValueFor}

-- whether a pattern accepts a message: Rex each request, the others the string or the value of their tag
abbrev pub accepted : Pattern → FromEmacs → Bool
accepted Rex (message.Rex _ _ _ _) = true
accepted (StringFor wanted) (message.ReturnString _ tag _) = wanted == tag
accepted (ValueFor wanted) (message.Return _ tag _) = wanted == tag
accepted _ _ = false
