use Rattle.std.proofs.Common.{◌≡◌}
use Rattle.term_model.specs.Room.{enter, room}
use Rattle.lisp_frames.proofs.stack.Stack.enter.Given as goal

-- going in from here gives what going in from the start gives, with the same redex and the same serial
abbrev pub invariant-inside : goal.invariant-inside
invariant-inside l =
    (enter (room l.self.context) l.self.context l.found ≡ enter (room l.fn.self.context) l.fn.self.context l.fn.found)
    × (l.self.redex ≡ l.fn.self.redex) × (l.self.serial ≡ l.fn.self.serial)

abbrev pub decreases-inside : goal.decreases-inside
decreases-inside l = room l.self.context
