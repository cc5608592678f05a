use Rattle.std.proofs.Common.{◌≡◌, length}
use Rattle.term_model.specs.declared.found.Found.{Found}
use Rattle.term_model.specs.Room.{room, wrap}
use Rattle.lisp_frames.proofs.stack.Stack.lay_markers.Given as goal

-- laying the markers that are left gives what laying all of them gives, with the same redex and the same serial
abbrev pub invariant-markers : goal.invariant-markers
invariant-markers l =
    ((found : Found) → wrap (room l.self.context) l.self.context l.markers found ≡ wrap (room l.fn.self.context) l.fn.self.context l.fn.markers found)
    × (l.self.redex ≡ l.fn.self.redex) × (l.self.serial ≡ l.fn.self.serial)

abbrev pub decreases-markers : goal.decreases-markers
decreases-markers l = length l.markers
