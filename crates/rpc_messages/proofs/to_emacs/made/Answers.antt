use Rattle.rpc_messages.proofs.PlainLemmas.{on_ok}
use Rattle.rpc_messages.proofs.to_emacs.made.Goals as goal

pub returns-in-InvalidRpc-clause-form : goal.returns-in-InvalidRpc-clause-form
returns-in-InvalidRpc-clause-form c = rw (c.in-InvalidRpc.is, ← c.integer.ensures.form, ← c.as_str.ensures.value) c.of_number_and_text.ensures

pub returns-in-ReadAborted-clause-form : goal.returns-in-ReadAborted-clause-form
returns-in-ReadAborted-clause-form c = rw c.in-ReadAborted.is c.of_question-in-ReadAborted.ensures

pub returns-in-NewPackage-clause-form : goal.returns-in-NewPackage-clause-form
returns-in-NewPackage-clause-form c = rw (c.in-NewPackage.is, ← c.as_str-in-NewPackage.ensures.value, ← c.as_str-in-NewPackage-2.ensures.value) c.of_texts-in-NewPackage.ensures

pub returns-in-DebugActivate-clause-form : goal.returns-in-DebugActivate-clause-form
returns-in-DebugActivate-clause-form c = rw c.in-DebugActivate.is c.of_level.ensures

pub returns-in-DebugCondition-clause-form : goal.returns-in-DebugCondition-clause-form
returns-in-DebugCondition-clause-form c = rw (c.in-DebugCondition.is, ← c.number.ensures, ← c.as_str-in-DebugCondition.ensures.value) c.of_number_and_text-in-DebugCondition.ensures

pub returns-in_ok-ids-in-Debug-clause-sound : goal.returns-in_ok-ids-in-Debug-clause-sound
returns-in_ok-ids-in-Debug-clause-sound c = rw c.in-Debug.is (on_ok c.debug.result (
  c.as_str-in-Debug.ensures.utf8,
  c.as_str-in-Debug-2.ensures.utf8,
  rw c.as_slice.ensures at c.in_ok-restart_lines-in-Debug.ensures.texts,
  rw c.as_slice-in-Debug.ensures at c.in_ok-frame_lines-in-Debug.ensures.texts,
  rw c.as_slice-in-Debug-2.ensures at c.in_ok-ids-in-Debug.ensures.fits,
))
