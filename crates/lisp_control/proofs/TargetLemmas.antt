-- The searches for a block and for a catch, by the one search.
use Rattle.std.proofs.Common.{◌≡◌, ℕ, Option, Some, refl, sym}
use Rattle.std.specs.Borrow.{Bor}
use Rattle.std.specs.Prelude.{option_and_then}
use Rattle.lisp_data.specs.declared.symbol.Symbol.{Symbol}
use Rattle.lisp_data.specs.declared.value.Value.{Value}
use Rattle.lisp_data.specs.Same.{same_symbol, same_value}
use Rattle.term_model.specs.declared.frame.Frame.{Frame}
use Rattle.term_model.specs.declared.frame.Frame.TheVariants as frame
use Rattle.term_model.specs.declared.plain.Plain.TheVariants as plain
use Rattle.term_model.specs.Search.{seen}
use Rattle.term_model.specs.Targets.{block_in, catch_in, find_block, find_catch}
use Rattle.term_model.specs.Term.{Context}
use Rattle.lisp_frames.specs.declared.sought.Sought.TheVariants as sought
use Rattle.lisp_frames.specs.Seeking.{nearest_sought, sees}
use Rattle.lisp_frames.proofs.SearchLemmas.{by_seen, here-if, read-nearest}

block-agrees : (name : Bor Symbol) (n : ℕ) (l : Frame) (further : Option ℕ) → by_seen (sees (sought.Block name) l) (Some n) further ≡ seen (block_in name.now n l) further
block-agrees name n (frame.On (plain.Block x)) further = here-if (same_symbol x name.now) n further
block-agrees name n l further = refl

pub block_found : (name : Bor Symbol) (c : Context) → find_block name.now c ≡ option_and_then (λ (found : ℕ × Frame). Some found.0) (nearest_sought (sought.Block name) c)
block_found name c = sym (read-nearest (sought.Block name) (λ found. Some found.0) (block_in name.now) (block-agrees name) c)

catch-agrees : (tag : Bor Value) (n : ℕ) (l : Frame) (further : Option ℕ) → by_seen (sees (sought.Catch tag) l) (Some n) further ≡ seen (catch_in tag.now n l) further
catch-agrees tag n (frame.On (plain.Catch v)) further = here-if (same_value v tag.now) n further
catch-agrees tag n l further = refl

pub catch_found : (tag : Bor Value) (c : Context) → find_catch tag.now c ≡ option_and_then (λ (found : ℕ × Frame). Some found.0) (nearest_sought (sought.Catch tag) c)
catch_found tag c = sym (read-nearest (sought.Catch tag) (λ found. Some found.0) (catch_in tag.now) (catch-agrees tag) c)
