-- What the searches for handlers and for the frames of a level find fits.
use Rattle.std.proofs.Common.{◌≡◌, ◌≢◌, ℕ, zero, suc, ◌+◌, ◌≤◌, Bool, true, false, ◌&&◌, List, [], ◌∷◌, ◌++◌, length, Option, Some, None, refl, sym, ap, ◌∙◌, subst, arith}
use Rattle.std.specs.Prelude.{ℤ, pos, negsuc, if◌then◌else◌, ◌==◌, is_some, nat_lt, slice_get}
use Rattle.std.proofs.lemmas.Bool.{false≢true, eq-eqb, eqb-true}
use Rattle.lisp_data.specs.declared.type_id.TypeId.{TypeId}
use Rattle.term_model.specs.declared.frame.Frame.{Frame}
use Rattle.term_model.specs.declared.frame.Frame.TheVariants as frame
use Rattle.syntax_trees.specs.declared.ast.Ast.{Ast}
use Rattle.term_model.specs.declared.plain.Cluster.{Cluster}
use Rattle.term_model.specs.declared.plain.Cluster.TheVariants.{Clauses, Functions, Ignoring}
use Rattle.term_model.specs.declared.plain.HandlerFunction.{HandlerFunction}
use Rattle.term_model.specs.declared.plain.Plain.TheVariants as plain
use Rattle.term_model.specs.Handlers as how
use Rattle.term_model.specs.Handlers.{HandlerAt, How, behind, clauses_of, find_handler, functions_of, handlers_of, in_force, in_force_from, of_layer, past_mark, placed, takes}
use Rattle.term_model.specs.Levels.{Called, Framed, Level, Served, Shown, current_level, framed_by, frames, frames_from, shown_in}
use Rattle.term_model.specs.Search.{layer_at}
use Rattle.term_model.specs.Term.{Context}
use Rattle.step_model.specs.Facts.{HasClause, HasHandlers, IsCall, TakesValue, bare, bares, named_in, names_handlers}
use Rattle.step_model.specs.Requests.{item_at}
use Rattle.step_model.proofs.BareLemmas.{length-bares}
use Rattle.step_model.proofs.TargetFits.{layer_here, layer_none, layer_past}

-- ---- handlers

-- the clause of a handler that is one
abbrev pub ClauseFits : How → ℕ → Option Frame → Type 0
ClauseFits (how.Function g) i o = Unit {0}
ClauseFits how.Clause i o = HasClause i o

abbrev pub HandlerFits : Option HandlerAt → Context → Type 0
HandlerFits None d = Unit {0}
HandlerFits (Some h) d = (1 ≤ h.layer) × (names_handlers h.layer d ≡ true) × HasHandlers (layer_at h.layer d) × ClauseFits h.how h.index (layer_at h.layer d)

abbrev AllFit : List HandlerAt → Context → Type 0
AllFit [] d = Unit {0}
AllFit (h ∷ hs) d = HandlerFits (Some h) d × AllFit hs d

named_here : (x : Bool) (cluster : Cluster) (further : Bool) → x ≡ true → named_in x (frame.On (plain.Handlers cluster)) further ≡ true
named_here true cluster further e = refl
named_here false cluster further e = absurd (false≢true e)

handler_here : (cluster : Cluster) (c : Context) (h : HandlerAt) → h.layer ≡ length c + 1 → ClauseFits h.how h.index (Some (frame.On (plain.Handlers cluster))) → HandlerFits (Some h) (bares (frame.On (plain.Handlers cluster) ∷ c))
handler_here cluster c h e clause =
    let at : h.layer ≡ length (bares c) + 1 = omega (arith, e, length-bares c) in (
      omega (arith, e),
      named_here (h.layer == length (bares c) + 1) cluster (names_handlers h.layer (bares c)) (eq-eqb h.layer (length (bares c) + 1) at),
      subst HasHandlers (sym (layer_here h.layer (frame.On (plain.Handlers cluster)) (bares c) at)) tt,
      subst (ClauseFits h.how h.index) (sym (layer_here h.layer (frame.On (plain.Handlers cluster)) (bares c) at)) clause,
    )

-- each handler of a cluster that is a clause is one of the cluster's
abbrev ClausesFit : Cluster → ℕ → List (Option TypeId × How) → Type 0
ClausesFit cluster i [] = Unit {0}
ClausesFit cluster i (h ∷ hs) = ClauseFits h.1 i (Some (frame.On (plain.Handlers cluster))) × ClausesFit cluster (i + 1) hs

functions_fit : (all : List HandlerFunction) (i : ℕ) (hs : List HandlerFunction) → ClausesFit (Functions all) i (functions_of hs)
functions_fit all i [] = tt
functions_fit all i (h ∷ hs) = (tt, functions_fit all (i + 1) hs)

clauses_fit : (all : List Ast) (i : ℕ) (rest : List Ast) → ((j : ℕ) → slice_get all (i + j) ≡ slice_get rest j) → ClausesFit (Clauses all) i (clauses_of rest)
clauses_fit all i [] go = tt
clauses_fit all i (a ∷ more) go =
    let e : i ≡ i + 0 = omega arith in (
      ap is_some (ap (slice_get all) e ∙ go 0),
      clauses_fit all (i + 1) more (λ j. let g : i + 1 + j ≡ i + suc j = omega arith in ap (slice_get all) g ∙ go (suc j)),
    )

cluster_fits : (cluster : Cluster) → ClausesFit cluster 0 (handlers_of cluster)
cluster_fits (Functions hs) = functions_fit hs 0 hs
cluster_fits (Clauses clauses) = clauses_fit clauses 0 clauses (λ j. let e : 0 + j ≡ j = omega arith in ap (slice_get clauses) e)
cluster_fits Ignoring = (refl, tt)

placed_fit : (cluster : Cluster) (c : Context) (i : ℕ) (hs : List (Option TypeId × How)) → ClausesFit cluster i hs → AllFit (placed (length c + 1) i hs) (bares (frame.On (plain.Handlers cluster) ∷ c))
placed_fit cluster c i [] f = tt
placed_fit cluster c i (h ∷ hs) f = (handler_here cluster c (record { layer = length c + 1; index = i; kind = h.0; how = h.1 }) refl f.0, placed_fit cluster c (i + 1) hs f.1)

none_or_fit : (b : Bool) (hs : List HandlerAt) (d : Context) → AllFit hs d → AllFit (if b then [] else hs) d
none_or_fit true hs d f = tt
none_or_fit false hs d f = f

append_fit : (hs more : List HandlerAt) (d : Context) → AllFit hs d → AllFit more d → AllFit (hs ++ more) d
append_fit [] more d f g = g
append_fit (h ∷ hs) more d f g = (f.0, append_fit hs more d f.1 g)

abbrev is_level : Frame → Bool
is_level (frame.Sldb n condition again) = true
is_level _ = false

named_further : (x : Bool) (l : Frame) (further : Bool) → (x ≡ true → ⊥) → is_level l ≡ false → named_in x l further ≡ further
named_further true l further ne e = absurd (ne refl)
named_further false (frame.Sldb n condition again) further ne e = absurd (false≢true (sym e))
named_further false (frame.On p) further ne e = refl
named_further false (frame.Protect k cleanup) further ne e = refl
named_further false (frame.Cleanup k kept) further ne e = refl
named_further false (frame.Rex i id form) further ne e = refl
named_further false (frame.Ask kind tag) further ne e = refl

has_handlers_within : (n : ℕ) (d : Context) → HasHandlers (layer_at n d) → n ≢ length d + 1
has_handlers_within n d h e = subst HasHandlers (layer_none n d (omega arith)) h

-- a named layer of handlers is one still, from inside a further layer that is no level
pub names_out : (n : ℕ) (l : Frame) (d : Context) → is_level l ≡ false → HasHandlers (layer_at n d) → names_handlers n d ≡ true → names_handlers n (l ∷ d) ≡ true
names_out n l d e h g =
    named_further (n == length d + 1) l (names_handlers n d) (λ same. has_handlers_within n d h (eqb-true n (length d + 1) same)) e ∙ g

handler_out : (o : Option HandlerAt) (l : Frame) (d : Context) → is_level l ≡ false → HandlerFits o d → HandlerFits o (l ∷ d)
handler_out None l d e h = tt
handler_out (Some h) l d e f =
    (f.0, names_out h.layer l d e f.2 f.1, subst HasHandlers (sym (layer_past h.layer l d (has_handlers_within h.layer d f.2))) f.2, subst (ClauseFits h.how h.index) (sym (layer_past h.layer l d (has_handlers_within h.layer d f.2))) f.3)

handlers_out : (hs : List HandlerAt) (l : Frame) (d : Context) → is_level l ≡ false → AllFit hs d → AllFit hs (l ∷ d)
handlers_out [] l d e f = tt
handlers_out (h ∷ hs) l d e f = (handler_out (Some h) l d e f.0, handlers_out hs l d e f.1)

in_force_fit : (k : ℕ) (c : Context) → AllFit (in_force_from k c) (bares c)
in_force_fit k [] = tt
in_force_fit k (frame.Sldb n condition again ∷ c) = tt
in_force_fit k (frame.On (plain.Handlers cluster) ∷ c) =
    append_fit (of_layer k (length c + 1) cluster) (in_force_from k c) (bares (frame.On (plain.Handlers cluster) ∷ c))
    (none_or_fit (nat_lt k (length c + 1)) (placed (length c + 1) 0 (handlers_of cluster)) (bares (frame.On (plain.Handlers cluster) ∷ c)) (placed_fit cluster c 0 (handlers_of cluster) (cluster_fits cluster)))
    (handlers_out (in_force_from k c) (frame.On (plain.Handlers cluster)) (bares c) refl (in_force_fit k c))
in_force_fit k (frame.On (plain.Handling p j) ∷ c) =
    let further = past_mark k (length c + 1) p in handlers_out (in_force_from further c) (frame.On (plain.Handling p j)) (bares c) refl (in_force_fit further c)
in_force_fit k (frame.On p ∷ c) = handlers_out (in_force_from k c) (bare (frame.On p)) (bares c) refl (in_force_fit k c)
in_force_fit k (frame.Protect serial cleanup ∷ c) = handlers_out (in_force_from k c) (frame.Protect serial cleanup) (bares c) refl (in_force_fit k c)
in_force_fit k (frame.Cleanup serial kept ∷ c) = handlers_out (in_force_from k c) (frame.Cleanup serial kept) (bares c) refl (in_force_fit k c)
in_force_fit k (frame.Rex i id form ∷ c) = handlers_out (in_force_from k c) (frame.Rex i id form) (bares c) refl (in_force_fit k c)
in_force_fit k (frame.Ask kind tag ∷ c) = handlers_out (in_force_from k c) (frame.Ask kind tag) (bares c) refl (in_force_fit k c)

found_fits : (kind : TypeId) (hs : List HandlerAt) (d : Context) → AllFit hs d → HandlerFits (find_handler kind hs) d
found_fits kind [] d f = tt
found_fits kind (h ∷ hs) d f = by (takes kind h.kind) (found_fits kind hs d f.1)
  where
    by : (b : Bool) → HandlerFits (find_handler kind hs) d → HandlerFits (if b then Some h else find_handler kind hs) d
    by true g = f.0
    by false g = g

behind_fit : (n i : ℕ) (hs : List HandlerAt) (d : Context) → AllFit hs d → AllFit (behind n i hs) d
behind_fit n i [] d f = tt
behind_fit n i (h ∷ hs) d f = by (h.layer == n && h.index == i) (behind_fit n i hs d f.1)
  where
    by : (b : Bool) → AllFit (behind n i hs) d → AllFit (if b then hs else behind n i hs) d
    by true g = f.1
    by false g = g

-- the handler that is found for a condition, and the one that is found behind another, name a layer of handlers
pub handler_fits : (kind : TypeId) (c : Context) → HandlerFits (find_handler kind (in_force c)) (bares c)
handler_fits kind c = found_fits kind (in_force c) (bares c) (in_force_fit (length c) c)

pub further_handler_fits : (kind : TypeId) (n i : ℕ) (c : Context) → HandlerFits (find_handler kind (behind n i (in_force c))) (bares c)
further_handler_fits kind n i c = found_fits kind (behind n i (in_force c)) (bares c) (behind_fit n i (in_force c) (bares c) (in_force_fit (length c) c))

-- ---- frames

-- the frame of a call is a call
abbrev pub CalledAt : Shown → ℕ → Context → Type 0
CalledAt (Called g vs) k d = (1 ≤ k) × IsCall (layer_at k d)
CalledAt (Served form) k d = Unit {0}

abbrev pub AllCalled : List Framed → Context → Type 0
AllCalled [] d = Unit {0}
AllCalled (f ∷ fs) d = CalledAt f.shown f.layer d × AllCalled fs d

abbrev pub MaybeCalled : Option Framed → Context → Type 0
MaybeCalled None d = Unit {0}
MaybeCalled (Some f) d = CalledAt f.shown f.layer d

is_call_within : (n : ℕ) (d : Context) → IsCall (layer_at n d) → n ≢ length d + 1
is_call_within n d h e = subst IsCall (layer_none n d (omega arith)) h

pub called_out : (s : Shown) (k : ℕ) (l : Frame) (d : Context) → CalledAt s k d → CalledAt s k (l ∷ d)
called_out (Called g vs) k l d h = (h.0, subst IsCall (sym (layer_past k l d (is_call_within k d h.1))) h.1)
called_out (Served form) k l d h = tt

all_out : (fs : List Framed) (l : Frame) (d : Context) → AllCalled fs d → AllCalled fs (l ∷ d)
all_out [] l d h = tt
all_out (f ∷ fs) l d h = (called_out f.shown f.layer l d h.0, all_out fs l d h.1)

shown_called : (l : Frame) (c : Context) (s : Shown) → shown_in l ≡ Some s → CalledAt s (length c + 1) (bares (l ∷ c))
shown_called (frame.On (plain.Call g vs)) c (Called h ws) e =
    (omega arith, subst IsCall (sym (layer_here (length c + 1) (frame.On (plain.Call g vs)) (bares c) (omega (arith, length-bares c)))) tt)
shown_called l c (Served form) e = tt
shown_called (frame.On p) c (Called h ws) e = absurd (cc)
shown_called (frame.Protect k cleanup) c (Called h ws) e = absurd (cc)
shown_called (frame.Cleanup k kept) c (Called h ws) e = absurd (cc)
shown_called (frame.Rex i id form) c (Called h ws) e = absurd (cc)
shown_called (frame.Sldb n condition again) c (Called h ws) e = absurd (cc)
shown_called (frame.Ask kind tag) c (Called h ws) e = absurd (cc)

frames_called_by : (l : Frame) (c : Context) (o : Option Shown) (inner : Context) → shown_in l ≡ o → ((passed : Context) → AllCalled (frames_from passed c) (bares c)) → AllCalled (framed_by o l inner (length c + 1) (λ passed. frames_from passed c)) (bares (l ∷ c))
frames_called_by l c None inner e h = all_out (frames_from (inner ++ l ∷ []) c) (bare l) (bares c) (h (inner ++ l ∷ []))
frames_called_by l c (Some s) inner e h = (shown_called l c s e, all_out (frames_from [] c) (bare l) (bares c) (h []))

frames_called : (inner c : Context) → AllCalled (frames_from inner c) (bares c)
frames_called inner [] = tt
frames_called inner (l ∷ c) = frames_called_by l c (shown_in l) inner refl (λ passed. frames_called passed c)

got_called : (fs : List Framed) (i : ℕ) (d : Context) → AllCalled fs d → MaybeCalled (slice_get fs i) d
got_called [] i d h = tt
got_called (f ∷ fs) zero d h = h.0
got_called (f ∷ fs) (suc i) d h = got_called fs i d h.1

item_called : (fs : List Framed) (i : ℤ) (d : Context) → AllCalled fs d → MaybeCalled (item_at fs i) d
item_called fs (pos i) d h = got_called fs i d h
item_called fs (negsuc i) d h = tt

pub frame_called : (c : Context) (i : ℤ) → MaybeCalled (item_at (frames c) i) (bares c)
frame_called c i = item_called (frames c) i (bares c) (frames_called [] c)

-- a frame of the current level is one of the whole context
abbrev pub LevelFits : Option Level → Context → Type 0
LevelFits None d = Unit {0}
LevelFits (Some level) d = (s : Shown) (k : ℕ) → CalledAt s k (bares level.around) → CalledAt s k d

level_out : (o : Option Level) (l : Frame) (d : Context) → LevelFits o d → LevelFits o (l ∷ d)
level_out None l d h = tt
level_out (Some level) l d h = λ s k g. called_out s k l d (h s k g)

pub level_fits : (c : Context) → LevelFits (current_level c) (bares c)
level_fits [] = tt
level_fits (frame.Sldb n condition again ∷ c) = λ s k g. called_out s k (frame.Sldb n condition false) (bares c) g
level_fits (frame.On p ∷ c) = level_out (current_level c) (bare (frame.On p)) (bares c) (level_fits c)
level_fits (frame.Protect k cleanup ∷ c) = level_out (current_level c) (frame.Protect k cleanup) (bares c) (level_fits c)
level_fits (frame.Cleanup k kept ∷ c) = level_out (current_level c) (frame.Cleanup k kept) (bares c) (level_fits c)
level_fits (frame.Rex i id form ∷ c) = level_out (current_level c) (frame.Rex i id form) (bares c) (level_fits c)
level_fits (frame.Ask kind tag ∷ c) = level_out (current_level c) (frame.Ask kind tag) (bares c) (level_fits c)

pub call_takes_value : (o : Option Frame) → IsCall o → TakesValue o
call_takes_value (Some (frame.On (plain.Call g vs))) h = tt
call_takes_value (Some (frame.On p)) h = absurd h
call_takes_value (Some (frame.Protect k cleanup)) h = absurd h
call_takes_value (Some (frame.Cleanup k kept)) h = absurd h
call_takes_value (Some (frame.Rex i id form)) h = absurd h
call_takes_value (Some (frame.Sldb n condition again)) h = absurd h
call_takes_value (Some (frame.Ask kind tag)) h = absurd h
call_takes_value None h = absurd h
