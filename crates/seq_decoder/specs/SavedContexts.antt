-- The four saved contexts around a frame (reset_frame_context and setup_past_independence in 7.2, load_probs and
-- save_probs in 8.4.2 of the standard), and adaptation between them.
use Rattle.std.specs.Prelude.{ℕ, ◌==◌, ◌||◌, ◌&&◌, Bool, true, false, List, replicate, slice_index_or, slice_set, if◌then◌else◌}
use Rattle.frame_headers.specs.HeaderState.{is_key}
use Rattle.frame_headers.specs.declared.header.FrameKind.{FrameKind}
use Rattle.frame_headers.specs.declared.header.FrameKind.TheVariants.{Key, IntraOnly, Inter}
use Rattle.frame_headers.specs.declared.header.Header.{Header}
use Rattle.frame_headers.specs.Header.{forgets}
use Rattle.prob_contexts.specs.ProbLists.{ContextLists}
use Rattle.backward_adapt.specs.Adaptation.{adaptation}
use Rattle.backward_adapt.specs.declared.kind.AdaptKind.{AdaptKind}
use Rattle.backward_adapt.specs.declared.kind.AdaptKind.TheVariants as adapt
use Rattle.frame_state.specs.Sources.{adapts}
use Rattle.frame_decoder.specs.DecodedFrames.{FrameResult}
use Rattle.prob_contexts.specs.Defaults.{default_lists}

abbrev pub loses_past : Header → Bool
loses_past header = forgets header.kind header.error_resilient

-- a frame that loses the past starts from place 0 and saves there, whatever place is coded
abbrev pub saved_place : Header → ℕ
saved_place header = if loses_past header then 0 else header.contexts.index

-- such a frame makes all four the defaults
abbrev pub resets_all : Header → Bool
resets_all header = is_key header.kind || header.error_resilient || (loses_past header && header.reset_context == 3)

-- or else the one at the coded place
abbrev pub resets_one : Header → Bool
resets_one header = loses_past header && header.reset_context == 2

-- the saved contexts that a frame finds
unfoldable pub saved_before : Header → List ContextLists → List ContextLists
saved_before header saved =
    if resets_all header then replicate 4 default_lists
    else (if resets_one header then slice_set saved header.contexts.index default_lists else saved)

-- what a place, 0 to 3, holds
abbrev pub context_at : List ContextLists → ℕ → ContextLists
context_at saved place = slice_index_or saved place default_lists

-- the context that a frame starts from
abbrev pub context_before : Header → List ContextLists → ContextLists
context_before header saved = context_at (saved_before header saved) (saved_place header)

-- what its adaptation asks of a frame
abbrev pub adapt_kind : FrameKind → Bool → AdaptKind
adapt_kind Key after_key = adapt.Intra
adapt_kind IntraOnly after_key = adapt.Intra
adapt_kind (Inter fields) after_key = adapt.Inter (record { after_key = after_key; high_precision = fields.high_precision })

-- a frame's own contexts, behind it: those of its compressed header, or what adaptation makes of them by what it counted and the
-- context that it started from
abbrev pub own_contexts : Header → Bool → FrameResult → ContextLists → ContextLists
own_contexts header after_key r before =
    if adapts header then adaptation (adapt_kind header.kind after_key) r.counted before r.contexts else r.contexts

-- a frame that refreshes a context saves its own
abbrev pub with_own : Header → ContextLists → List ContextLists → List ContextLists
with_own header own saved = if header.contexts.refresh then slice_set saved (saved_place header) own else saved

-- the saved contexts after a frame
unfoldable pub saved_after : Header → Bool → FrameResult → List ContextLists → List ContextLists
saved_after header after_key r saved = with_own header (own_contexts header after_key r (context_before header saved)) (saved_before header saved)
