-- The probabilities of inter frames but those of vectors (6.3.9 to 6.3.15 of the standard).
use Rattle.std.specs.Prelude.{ℕ, Bool, true, false, not, List}
use Rattle.vp9_types.specs.declared.block.ReferenceMode.{ReferenceMode}
use Rattle.vp9_types.specs.declared.block.ReferenceMode.TheVariants as mode
use Rattle.vp9_types.specs.Syntax.{done, ◌>>=◌}
use Rattle.vp9_types.specs.Each.{each}
use Rattle.frame_headers.specs.declared.header.FrameFilter.{FrameFilter}
use Rattle.frame_headers.specs.declared.header.FrameFilter.TheVariants.{Fixed, Switchable}
use Rattle.frame_headers.specs.declared.header.InterFields.{InterFields}
use Rattle.compressed_header.specs.Updates.{UpdateTable, diff_update_prob, updates_if}
use Rattle.compressed_header.specs.HeaderModes.{frame_reference_mode, is_compound_allowed}
use Rattle.prob_contexts.specs.ProbLists.{InterLists}

-- 6.3.9
unfoldable pub read_inter_mode_probs : List ℕ → UpdateTable (List ℕ)
read_inter_mode_probs probs = each diff_update_prob probs

abbrev pub is_switchable : FrameFilter → Bool
is_switchable (Fixed filter) = false
is_switchable Switchable = true

-- 6.3.10, which is read where the filter is switchable
unfoldable pub read_interp_filter_probs : FrameFilter → List ℕ → UpdateTable (List ℕ)
read_interp_filter_probs filter probs = updates_if (is_switchable filter) probs

-- 6.3.11
unfoldable pub read_is_inter_probs : List ℕ → UpdateTable (List ℕ)
read_is_inter_probs probs = each diff_update_prob probs

abbrev pub is_single : ReferenceMode → Bool
is_single mode.Single = true
is_single mode.Compound = false
is_single mode.Selected = false

abbrev pub is_compound : ReferenceMode → Bool
is_compound mode.Single = false
is_compound mode.Compound = true
is_compound mode.Selected = false

abbrev pub is_chosen : ReferenceMode → Bool
is_chosen mode.Single = false
is_chosen mode.Compound = false
is_chosen mode.Selected = true

-- 6.3.13: the flag where blocks choose, single references unless all are compound, compound ones unless all are single
unfoldable pub frame_reference_mode_probs : ReferenceMode → InterLists → UpdateTable InterLists
frame_reference_mode_probs mode old = do
  flags ← updates_if (is_chosen mode) old.compound_flag
  single ← updates_if (not (is_compound mode)) old.single_references
  compound ← updates_if (not (is_single mode)) old.compound_references
  done (record old { compound_flag = flags; single_references = single; compound_references = compound })

-- 6.3.14
unfoldable pub read_y_mode_probs : List ℕ → UpdateTable (List ℕ)
read_y_mode_probs probs = each diff_update_prob probs

-- 6.3.15
unfoldable pub read_partition_probs : List ℕ → UpdateTable (List ℕ)
read_partition_probs probs = each diff_update_prob probs

-- the probabilities of references and modes, with the frame's reference mode among them
unfoldable pub inter_probs : InterFields → InterLists → UpdateTable (InterLists × ReferenceMode)
inter_probs fields old = do
  modes ← read_inter_mode_probs old.modes
  filters ← read_interp_filter_probs fields.filter old.filters
  is_inter ← read_is_inter_probs old.is_inter
  mode ← frame_reference_mode (is_compound_allowed fields.references)
  inter ← frame_reference_mode_probs mode (record old { modes = modes; filters = filters; is_inter = is_inter })
  y_modes ← read_y_mode_probs inter.y_modes
  done (record inter { y_modes = y_modes }, mode)
