-- The modes of a tile's blocks, with the blocks of its columns alone.
use Rattle.std.proofs.Common.{◌≡◌, ℕ, ◌+◌, ◌^◌, ◌<◌, ◌≤◌, ◌&&◌, ◌⊎◌, ◌/◌, ◌++◌, ◌∷◌, [], ◌∙◌, Bool, true, false, List, inl, inr, refl, ap, arith, min, append-nil}
use Rattle.std.specs.Prelude.{Option, nat_lt}
use Rattle.std.proofs.lemmas.Bool.{lt-ltb, le-ltb}
use Rattle.std.proofs.lemmas.Nat.{pow_pos}
use Rattle.std.proofs.Math.Nat.{le-max_left}
use Rattle.std.proofs.lemmas.List.Elements.{filter-append}
use Rattle.vp9_types.specs.Syntax.{done, broken, ask}
use Rattle.vp9_types.specs.declared.block.BlockSize.{BlockSize}
use Rattle.vp9_types.specs.declared.block.Modes.{Modes}
use Rattle.vp9_types.specs.declared.block.TxMode.{TxMode}
use Rattle.frame_headers.specs.declared.header.Header.{Header}
use Rattle.frame_headers.specs.declared.segments.Segmentation.{Segmentation}
use Rattle.prob_contexts.specs.ProbLists.{ContextLists}
use Rattle.vp9_tables.specs.BlockTables.{width_of}
use Rattle.block_geometry.specs.BlockSizes.{width_8}
use Rattle.block_geometry.specs.declared.transform_blocks.FramePlaces.{FramePlaces}
use Rattle.block_plan.specs.declared.block.BlockAt.{BlockAt}
use Rattle.block_plan.specs.declared.block.BlockInfo.{BlockInfo}
use Rattle.counting_reader.specs.Counting.{settle, counted_before, in_order}
use Rattle.mode_syntax.specs.IntraModeInfo.{intra_frame_mode_info, mode_info_beside}
use Rattle.mode_syntax.specs.Walk.{block_at}
use Rattle.counting_reader.specs.Counting.{Yields}
use Rattle.counting_reader.specs.Counting.{mapped}
use Rattle.counting_reader.proofs.Yields.{yields_bind, yields_all}
use Rattle.counting_reader.proofs.Mapped.{Reads, mapped_behind}
use Rattle.mode_syntax.proofs.Apart.{in_columns_same, same_partition, same_modes}
use Rattle.mode_syntax.specs.Laws.{square_at, KeepsStep, reaches_into, in_columns, next_block, mode_walk, EachKeeps}

-- the first is the same, and what it settles on has a property
mapped_where : {A S T : Type 0} (view : S → T) (P : A → Type 0) (x : Reads A) (k : A → Reads S) (l : A → Reads T)
    → Yields x P → ((a : A) → P a → l a ≡ mapped view (k a)) → in_order x l ≡ mapped view (in_order x k)
unfolding in_order mapped
mapped_where view P (done s) k l has same = ap (counted_before s.counted) (same s.value has) ∙ mapped_behind view s.counted (k s.value)
mapped_where view P (broken e) k l has same = refl
mapped_where view P (ask p next) k l has same = λ i. ask p (λ v. mapped_where view P (next v) k l (has v) same i)

-- a block stands where it is read
abbrev StandsAt : BlockAt → BlockInfo → Type 0
StandsAt at b = (b.col ≡ at.col) × (b.size ≡ at.size)

any_bind : {A B : Type 0} (x : Reads A) (f : A → Reads B) (Q : B → Type 0) → ((a : A) → Yields (f a) Q) → Yields (in_order x f) Q
any_bind x f Q h = yields_bind x f (λ a. Unit {0}) Q (yields_all x) (λ a u. h a)

stands_beside : (segmentation : Segmentation) (mode : TxMode) (contexts : ContextLists) (above left : Option BlockInfo) (at : BlockAt)
    → Yields (mode_info_beside segmentation mode contexts above left at) (StandsAt at)
unfolding mode_info_beside settle
stands_beside segmentation mode contexts above left at =
    any_bind _ _ _ (λ segment. any_bind _ _ _ (λ skip. any_bind _ _ _ (λ tx. any_bind _ _ _ (λ luma. any_bind _ _ _ (λ chroma. (refl, refl))))))

stands : (header : Header) (modes : Modes) (contexts : ContextLists) (blocks : List BlockInfo) (at : BlockAt) → Yields (intra_frame_mode_info header modes contexts blocks at) (StandsAt at)
unfolding intra_frame_mode_info
stands header modes contexts blocks at = stands_beside _ _ _ _ _ at

wide : (size : BlockSize) → 1 ≤ width_8 size
wide size = le-max_left 1 (width_of size / 8)

and_false : (a : Bool) → (a && false) ≡ false
and_false true = refl
and_false false = refl

-- a block more in the columns, and one outside of them
one_in : (from to : ℕ) (blocks : List BlockInfo) (b : BlockInfo) → from ≤ b.col → b.col < to → in_columns from to blocks ++ b ∷ [] ≡ in_columns from to (blocks ++ b ∷ [])
one_in from to blocks b low high = rw (filter-append (reaches_into from to) blocks (b ∷ []), reaches) refl
  where
    reaches : reaches_into from to b ≡ true
    reaches = rw (lt-ltb b.col to high, lt-ltb from (b.col + width_8 b.size) (omega (arith, wide b.size))) refl

one_out : (from to low high : ℕ) (blocks : List BlockInfo) (b : BlockInfo) → low ≤ b.col → b.col + width_8 b.size ≤ high → (high ≤ from) ⊎ (to ≤ low) → in_columns from to (blocks ++ b ∷ []) ≡ in_columns from to blocks
one_out from to low high blocks b after before apart = rw (filter-append (reaches_into from to) blocks (b ∷ []), reaches) (append-nil (in_columns from to blocks))
  where
    reaches : reaches_into from to b ≡ false
    reaches = elim apart [
      | inl left ↦ rw (le-ltb from (b.col + width_8 b.size) (omega arith)) (and_false (nat_lt b.col to))
      | inr right ↦ rw (le-ltb b.col to (omega arith)) refl
    ]

own_block : (header : Header) (modes : Modes) (contexts : ContextLists) (at : BlockAt) (s : List BlockInfo) → at.tile_from ≤ at.col → at.col < at.tile_to
    → next_block header modes contexts at (in_columns at.tile_from at.tile_to s) ≡ mapped (in_columns at.tile_from at.tile_to) (next_block header modes contexts at s)
unfolding next_block settle mapped
own_block header modes contexts at s low high =
    let seen = in_columns at.tile_from at.tile_to s in
    ap (λ modes. in_order modes (λ b. settle (seen ++ b ∷ []))) (same_modes header modes contexts at seen s (in_columns_same at.tile_from at.tile_to s) low high)
    ∙ mapped_where (in_columns at.tile_from at.tile_to) (StandsAt at) (intra_frame_mode_info header modes contexts s at) (λ b. settle (s ++ b ∷ [])) (λ b. settle (seen ++ b ∷ []))
    (stands header modes contexts s at)
    (λ b so. ap settle (one_in at.tile_from at.tile_to s b (omega (arith, so.0)) (omega (arith, so.0))))

other_block : (header : Header) (modes : Modes) (contexts : ContextLists) (at : BlockAt) (from to low high : ℕ) (s seen : List BlockInfo) → low ≤ at.col → at.col + width_8 at.size ≤ high
    → (high ≤ from) ⊎ (to ≤ low) → in_columns from to s ≡ seen → Yields (next_block header modes contexts at s) (λ t. in_columns from to t ≡ seen)
unfolding next_block settle
other_block header modes contexts at from to low high s seen after before apart is =
    yields_bind (intra_frame_mode_info header modes contexts s at) (λ b. settle (s ++ b ∷ [])) (StandsAt at) (λ t. in_columns from to t ≡ seen) (stands header modes contexts s at)
    (λ b so. one_out from to low high s b (omega (arith, so.0)) (omega (arith, so.0, ap width_8 so.1)) apart ∙ is)

inner : (c w high cols to : ℕ) → c + w ≤ high → 1 ≤ w → c < cols → min high cols ≤ to → c < to
inner c w high cols to a b d e = omega arith

pub own_columns : (header : Header) (modes : Modes) (contexts : ContextLists) (frame : FramePlaces) (from to high : ℕ) → min high frame.cols ≤ to
    → KeepsStep (mode_walk header modes contexts frame from to) (next_block header modes contexts) (λ blocks. blocks) (in_columns from to) from high
own_columns header modes contexts frame from to high within = record {
  partitions = λ level r c s lies.
      same_partition true contexts.partitions frame (square_at (mode_walk header modes contexts frame from to) level r c) (in_columns from to s) s (in_columns_same from to s) lies.from (inner c (2 ^ level) high frame.cols to lies.to (pow_pos level) lies.starts within);
  block_steps = λ r c size s lies. own_block header modes contexts (block_at (mode_walk header modes contexts frame from to) r c size) s lies.from (inner c (width_8 size) high frame.cols to lies.to (wide size) lies.starts within);
}

pub other_columns : (header : Header) (modes : Modes) (contexts : ContextLists) (frame : FramePlaces) (tile_from tile_to low high from to : ℕ) (seen : List BlockInfo) → (high ≤ from) ⊎ (to ≤ low)
    → EachKeeps (mode_walk header modes contexts frame tile_from tile_to) (λ s. in_columns from to s ≡ seen) low high
other_columns header modes contexts frame tile_from tile_to low high from to seen apart = record {
  kept = λ r c size s lies is. other_block header modes contexts (block_at (mode_walk header modes contexts frame tile_from tile_to) r c size) from to low high s seen lies.from lies.to apart is;
}
