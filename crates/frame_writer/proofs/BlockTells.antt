-- A block that is put as it is told, and what reading keeps of it.
use Rattle.std.proofs.Common.{◌≡◌, ◌≤◌, ◌∙◌, ◌+◌, ◌-◌, ℕ, arith, refl, sym, ap, Bool, List, [], ◌∷◌, ◌++◌, subst}
use Rattle.std.specs.Prelude.{Option, Some, None, Result, Ok, Err}
use Rattle.std.proofs.lemmas.List.{append_assoc, map-append}
use Rattle.vp9_types.specs.Results.{◌>>=◌}
use Rattle.vp9_types.specs.Syntax.{Syntax}
use Rattle.vp9_types.specs.declared.rule.Rule.{Rule}
use Rattle.vp9_types.specs.declared.shape.Plane.TheVariants.{Y, U, V}
use Rattle.bool_encoder.specs.Part.{NumberPart, behind_marker}
use Rattle.bool_lists.specs.BoolLists.{BoolList, HasPut}
use Rattle.bool_lists.proofs.Ways.{spells_on}
use Rattle.block_lists.proofs.InterWays.{mode_info_way}
use Rattle.counting_reader.specs.Counting.{Settled, lifted}
use Rattle.bool_encoder.specs.CountedBools.{PutsTo, PutsValue}
use Rattle.bool_encoder.proofs.CountedPuts.{puts_broken, puts_lifted, puts_on, puts_settle, puts_value, value_put}
use Rattle.frame_headers.specs.declared.header.FrameKind.{FrameKind}
use Rattle.frame_headers.specs.declared.header.FrameKind.TheVariants.{Key, IntraOnly, Inter as InterFrame}
use Rattle.block_plan.specs.Grid.{GridOf}
use Rattle.block_plan.specs.Planned.{PlannedBlock}
use Rattle.block_plan.specs.declared.block.BlockAt.{BlockAt}
use Rattle.block_plan.specs.declared.block.BlockInfo.{BlockInfo}
use Rattle.residue_syntax.specs.Residues.{ReadPlane, any_coded, listed, planned}
use Rattle.residue_syntax.specs.Residues as residues
use Rattle.residue_syntax.specs.declared.sides.TileSides.{TileSides}
use Rattle.inter_modes.specs.ModeInfo.{mode_info}
use Rattle.frame_state.specs.KeptColumns.{limit_of}
use Rattle.frame_state.specs.FrameReading.{TileRead, infos, read_block}
use Rattle.frame_state.specs.Sources.{block_sources, FrameSources}
use Rattle.inter_writer.specs.SaidBlocks.{IsSaid, IsSaidBy}
use Rattle.inter_writer.specs.declared.frame_blocks.BlockSymbols.{BlockSymbols}
use Rattle.inter_writer.specs.declared.frame_blocks.PredictionSymbols.{PredictionSymbols}
use Rattle.inter_writer.specs.declared.frame_blocks.PredictionSymbols.TheVariants.{Intra, Inter}
use Rattle.residue_writer.specs.ResidueLists.{spelled_residue}
use Rattle.residue_writer.specs.SaidResidues as residue
use Rattle.residue_writer.specs.declared.levels.BlockLevels.{BlockLevels}
use Rattle.tile_writer.specs.declared.unwritten.Unwritten.TheVariants.{Broken, Unsaid}
use Rattle.tile_writer.specs.SaidTiles.{so_far}
use Rattle.frame_writer.specs.FrameSymbols.{Speaker, as_said, block_told, levels_spelled, modes_by, modes_said, modes_spelled, with_read_block}
use Rattle.frame_writer.specs.Code.{TileHeld, TileHere, held_of, here_of}
use Rattle.frame_state.specs.declared.columns.TileColumn.{TileColumn}
use Rattle.frame_state.specs.declared.sources.FrameSources as code
use Rattle.frame_state.specs.declared.tile_places.TilePlaces.{TilePlaces}

abbrev pub before_it : TileRead → List BlockInfo
before_it s = infos (s.earlier ++ s.blocks)

abbrev modes_of : FrameSources → BlockAt → TileRead → Syntax ℕ Rule (Settled (Result BlockInfo Rule))
modes_of by at s = mode_info (block_sources by) (before_it s) at

-- ---- what is put

pub block_puts : (by : FrameSources) (at : BlockAt) (s : TileRead) (old mid new : NumberPart) (info : BlockInfo) (read : PlannedBlock × TileSides)
    → PutsValue (modes_of by at s) old (Ok info) mid → PutsTo (residues.block_residue by.header by.contexts at.tile_from info s.sides) mid (Ok read) new
    → PutsValue (read_block by at s) old (with_read_block s read) new
unfolding read_block
block_puts by at s old mid new info read modes residue =
    value_put _ old new (with_read_block s read) (puts_on (modes_of by at s) _ old mid new (Ok info) _ (puts_value (modes_of by at s) old mid (Ok info) modes)
    (puts_on (lifted (Ok info)) _ mid mid new info _ (puts_lifted (Ok info) mid)
    (puts_on (residues.block_residue by.header by.contexts at.tile_from info s.sides) _ mid new new read _ residue (puts_settle (with_read_block s read) new))))

pub modes_break : (by : FrameSources) (at : BlockAt) (s : TileRead) (old new : NumberPart) (rule : Rule) → PutsValue (modes_of by at s) old (Err rule) new → PutsTo (read_block by at s) old (Err rule) new
unfolding read_block
modes_break by at s old new rule modes =
    puts_on (modes_of by at s) _ old new new (Err rule) (Err rule) (puts_value (modes_of by at s) old new (Err rule) modes)
    (puts_broken (lifted (Err rule)) _ new new rule (puts_lifted (Err rule) new))

pub residue_breaks : (by : FrameSources) (at : BlockAt) (s : TileRead) (old mid new : NumberPart) (info : BlockInfo) (rule : Rule)
    → PutsValue (modes_of by at s) old (Ok info) mid → PutsTo (residues.block_residue by.header by.contexts at.tile_from info s.sides) mid (Err rule) new
    → PutsTo (read_block by at s) old (Err rule) new
unfolding read_block
residue_breaks by at s old mid new info rule modes residue =
    puts_on (modes_of by at s) _ old mid new (Ok info) (Err rule) (puts_value (modes_of by at s) old mid (Ok info) modes)
    (puts_on (lifted (Ok info)) _ mid mid new info (Err rule) (puts_lifted (Ok info) mid)
    (puts_broken (residues.block_residue by.header by.contexts at.tile_from info s.sides) _ mid new rule residue))

-- ---- what is said

modes_are : (by : FrameSources) (kind : FrameKind) (earlier : List BlockInfo) (at : BlockAt) (symbols : BlockSymbols) (p : PredictionSymbols) (r : Result BlockInfo Rule) → symbols.prediction ≡ p
    → IsSaidBy kind (block_sources by) earlier at symbols.start symbols.prediction r → modes_by kind by earlier at symbols ≡ as_said r
modes_are by Key earlier at symbols (Intra p) r is said = rw is (sym (ap as_said (rw is at said)))
modes_are by Key earlier at symbols (Inter q) r is said = absurd (rw is at said)
modes_are by IntraOnly earlier at symbols (Intra p) r is said = rw is (sym (ap as_said (rw is at said)))
modes_are by IntraOnly earlier at symbols (Inter q) r is said = absurd (rw is at said)
modes_are by (InterFrame fields) earlier at symbols p r is said = sym (ap as_said said)

pub modes_are_said : (by : FrameSources) (earlier : List BlockInfo) (at : BlockAt) (symbols : BlockSymbols) (r : Result BlockInfo Rule)
    → IsSaid (block_sources by) earlier at symbols r → modes_said by earlier at symbols ≡ as_said r
modes_are_said by earlier at symbols r said = modes_are by by.header.kind earlier at symbols symbols.prediction r refl said

-- ---- what the code holds

pub held_with : (s : TileRead) (b : PlannedBlock) (sides : TileSides) → held_of (with_read_block s (b, sides)) ≡ record { blocks = before_it s ++ b.info ∷ []; sides = sides }
held_with s b sides = λ i. record { blocks = both i; sides = sides }
  where
    both : infos (s.earlier ++ (s.blocks ++ b ∷ [])) ≡ infos (s.earlier ++ s.blocks) ++ b.info ∷ []
    both = ap infos (sym (append_assoc s.earlier s.blocks (b ∷ []))) ∙ map-append (λ (b : PlannedBlock). b.info) (s.earlier ++ s.blocks) (b ∷ [])

pub blocks_held : (s : TileRead) (h : TileHeld) → held_of s ≡ h → before_it s ≡ h.blocks
blocks_held s h holds = ap (λ (h : TileHeld). h.blocks) holds

pub sides_held : (s : TileRead) (h : TileHeld) → held_of s ≡ h → s.sides ≡ h.sides
sides_held s h holds = ap (λ (h : TileHeld). h.sides) holds

-- the same, of what the code holds
abbrev pub modes_by_blocks : FrameSources → BlockAt → List BlockInfo → Syntax ℕ Rule (Settled (Result BlockInfo Rule))
modes_by_blocks by at blocks = mode_info (block_sources by) blocks at

abbrev pub residue_by_sides : FrameSources → BlockAt → BlockInfo → TileSides → Syntax ℕ Rule (Settled (PlannedBlock × TileSides))
residue_by_sides by at info sides = residues.block_residue by.header by.contexts at.tile_from info sides

modes_from : (by : FrameSources) (at : BlockAt) (s : TileRead) (h : TileHeld) (old mid : NumberPart) (r : Result BlockInfo Rule) → held_of s ≡ h
    → PutsValue (modes_by_blocks by at h.blocks) old r mid → PutsValue (modes_of by at s) old r mid
modes_from by at s h old mid r holds put = subst (λ blocks. PutsValue (modes_by_blocks by at blocks) old r mid) (sym (blocks_held s h holds)) put

residue_from : (by : FrameSources) (at : BlockAt) (s : TileRead) (h : TileHeld) (mid new : NumberPart) (info : BlockInfo) (r : Result (PlannedBlock × TileSides) Rule) → held_of s ≡ h
    → PutsTo (residue_by_sides by at info h.sides) mid r new → PutsTo (residue_by_sides by at info s.sides) mid r new
residue_from by at s h mid new info r holds put = subst (λ sides. PutsTo (residue_by_sides by at info sides) mid r new) (sym (sides_held s h holds)) put

said_from : {T : Type 0} (speaker : Speaker T) (by : FrameSources) (at : BlockAt) (s : TileRead) (h : TileHeld) (t : T) (p : Option (BlockSymbols × T)) → held_of s ≡ h
    → speaker.block by h.blocks at t ≡ p → speaker.block by (before_it s) at t ≡ p
said_from speaker by at s h t p holds said = ap (λ blocks. speaker.block by blocks at t) (blocks_held s h holds) ∙ said

---- What stops a block, and what doesn't ----

pub nothing_told : {T : Type 0} (speaker : Speaker T) (by : FrameSources) (at : BlockAt) (s : TileRead) (bools : BoolList) (h : TileHeld) (t : T) → held_of s ≡ h
    → speaker.block by h.blocks at t ≡ None → block_told speaker by at (so_far s t bools) ≡ Err Unsaid
unfolding block_told
nothing_told speaker by at s bools h t holds none = rw (said_from speaker by at s h t None holds none) refl

-- a block's symbols, and the block or the rule
pub record HasModes {T : Type 0} (speaker : Speaker T) (by : FrameSources) (at : BlockAt) (h : TileHeld) (t : T) (r : Result BlockInfo Rule) (next : T) (old mid : NumberPart) : Type 0 where
  pub symbols : BlockSymbols
  pub told : speaker.block by h.blocks at t ≡ Some (symbols, next)
  pub are : IsSaid (block_sources by) h.blocks at symbols r
  pub put : PutsValue (modes_by_blocks by at h.blocks) old r mid

modes_of_state : {T : Type 0} (speaker : Speaker T) (by : FrameSources) (at : BlockAt) (s : TileRead) (h : TileHeld) (t next : T) (r : Result BlockInfo Rule) (old mid : NumberPart) → held_of s ≡ h
    → (m : HasModes speaker by at h t r next old mid) → modes_said by (before_it s) at m.symbols ≡ as_said r
modes_of_state speaker by at s h t next r old mid holds m =
    ap (λ blocks. modes_said by blocks at m.symbols) (blocks_held s h holds) ∙ modes_are_said by h.blocks at m.symbols r m.are

pub modes_stop : {T : Type 0} (speaker : Speaker T) (by : FrameSources) (at : BlockAt) (s : TileRead) (bools : BoolList) (h : TileHeld) (t next : T) (rule : Rule) (old mid : NumberPart) → held_of s ≡ h
    → HasModes speaker by at h t (Err rule) next old mid → PutsTo (read_block by at s) old (Err rule) mid × (block_told speaker by at (so_far s t bools) ≡ Err (Broken rule))
unfolding block_told
modes_stop speaker by at s bools h t next rule old mid holds m = (
  modes_break by at s old mid rule (modes_from by at s h old mid (Err rule) holds m.put),
  rw (said_from speaker by at s h t (Some (m.symbols, next)) holds m.told) (rw (modes_of_state speaker by at s h t next (Err rule) old mid holds m) refl),
)

pub levels_untold : {T : Type 0} (speaker : Speaker T) (by : FrameSources) (at : BlockAt) (s : TileRead) (bools : BoolList) (h : TileHeld) (t next : T) (info : BlockInfo) (old mid : NumberPart) → held_of s ≡ h
    → HasModes speaker by at h t (Ok info) next old mid → speaker.levels by info next ≡ None → block_told speaker by at (so_far s t bools) ≡ Err Unsaid
unfolding block_told
levels_untold speaker by at s bools h t next info old mid holds m none =
    rw (said_from speaker by at s h t (Some (m.symbols, next)) holds m.told) (rw (modes_of_state speaker by at s h t next (Ok info) old mid holds m) (rw none refl))

-- its levels, and its residue or the rule
pub record HasResidue {T : Type 0} (speaker : Speaker T) (by : FrameSources) (at : BlockAt) (h : TileHeld) (info : BlockInfo) (t last : T) (r : Result (PlannedBlock × TileSides) Rule) (mid new : NumberPart) : Type 0 where
  pub levels : BlockLevels
  pub told : speaker.levels by info t ≡ Some (levels, last)
  pub are : residue.block_residues_said by.header at.tile_from info levels h.sides ≡ r
  pub put : PutsTo (residue_by_sides by at info h.sides) mid r new

residue_of_state : {T : Type 0} (speaker : Speaker T) (by : FrameSources) (at : BlockAt) (s : TileRead) (h : TileHeld) (info : BlockInfo) (t last : T) (r : Result (PlannedBlock × TileSides) Rule) (mid new : NumberPart) → held_of s ≡ h
    → (m : HasResidue speaker by at h info t last r mid new) → residue.block_residues_said by.header at.tile_from info m.levels s.sides ≡ r
residue_of_state speaker by at s h info t last r mid new holds m = ap (λ sides. residue.block_residues_said by.header at.tile_from info m.levels sides) (sides_held s h holds) ∙ m.are

pub residue_stops : {T : Type 0} (speaker : Speaker T) (by : FrameSources) (at : BlockAt) (s : TileRead) (bools : BoolList) (h : TileHeld) (t next last : T) (info : BlockInfo) (rule : Rule) (old mid new : NumberPart) → held_of s ≡ h
    → HasModes speaker by at h t (Ok info) next old mid → HasResidue speaker by at h info next last (Err rule) mid new
    → PutsTo (read_block by at s) old (Err rule) new × (block_told speaker by at (so_far s t bools) ≡ Err (Broken rule))
unfolding block_told
residue_stops speaker by at s bools h t next last info rule old mid new holds m r = (
  residue_breaks by at s old mid new info rule (modes_from by at s h old mid (Ok info) holds m.put) (residue_from by at s h mid new info (Err rule) holds r.put),
  rw (said_from speaker by at s h t (Some (m.symbols, next)) holds m.told) (rw (modes_of_state speaker by at s h t next (Ok info) old mid holds m)
      (rw r.told (rw (residue_of_state speaker by at s h info next last (Err rule) mid new holds r) refl))),
)

-- the bools of a block behind those before it
abbrev pub block_bools : FrameSources → BlockAt → TileRead → BlockInfo → BlockLevels → BoolList → BoolList
block_bools by at s info levels bools = (bools ++ modes_spelled by at s info) ++ levels_spelled by s info levels

levels_from : (by : FrameSources) (s : TileRead) (h : TileHeld) (info : BlockInfo) (levels : BlockLevels) (mid new : NumberPart) → held_of s ≡ h
    → HasPut mid (spelled_residue by.header by.contexts info levels h.sides) new → HasPut mid (levels_spelled by s info levels) new
levels_from by s h info levels mid new holds put = subst (λ sides. HasPut mid (spelled_residue by.header by.contexts info levels sides) new) (sym (sides_held s h holds)) put

pub block_said_so : {T : Type 0} (speaker : Speaker T) (by : FrameSources) (at : BlockAt) (s : TileRead) (bools : BoolList) (h : TileHeld) (t next last : T) (info : BlockInfo) (read : PlannedBlock × TileSides) (old mid new : NumberPart)
    → held_of s ≡ h → HasPut behind_marker bools old → HasModes speaker by at h t (Ok info) next old mid → (r : HasResidue speaker by at h info next last (Ok read) mid new)
    → HasPut mid (spelled_residue by.header by.contexts info r.levels h.sides) new
    → PutsValue (read_block by at s) old (with_read_block s read) new × HasPut behind_marker (block_bools by at s info r.levels bools) new
    × (block_told speaker by at (so_far s t bools) ≡ Ok (so_far (with_read_block s read) last (block_bools by at s info r.levels bools)))
unfolding block_told
block_said_so speaker by at s bools h t next last info read old mid new holds before m r spelled =
    let modes = modes_from by at s h old mid (Ok info) holds m.put in
    let first = mode_info_way (block_sources by) (before_it s) at info old mid modes in (
      block_puts by at s old mid new info read modes (residue_from by at s h mid new info (Ok read) holds r.put),
      spells_on behind_marker mid new (bools ++ modes_spelled by at s info) (levels_spelled by s info r.levels) (levels_from by s h info r.levels mid new holds spelled)
          (spells_on behind_marker old mid bools (modes_spelled by at s info) first before),
      rw (said_from speaker by at s h t (Some (m.symbols, next)) holds m.told) (rw (modes_of_state speaker by at s h t next (Ok info) old mid holds m)
          (rw r.told (rw (residue_of_state speaker by at s h info next last (Ok read) mid new holds r) refl))),
    )

pub held_more : (s : TileRead) (h : TileHeld) (b : PlannedBlock) (sides : TileSides) (info : BlockInfo) (blocks : List BlockInfo) → held_of s ≡ h → b.info ≡ info → blocks ≡ h.blocks ++ info ∷ []
    → held_of (with_read_block s (b, sides)) ≡ record { blocks = blocks; sides = sides }
held_more s h b sides info blocks holds is more =
    held_with s b sides ∙ (λ i. record { blocks = so i; sides = sides })
  where
    so : before_it s ++ b.info ∷ [] ≡ blocks
    so = ap (λ xs. xs ++ b.info ∷ []) (blocks_held s h holds) ∙ (ap (λ x. h.blocks ++ x ∷ []) is ∙ sym more)

---- The block as it is listed ----

abbrev all_said : Result ReadPlane Rule → Result ReadPlane Rule → Result ReadPlane Rule → ℕ → BlockInfo → Result (PlannedBlock × TileSides) Rule
all_said y u v tile_from info = do
  y ← y
  u ← u
  v ← v
  Ok (planned tile_from info y u v, record { y = y.sides; u = u.sides; v = v.sides })

abbrev info_or : BlockInfo → Result (PlannedBlock × TileSides) Rule → BlockInfo
info_or info (Ok p) = p.0.info
info_or info (Err rule) = info

listed_by : (y u v : Result ReadPlane Rule) (tile_from : ℕ) (info : BlockInfo) (b : PlannedBlock) (sides : TileSides)
    → all_said y u v tile_from info ≡ Ok (b, sides) → (any : Bool) × (b.info ≡ listed info any)
listed_by (Ok y) (Ok u) (Ok v) tile_from info b sides is = (any_coded y.residues u.residues v.residues, sym (ap (info_or info) is))
listed_by (Ok y) (Ok u) (Err rule) tile_from info b sides is = cc
listed_by (Ok y) (Err rule) v tile_from info b sides is = cc
listed_by (Err rule) u v tile_from info b sides is = cc

pub is_listed : (by : FrameSources) (tile_from : ℕ) (info listed_as : BlockInfo) (levels : BlockLevels) (s sides : TileSides) (b : PlannedBlock)
    → residue.block_residues_said by.header tile_from info levels s ≡ Ok (b, sides) → b.info ≡ listed_as → (any : Bool) × (listed_as ≡ listed info any)
unfolding residue.block_residues_said
is_listed by tile_from info listed_as levels s sides b said is =
    let so = listed_by (residue.said_in_plane by.header info Y levels.y s.y) (residue.said_in_plane by.header info U levels.u s.u) (residue.said_in_plane by.header info V levels.v s.v) tile_from info b sides said in
    (so.0, sym is ∙ so.1)

---- The column ----

pub limit_same : (old new : GridOf) (before after : TileSides) → new.from ≡ old.from → new.to ≡ old.to
    → limit_of (record { grid = new; sides = after }) ≡ limit_of (record { grid = old; sides = before })
limit_same old new before after from to = rw (from, to) refl

pub room_less : (old new : ℕ) → new ≡ old - 1 → old ≤ new + 1
room_less old new is = omega (arith, is)

---- With what stays the same for a tile ----

pub of_here : (by : code.FrameSources) (places : TilePlaces) (columns : List TileColumn) (s : TileRead) (h : TileHere) → here_of by places columns s ≡ h → held_of s ≡ h.held
of_here by places columns s h is = ap (λ (h : TileHere). h.held) is

pub to_here : (by : code.FrameSources) (places : TilePlaces) (columns : List TileColumn) (s : TileRead) (h : TileHeld) → held_of s ≡ h
    → here_of by places columns s ≡ record { held = h; by = by; places = places; columns = columns }
to_here by places columns s h is = λ i. record { held = is i; by = by; places = places; columns = columns }
