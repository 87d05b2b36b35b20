-- How a tile ends in its column: what its bytes are then, and what the column is left as.
use Rattle.std.proofs.Common.{◌≡◌, ℕ, ◌+◌, ◌-◌, ◌*◌, ◌^◌, ◌≤◌, List, [], ap, length, subst}
use Rattle.std.specs.Prelude.{IfOk, OnOk, Option, Some, None, Result, Ok, Err}
use Rattle.vp9_types.specs.Sizes.{superblocks_along}
use Rattle.vp9_types.specs.declared.rule.Rule.{Rule}
use Rattle.bool_encoder.specs.Part.{NumberPart, Finishes, behind_marker}
use Rattle.bool_lists.specs.BoolLists.{BoolList, HasPut}
use Rattle.bool_lists.proofs.Ways.{bytes_are, spells_none}
use Rattle.bool_encoder.proofs.CountedPuts.{puts_value}
use Rattle.frame_state.specs.KeptColumns.{limit_of}
use Rattle.frame_state.specs.FrameReading.{TileRead, read_walk}
use Rattle.frame_state.specs.Code.{sources_of}
use Rattle.frame_state.specs.declared.sources.FrameSources as code
use Rattle.frame_state.specs.declared.columns.TileColumn.{TileColumn}
use Rattle.frame_state.specs.declared.tile_places.TilePlaces.{TilePlaces}
use Rattle.mode_syntax.specs.Superblocks.{superblocks_of}
use Rattle.frame_state.specs.TilePlaces.{first_superblock}
use Rattle.tile_writer.specs.Code.{EndsTile, HoldsSoFar, Tile, tile_rest}
use Rattle.tile_writer.specs.declared.unwritten.Unwritten.{Unwritten}
use Rattle.tile_writer.specs.declared.unwritten.Unwritten.TheVariants as unwritten
use Rattle.frame_writer.specs.FrameBytes.{AreBytesOf}
use Rattle.frame_writer.specs.Code.{GivesBytes, GivesTile, GivesTileTo, IsLong, IsReadyFor, TileHere, ending_of, held_by, held_of, here_of}
use Rattle.frame_writer.specs.SaidFrames.{tile_syntax, tile_told}
use Rattle.frame_writer.specs.FrameSymbols.{Speaker, teller_of}
use Rattle.frame_writer.specs.declared.written.NotWritten.{NotWritten}
use Rattle.frame_writer.specs.declared.written.NotWritten.TheVariants.{Unsaid, TooLong, OutOfMemory}
use Rattle.frame_writer.specs.declared.written.Written.{Written}
use Rattle.frame_writer.proofs.BlockTells.{of_here, to_here}

-- where a tile stands
abbrev pub tile_at_work : {T : Type 0} → Speaker T → code.FrameSources → TilePlaces → List TileColumn → TileColumn → T → NumberPart → Tile TileRead TileHere T
tile_at_work speaker by places columns column told part = record {
  walk = read_walk (sources_of by) by.setting.places places;
  teller = teller_of speaker (sources_of by);
  view = here_of by places columns;
  limit = limit_of column;
  room = column.grid.room;
  held = record { held = held_by column; by = by; places = places; columns = columns };
  told = told;
  part = part;
}

-- how the writing of its superblocks ends
abbrev pub Ends : {T : Type 0} → Speaker T → code.FrameSources → TilePlaces → List TileColumn → ℕ → ℕ → TileColumn → T → NumberPart → Result (Unit {0}) Unwritten → Tile TileRead TileHere T → Type 0
Ends speaker by places columns across down column told first r new =
    EndsTile (tile_rest (read_walk (sources_of by) by.setting.places places) (teller_of speaker (sources_of by)) (superblocks_of (first_superblock places) down across)) (64 * (across * down))
    (tile_at_work speaker by places columns column told first) r new

-- so many superblocks
pub record AreAll (places : TilePlaces) (across down : ℕ) : Type 0 where
  pub wide : across ≡ superblocks_along (places.col_to - places.col_from)
  pub high : down ≡ superblocks_along (places.row_to - places.row_from)

-- two ways to end
well_or_not : (broken : Option Rule) → ◌≡◌ {A = Result (Option Rule) NotWritten} (Ok None) (Ok broken) → broken ≡ None
well_or_not broken is = cc

broken_by : (rule : Rule) (broken : Option Rule) → ◌≡◌ {A = Result (Option Rule) NotWritten} (Ok (Some rule)) (Ok broken) → broken ≡ Some rule
broken_by rule broken is = cc

not_ended : {A : Type 0} (why : NotWritten) (broken : Option Rule) → ◌≡◌ {A = Result (Option Rule) NotWritten} (Err why) (Ok broken) → A
not_ended why broken is = let no : ⊥ = cc in absurd no

-- the code's column holds a state, and no bool is put
begins_so : {T : Type 0} (speaker : Speaker T) (by : code.FrameSources) (places : TilePlaces) (columns : List TileColumn) (column : TileColumn) (told : T) (s : TileRead) → held_of s ≡ held_by column
    → HoldsSoFar (tile_at_work speaker by places columns column told behind_marker) s []
begins_so speaker by places columns column told s holds = (to_here by places columns s (held_by column) holds, spells_none behind_marker)

-- the bytes of a part are those of the bools that led to it
bytes_of_part : (bools : BoolList) (part : NumberPart) (bytes : List ℕ) → HasPut behind_marker bools part → Finishes part bytes → AreBytesOf bools bytes
unfolding HasPut
bytes_of_part bools part bytes put finishes = subst (λ part. Finishes part bytes) put finishes

gives_by : {T : Type 0} (speaker : Speaker T) (by : code.FrameSources) (places : TilePlaces) (columns : List TileColumn) (across down : ℕ) (column : TileColumn) (told : T) (r : Result (Unit {0}) Unwritten)
    (broken : Option Rule) (bytes : List ℕ) (walk_by : code.FrameSources) (at : TilePlaces) (others : List TileColumn) (new : TileColumn) (last : T) (part : NumberPart)
    → AreAll places across down → Ends speaker by places columns across down column told behind_marker r (tile_at_work speaker walk_by at others new last part) → ending_of r ≡ Ok broken → Finishes part bytes
    → (s : TileRead) → held_of s ≡ held_by column → GivesTileTo speaker (sources_of by) by.setting.places places s told bytes broken new last
gives_by speaker by places columns across down column told (Ok u) broken bytes walk_by at others new last part all ends so finishes s holds =
    let next = rw (all.wide, all.high) at (ends.0 s [] (begins_so speaker by places columns column told s holds)) in
    rw (well_or_not broken so) (
      next.next,
      next.all,
      record { part = part; put = puts_value (tile_syntax (sources_of by) by.setting.places places s) behind_marker part next.next next.put; ends = finishes },
      of_here by places columns next.next _ next.held,
      bytes_of_part next.all part bytes next.list finishes,
      next.said,
    )
gives_by speaker by places columns across down column told (Err (unwritten.Broken rule)) broken bytes walk_by at others new last part all ends so finishes s holds =
    let here = rw (all.wide, all.high) at (ends.0 s [] (begins_so speaker by places columns column told s holds)) in
    rw (broken_by rule broken so) (record { part = part; put = here.0; ends = finishes }, here.1)
gives_by speaker by places columns across down column told (Err unwritten.Unsaid) broken bytes walk_by at others new last part all ends so finishes s holds = not_ended Unsaid broken so
gives_by speaker by places columns across down column told (Err unwritten.OutOfMemory) broken bytes walk_by at others new last part all ends so finishes s holds = not_ended OutOfMemory broken so

untold_by : {T : Type 0} (speaker : Speaker T) (by : code.FrameSources) (places : TilePlaces) (columns : List TileColumn) (across down : ℕ) (column : TileColumn) (told : T) (r : Result (Unit {0}) Unwritten)
    (new : Tile TileRead TileHere T) → AreAll places across down → Ends speaker by places columns across down column told behind_marker r new → ending_of r ≡ Err Unsaid
    → (s : TileRead) → held_of s ≡ held_by column → tile_told speaker (sources_of by) by.setting.places places s told ≡ Err unwritten.Unsaid
untold_by speaker by places columns across down column told (Ok u) new all ends so s holds = let no : ⊥ = cc in absurd no
untold_by speaker by places columns across down column told (Err (unwritten.Broken rule)) new all ends so s holds = let no : ⊥ = cc in absurd no
untold_by speaker by places columns across down column told (Err unwritten.Unsaid) new all ends so s holds = rw (all.wide, all.high) at (ends s [] (begins_so speaker by places columns column told s holds))
untold_by speaker by places columns across down column told (Err unwritten.OutOfMemory) new all ends so s holds = let no : ⊥ = cc in absurd no

-- a tile whose bytes are too many, whether it breaks a rule or not
long_by : {T : Type 0} (speaker : Speaker T) (by : code.FrameSources) (places : TilePlaces) (columns : List TileColumn) (across down : ℕ) (column : TileColumn) (told : T) (r : Result (Unit {0}) Unwritten)
    (broken : Option Rule) (bytes : List ℕ) (new : Tile TileRead TileHere T) → AreAll places across down → Ends speaker by places columns across down column told behind_marker r new → ending_of r ≡ Ok broken
    → Finishes new.part bytes → 2 ^ 32 ≤ length bytes → (s : TileRead) → held_of s ≡ held_by column
    → IsLong (tile_syntax (sources_of by) by.setting.places places s) (tile_told speaker (sources_of by) by.setting.places places s told)
long_by speaker by places columns across down column told (Ok u) broken bytes new all ends so finishes long s holds =
    let next = rw (all.wide, all.high) at (ends.0 s [] (begins_so speaker by places columns column told s holds)) in
    rw next.said (subst (λ n. 2 ^ 32 ≤ n) (bytes_are next.all new.part bytes next.list finishes) long)
long_by speaker by places columns across down column told (Err (unwritten.Broken rule)) broken bytes new all ends so finishes long s holds =
    let here = rw (all.wide, all.high) at (ends.0 s [] (begins_so speaker by places columns column told s holds)) in
    rw here.1 (bytes, record { part = new.part; put = here.0; ends = finishes }, long)
long_by speaker by places columns across down column told (Err unwritten.Unsaid) broken bytes new all ends so finishes long s holds = not_ended Unsaid broken so
long_by speaker by places columns across down column told (Err unwritten.OutOfMemory) broken bytes new all ends so finishes long s holds = not_ended OutOfMemory broken so

by_bytes : {T : Type 0} (speaker : Speaker T) (by : code.FrameSources) (places : TilePlaces) (columns : List TileColumn) (across down : ℕ) (column : TileColumn) (told : T) (r : Result (Unit {0}) Unwritten)
    (walk_by : code.FrameSources) (at : TilePlaces) (others : List TileColumn) (new : TileColumn) (last : T) (part : NumberPart) (result : Result Written NotWritten)
    → AreAll places across down → Ends speaker by places columns across down column told behind_marker r (tile_at_work speaker walk_by at others new last part) → GivesBytes r part result
    → (s : TileRead) → held_of s ≡ held_by column → GivesTile speaker (sources_of by) by.setting.places places s told result new last
by_bytes speaker by places columns across down column told r walk_by at others new last part (Ok w) all ends gives s holds =
    gives_by speaker by places columns across down column told r w.broken w.bytes.items walk_by at others new last part all ends gives.0 gives.1 s holds
by_bytes speaker by places columns across down column told r walk_by at others new last part (Err Unsaid) all ends gives s holds =
    untold_by speaker by places columns across down column told r _ all ends gives s holds
by_bytes speaker by places columns across down column told r walk_by at others new last part (Err TooLong) all ends gives s holds =
    long_by speaker by places columns across down column told r gives.0 gives.1 _ all ends gives.2 gives.3 gives.4 s holds
by_bytes speaker by places columns across down column told r walk_by at others new last part (Err OutOfMemory) all ends gives s holds = tt

-- from the part that a new encoder has
pub gives_tile : {T : Type 0} (speaker : Speaker T) (by : code.FrameSources) (places : TilePlaces) (columns : List TileColumn) (across down : ℕ) (column : TileColumn) (told : T) (first : NumberPart)
    (r : Result (Unit {0}) Unwritten) (walk_by : code.FrameSources) (at : TilePlaces) (others : List TileColumn) (new : TileColumn) (last : T) (part : NumberPart) (result : Result Written NotWritten)
    → first ≡ behind_marker → AreAll places across down → Ends speaker by places columns across down column told first r (tile_at_work speaker walk_by at others new last part) → GivesBytes r part result
    → (s : TileRead) → held_of s ≡ held_by column → GivesTile speaker (sources_of by) by.setting.places places s told result new last
gives_tile speaker by places columns across down column told first r walk_by at others new last part result begins all ends gives s holds =
    by_bytes speaker by places columns across down column told r walk_by at others new last part result all
    (subst (λ first. Ends speaker by places columns across down column told first r (tile_at_work speaker walk_by at others new last part)) begins ends) gives s holds

---- What stays the same, and what is left of the column ----

-- what reading could keep where the code's column has no blocks
abbrev some_state : TileColumn → TileRead
some_state column = record { earlier = []; blocks = []; sides = column.sides }

-- where bytes were written
abbrev pub IsSame : code.FrameSources → TilePlaces → List TileColumn → code.FrameSources → TilePlaces → List TileColumn → TileColumn → Type 0
IsSame by places columns walk_by at others column = here_of walk_by at others (some_state column) ≡ here_of by places columns (some_state column)

same_by : {T : Type 0} (speaker : Speaker T) (by : code.FrameSources) (places : TilePlaces) (columns : List TileColumn) (across down : ℕ) (column : TileColumn) (told : T) (first : NumberPart)
    (r : Result (Unit {0}) Unwritten) (walk_by : code.FrameSources) (at : TilePlaces) (others : List TileColumn) (new : TileColumn) (last : T) (part : NumberPart) (broken : Option Rule)
    → Ends speaker by places columns across down column told first r (tile_at_work speaker walk_by at others new last part) → ending_of r ≡ Ok broken → IsSame by places columns walk_by at others column
same_by speaker by places columns across down column told first (Ok u) walk_by at others new last part broken ends so = ap (λ view. view (some_state column)) ends.1.view
same_by speaker by places columns across down column told first (Err (unwritten.Broken rule)) walk_by at others new last part broken ends so = ap (λ view. view (some_state column)) ends.1.view
same_by speaker by places columns across down column told first (Err unwritten.Unsaid) walk_by at others new last part broken ends so = not_ended Unsaid broken so
same_by speaker by places columns across down column told first (Err unwritten.OutOfMemory) walk_by at others new last part broken ends so = not_ended OutOfMemory broken so

pub still_same : {T : Type 0} (speaker : Speaker T) (by : code.FrameSources) (places : TilePlaces) (columns : List TileColumn) (across down : ℕ) (column : TileColumn) (told : T) (first : NumberPart)
    (r : Result (Unit {0}) Unwritten) (walk_by : code.FrameSources) (at : TilePlaces) (others : List TileColumn) (new : TileColumn) (last : T) (part : NumberPart) (result : Result Written NotWritten)
    → Ends speaker by places columns across down column told first r (tile_at_work speaker walk_by at others new last part) → GivesBytes r part result
    → OnOk result (IsSame by places columns walk_by at others column)
still_same speaker by places columns across down column told first r walk_by at others new last part (Ok w) ends gives =
    same_by speaker by places columns across down column told first r walk_by at others new last part w.broken ends gives.0
still_same speaker by places columns across down column told first r walk_by at others new last part (Err why) ends gives = tt

pub same_sources : (result : Result Written NotWritten) (by walk_by : code.FrameSources) (places at : TilePlaces) (columns others : List TileColumn) (column : TileColumn)
    → OnOk result (IsSame by places columns walk_by at others column) → OnOk result (walk_by ≡ by)
same_sources (Ok w) by walk_by places at columns others column same = ap (λ (h : TileHere). h.by) same
same_sources (Err why) by walk_by places at columns others column same = tt

pub same_columns : (result : Result Written NotWritten) (by walk_by : code.FrameSources) (places at : TilePlaces) (columns others : List TileColumn) (column : TileColumn)
    → OnOk result (IsSame by places columns walk_by at others column) → OnOk result (others ≡ columns)
same_columns (Ok w) by walk_by places at columns others column same = ap (λ (h : TileHere). h.columns) same
same_columns (Err why) by walk_by places at columns others column same = tt

ended_well : {P : Type 0} (r : Result (Unit {0}) Unwritten) (broken : Option Rule) → ending_of r ≡ Ok broken → broken ≡ None → OnOk r P → P
ended_well (Ok u) broken so none holds = holds
ended_well (Err (unwritten.Broken rule)) broken so none holds = let some : broken ≡ Some rule = broken_by rule broken so in let no : ⊥ = cc in absurd no
ended_well (Err unwritten.Unsaid) broken so none holds = not_ended Unsaid broken so
ended_well (Err unwritten.OutOfMemory) broken so none holds = not_ended OutOfMemory broken so

pub still_ready : (P : Type 0) {T : Type 0} (speaker : Speaker T) (by : code.FrameSources) (places : TilePlaces) (columns : List TileColumn) (across down : ℕ) (column : TileColumn) (told : T) (first : NumberPart)
    (r : Result (Unit {0}) Unwritten) (walk_by : code.FrameSources) (at : TilePlaces) (others : List TileColumn) (new : TileColumn) (last : T) (part : NumberPart) (result : Result Written NotWritten)
    → Ends speaker by places columns across down column told first r (tile_at_work speaker walk_by at others new last part) → GivesBytes r part result
    → OnOk r (P × IsReadyFor walk_by.setting at new) → IfOk result (λ w. w.broken ≡ None → IsReadyFor by.setting places new)
still_ready P speaker by places columns across down column told first r walk_by at others new last part (Ok w) ends gives ready = λ none.
    let same = same_by speaker by places columns across down column told first r walk_by at others new last part w.broken ends gives.0 in
    subst (λ (h : TileHere). IsReadyFor h.by.setting h.places new) same (ended_well r w.broken gives.0 none ready).1
still_ready P speaker by places columns across down column told first r walk_by at others new last part (Err why) ends gives ready = tt

room_by : {T : Type 0} (speaker : Speaker T) (by : code.FrameSources) (places : TilePlaces) (columns : List TileColumn) (across down : ℕ) (column : TileColumn) (told : T) (first : NumberPart)
    (r : Result (Unit {0}) Unwritten) (walk_by : code.FrameSources) (at : TilePlaces) (others : List TileColumn) (new : TileColumn) (last : T) (part : NumberPart) (broken : Option Rule)
    → Ends speaker by places columns across down column told first r (tile_at_work speaker walk_by at others new last part) → ending_of r ≡ Ok broken → broken ≡ None
    → column.grid.room ≤ new.grid.room + 64 * (across * down)
room_by speaker by places columns across down column told first (Ok u) walk_by at others new last part broken ends so none = ends.2
room_by speaker by places columns across down column told first (Err (unwritten.Broken rule)) walk_by at others new last part broken ends so none =
    let some : broken ≡ Some rule = broken_by rule broken so in let no : ⊥ = cc in absurd no
room_by speaker by places columns across down column told first (Err unwritten.Unsaid) walk_by at others new last part broken ends so none = not_ended Unsaid broken so
room_by speaker by places columns across down column told first (Err unwritten.OutOfMemory) walk_by at others new last part broken ends so none = not_ended OutOfMemory broken so

pub room_left : {T : Type 0} (speaker : Speaker T) (by : code.FrameSources) (places : TilePlaces) (columns : List TileColumn) (across down : ℕ) (column : TileColumn) (told : T) (first : NumberPart)
    (r : Result (Unit {0}) Unwritten) (walk_by : code.FrameSources) (at : TilePlaces) (others : List TileColumn) (new : TileColumn) (last : T) (part : NumberPart) (result : Result Written NotWritten)
    → AreAll places across down → Ends speaker by places columns across down column told first r (tile_at_work speaker walk_by at others new last part) → GivesBytes r part result
    → IfOk result (λ w. w.broken ≡ None → column.grid.room ≤ new.grid.room + 64 * (superblocks_along (places.col_to - places.col_from) * superblocks_along (places.row_to - places.row_from)))
room_left speaker by places columns across down column told first r walk_by at others new last part (Ok w) all ends gives = λ none.
    rw (all.wide, all.high) at (room_by speaker by places columns across down column told first r walk_by at others new last part w.broken ends gives.0 none)
room_left speaker by places columns across down column told first r walk_by at others new last part (Err why) all ends gives = tt
