use Rattle.std.proofs.Common.{◌≡◌, ◌∙◌, ap, arith, refl}
use Rattle.block_plan.specs.Grid.{GridOf}
use Rattle.block_plan.specs.declared.block.BlockInfo.{BlockInfo}
use Rattle.frame_state.specs.Code.{sources_of}
use Rattle.frame_state.proofs.BlockSteps.{all_have_small, fits_more, lies_more, small_more, starts_more, vectors_small}
use Rattle.frame_writer.specs.Code.{held_by}
use Rattle.frame_writer.specs.FrameSymbols.{with_read_block}
use Rattle.frame_writer.proofs.BlockTells.{block_bools, block_said_so, held_more, is_listed, levels_untold, limit_same, modes_stop, nothing_told, of_here, residue_stops, room_less, to_here}
use Rattle.frame_writer.proofs.tile.FrameInProgressTileWriter.put_block.Goals as goal

pub returns-in_default-clause-ends : goal.returns-in_default-clause-ends
returns-in_default-clause-ends g c = λ s bools here.
    nothing_told g.S.FrameSymbols.speaker (sources_of c.args.self.now.by.now) c.args.at s bools _ c.args.self.now.symbols (of_here c.args.self.now.by.now c.args.self.now.places c.args.self.now.columns.items s (record { held = held_by c.args.self.now.column; by = c.args.self.now.by.now; places = c.args.self.now.places; columns = c.args.self.now.columns.items }) here.0) c.in_default.ensures.tells

pub put_mode_info-requires-clause-small : goal.put_mode_info-requires-clause-small
put_mode_info-requires-clause-small g c = let ready = c.requires.ready in all_have_small _ ready.1.ready.small

pub put_mode_info-requires-clause-small_before : goal.put_mode_info-requires-clause-small_before
put_mode_info-requires-clause-small_before g c =
    let ready = c.requires.ready in
    rw c.as_ref-before.ensures.value (vectors_small c.args.self.now.by.now.setting.header c.args.self.now.by.now.past.vectors ready.0.vectors)

pub returns-in-Err-clause-ends : goal.returns-in-Err-clause-ends
returns-in-Err-clause-ends g c = (
  λ s bools here.
      modes_stop g.S.FrameSymbols.speaker (sources_of c.args.self.now.by.now) c.args.at s bools _ c.args.self.now.symbols c.block.new.self c.in-Err.rule c.args.self.now.encoder c.put_mode_info.new.encoder (of_here c.args.self.now.by.now c.args.self.now.places c.args.self.now.columns.items s (record { held = held_by c.args.self.now.column; by = c.args.self.now.by.now; places = c.args.self.now.places; columns = c.args.self.now.columns.items }) here.0)
      (record {
        symbols = c.in-Some.symbols;
        told = c.in-Some.ensures.tells;
        are = rw (c.as_ref-before.ensures.value, c.in-Err.is) at c.in_ok-block.ensures.is;
        put = rw (c.as_ref-before.ensures.value, c.in-Err.is) at c.in_ok-block.ensures.put;
      }),
  record { walk = refl; teller = refl; view = refl; limit = refl },
)

pub returns-then-not-levels-clause-ends : goal.returns-then-not-levels-clause-ends
returns-then-not-levels-clause-ends g c = λ s bools here.
    levels_untold g.S.FrameSymbols.speaker (sources_of c.args.self.now.by.now) c.args.at s bools _ c.args.self.now.symbols c.block.new.self c.in-Ok.block c.args.self.now.encoder c.put_mode_info.new.encoder (of_here c.args.self.now.by.now c.args.self.now.places c.args.self.now.columns.items s (record { held = held_by c.args.self.now.column; by = c.args.self.now.by.now; places = c.args.self.now.places; columns = c.args.self.now.columns.items }) here.0)
    (record {
      symbols = c.in-Some.symbols;
      told = c.in-Some.ensures.tells;
      are = rw (c.as_ref-before.ensures.value, c.in-Ok.is) at c.in_ok-block.ensures.is;
      put = rw (c.as_ref-before.ensures.value, c.in-Ok.is) at c.in_ok-block.ensures.put;
    })
    c.if-not-levels.ensures.tells

pub returns-in-Err-2-clause-ends : goal.returns-in-Err-2-clause-ends
returns-in-Err-2-clause-ends g c =
    let tells = rw c.in-Err-2.is at (c.in_ok-listed.ensures.tells c.args.at.tile_from) in (
      λ s bools here.
          residue_stops g.S.FrameSymbols.speaker (sources_of c.args.self.now.by.now) c.args.at s bools _ c.args.self.now.symbols c.block.new.self c.levels.new.self c.in-Ok.block c.in-Err-2.rule c.args.self.now.encoder c.put_mode_info.new.encoder c.put_block.new.encoder (of_here c.args.self.now.by.now c.args.self.now.places c.args.self.now.columns.items s (record { held = held_by c.args.self.now.column; by = c.args.self.now.by.now; places = c.args.self.now.places; columns = c.args.self.now.columns.items }) here.0)
          (record {
            symbols = c.in-Some.symbols;
            told = c.in-Some.ensures.tells;
            are = rw (c.as_ref-before.ensures.value, c.in-Ok.is) at c.in_ok-block.ensures.is;
            put = rw (c.as_ref-before.ensures.value, c.in-Ok.is) at c.in_ok-block.ensures.put;
          })
          (record {
            levels = c.levels.new.levels;
            told = c.if-not-levels.ensures.tells;
            are = tells;
            put = rw tells at (c.in_ok-listed.ensures.puts c.args.at.tile_from);
          }),
      record { walk = refl; teller = refl; view = refl; limit = refl },
    )

pub returns-clause-ends : goal.returns-clause-ends
returns-clause-ends g c =
    let tells = rw c.in-Ok-2.is at (c.in_ok-listed.ensures.tells c.args.at.tile_from) in
    let sides = c.put_block.new.sides in
    let grid = c.put.ensures in (
      λ s bools here.
          let all = block_said_so g.S.FrameSymbols.speaker (sources_of c.args.self.now.by.now) c.args.at s bools _ c.args.self.now.symbols c.block.new.self c.levels.new.self c.in-Ok.block (tells.0, sides) c.args.self.now.encoder c.put_mode_info.new.encoder c.put_block.new.encoder (of_here c.args.self.now.by.now c.args.self.now.places c.args.self.now.columns.items s (record { held = held_by c.args.self.now.column; by = c.args.self.now.by.now; places = c.args.self.now.places; columns = c.args.self.now.columns.items }) here.0) here.1
          (record {
            symbols = c.in-Some.symbols;
            told = c.in-Some.ensures.tells;
            are = rw (c.as_ref-before.ensures.value, c.in-Ok.is) at c.in_ok-block.ensures.is;
            put = rw (c.as_ref-before.ensures.value, c.in-Ok.is) at c.in_ok-block.ensures.put;
          })
          (record {
            levels = c.levels.new.levels;
            told = c.if-not-levels.ensures.tells;
            are = tells.1;
            put = rw tells.1 at (c.in_ok-listed.ensures.puts c.args.at.tile_from);
          }) (rw c.in-Ok-2.is at c.in_ok-listed.ensures.spells) in record {
            next = with_read_block s (tells.0, sides);
            all = block_bools (sources_of c.args.self.now.by.now) c.args.at s c.in-Ok.block c.levels.new.levels bools;
            held = to_here c.args.self.now.by.now c.args.self.now.places c.args.self.now.columns.items (with_read_block s (tells.0, sides)) (record { blocks = c.put.new.self.blocks; sides = sides }) (held_more s (held_by c.args.self.now.column) tells.0 sides c.in-Ok-2.listed c.put.new.self.blocks (of_here c.args.self.now.by.now c.args.self.now.places c.args.self.now.columns.items s (record { held = held_by c.args.self.now.column; by = c.args.self.now.by.now; places = c.args.self.now.places; columns = c.args.self.now.columns.items }) here.0) tells.2 (ap (λ (g : GridOf). g.blocks) grid));
            put = all.0;
            list = all.1;
            said = all.2;
          },
      record { walk = refl; teller = refl; view = refl; limit = limit_same c.args.self.now.column.grid c.put.new.self c.args.self.now.column.sides sides (ap (λ (g : GridOf). g.from) grid) (ap (λ (g : GridOf). g.to) grid) },
      room_less c.args.self.now.column.grid.room c.put.new.self.room (ap (λ (g : GridOf). g.room) grid),
    )

pub put-requires-clause-row : goal.put-requires-clause-row
put-requires-clause-row g c =
    let is = rw c.in-Ok.is at c.in_ok-block.ensures.block in
    let ready = c.requires.ready in
    let stands = c.requires.stands in
    let tells = rw c.in-Ok-2.is at (c.in_ok-listed.ensures.tells c.args.at.tile_from) in
    let any = is_listed (sources_of c.args.self.now.by.now) c.args.at.tile_from c.in-Ok.block c.in-Ok-2.listed c.levels.new.levels _ _ tells.0 tells.1 tells.2 in
    let row : c.in-Ok-2.listed.row ≡ c.args.at.row = ap (λ (b : BlockInfo). b.row) any.1 ∙ is.row in
    let col : c.in-Ok-2.listed.col ≡ c.args.at.col = ap (λ (b : BlockInfo). b.col) any.1 ∙ is.col in
    omega (arith, row, c.requires.row, ready.1.ready.rows)

pub put-requires-clause-first : goal.put-requires-clause-first
put-requires-clause-first g c =
    let is = rw c.in-Ok.is at c.in_ok-block.ensures.block in
    let ready = c.requires.ready in
    let stands = c.requires.stands in
    let tells = rw c.in-Ok-2.is at (c.in_ok-listed.ensures.tells c.args.at.tile_from) in
    let any = is_listed (sources_of c.args.self.now.by.now) c.args.at.tile_from c.in-Ok.block c.in-Ok-2.listed c.levels.new.levels _ _ tells.0 tells.1 tells.2 in
    let row : c.in-Ok-2.listed.row ≡ c.args.at.row = ap (λ (b : BlockInfo). b.row) any.1 ∙ is.row in
    let col : c.in-Ok-2.listed.col ≡ c.args.at.col = ap (λ (b : BlockInfo). b.col) any.1 ∙ is.col in
    omega (arith, col, stands.first, stands.from, ready.1.from)

pub put-requires-clause-last : goal.put-requires-clause-last
put-requires-clause-last g c =
    let is = rw c.in-Ok.is at c.in_ok-block.ensures.block in
    let ready = c.requires.ready in
    let stands = c.requires.stands in
    let tells = rw c.in-Ok-2.is at (c.in_ok-listed.ensures.tells c.args.at.tile_from) in
    let any = is_listed (sources_of c.args.self.now.by.now) c.args.at.tile_from c.in-Ok.block c.in-Ok-2.listed c.levels.new.levels _ _ tells.0 tells.1 tells.2 in
    let row : c.in-Ok-2.listed.row ≡ c.args.at.row = ap (λ (b : BlockInfo). b.row) any.1 ∙ is.row in
    let col : c.in-Ok-2.listed.col ≡ c.args.at.col = ap (λ (b : BlockInfo). b.col) any.1 ∙ is.col in
    omega (arith, col, c.requires.col, stands.wide, ready.1.ready.ends)

pub returns-clause-ready : goal.returns-clause-ready
returns-clause-ready g c =
    let setting = c.args.self.now.by.now.setting in
    let is = rw c.in-Ok.is at c.in_ok-block.ensures.block in
    let ready = c.requires.ready in
    let stands = c.requires.stands in
    let tells = rw c.in-Ok-2.is at (c.in_ok-listed.ensures.tells c.args.at.tile_from) in
    let any = is_listed (sources_of c.args.self.now.by.now) c.args.at.tile_from c.in-Ok.block c.in-Ok-2.listed c.levels.new.levels _ _ tells.0 tells.1 tells.2 in
    let row : c.in-Ok-2.listed.row ≡ c.args.at.row = ap (λ (b : BlockInfo). b.row) any.1 ∙ is.row in
    let col : c.in-Ok-2.listed.col ≡ c.args.at.col = ap (λ (b : BlockInfo). b.col) any.1 ∙ is.col in
    let grid = c.put.ensures in (
      ready.0,
      rw grid (record {
        from = ready.1.from;
        to = ready.1.to;
        ready = record {
          rows = ready.1.ready.rows;
          order = ready.1.ready.order;
          within = ready.1.ready.within;
          ends = ready.1.ready.ends;
          fit = c.in_ok-listed.ensures.fit;
          fit_blocks = fits_more _ c.in-Ok.block _ c.args.at.size any.0 any.1 is.size is.fits ready.1.ready.fit_blocks;
          lie = lies_more _ _ _ c.in-Ok.block _ c.args.at any.0 any.1 is.col is.size (omega (arith, stands.first, stands.from, ready.1.from)) stands.wide ready.1.ready.lie;
          starts = starts_more setting.places.rows setting.places.cols _ c.in-Ok.block _ any.0 any.1 (rw is.row c.requires.row) (rw is.col c.requires.col) is.segment ready.1.ready.starts;
          small = small_more _ c.in-Ok.block _ any.0 any.1 is.small ready.1.ready.small;
        };
      }),
    )
