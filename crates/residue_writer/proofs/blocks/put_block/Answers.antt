use Rattle.prob_contexts.specs.ProbLists.{lists_of}
use Rattle.residue_syntax.specs.declared.sides.TileSides.{TileSides}
use Rattle.residue_writer.proofs.BlockPuts.{first_broken, second_broken, third_broken, all_put}
use Rattle.residue_writer.proofs.Spellings.{three_spelled}
use Rattle.residue_writer.proofs.blocks.put_block.Goals as goal

pub returns-in-Err-clause-puts : goal.returns-in-Err-clause-puts
returns-in-Err-clause-puts c = λ tile_from.
    let broken = rw c.in-Err.is at c.in_ok-any.ensures.tells in
    (first_broken c.args.setting.now.header (lists_of c.args.setting.now.contexts) tile_from c.args.block.now c.args.levels.now c.args.sides.now c.args.encoder.now c.put_plane.new.encoder c.in-Err.rule
    c.in_ok-any.ensures.puts broken).0

pub returns-in-Err-clause-tells : goal.returns-in-Err-clause-tells
returns-in-Err-clause-tells c = λ tile_from.
    let broken = rw c.in-Err.is at c.in_ok-any.ensures.tells in
    (first_broken c.args.setting.now.header (lists_of c.args.setting.now.contexts) tile_from c.args.block.now c.args.levels.now c.args.sides.now c.args.encoder.now c.put_plane.new.encoder c.in-Err.rule
    c.in_ok-any.ensures.puts broken).1

pub returns-in-Err-2-clause-puts : goal.returns-in-Err-2-clause-puts
returns-in-Err-2-clause-puts c = λ tile_from.
    let y = rw c.in-Ok.is at c.in_ok-any.ensures.tells in
    let broken = rw c.in-Err-2.is at c.in_ok-any-2.ensures.tells in
    (second_broken c.args.setting.now.header (lists_of c.args.setting.now.contexts) tile_from c.args.block.now c.args.levels.now c.args.sides.now c.args.encoder.now c.put_plane.new.encoder c.put_plane-2.new.encoder c.in-Err-2.rule y.0
    c.in_ok-any.ensures.puts y.1 c.in_ok-any-2.ensures.puts broken).0

pub returns-in-Err-2-clause-tells : goal.returns-in-Err-2-clause-tells
returns-in-Err-2-clause-tells c = λ tile_from.
    let y = rw c.in-Ok.is at c.in_ok-any.ensures.tells in
    let broken = rw c.in-Err-2.is at c.in_ok-any-2.ensures.tells in
    (second_broken c.args.setting.now.header (lists_of c.args.setting.now.contexts) tile_from c.args.block.now c.args.levels.now c.args.sides.now c.args.encoder.now c.put_plane.new.encoder c.put_plane-2.new.encoder c.in-Err-2.rule y.0
    c.in_ok-any.ensures.puts y.1 c.in_ok-any-2.ensures.puts broken).1

pub returns-in-Err-3-clause-puts : goal.returns-in-Err-3-clause-puts
returns-in-Err-3-clause-puts c = λ tile_from.
    let y = rw c.in-Ok.is at c.in_ok-any.ensures.tells in
    let u = rw c.in-Ok-2.is at c.in_ok-any-2.ensures.tells in
    let broken = rw c.in-Err-3.is at c.in_ok-any-3.ensures.tells in
    (third_broken c.args.setting.now.header (lists_of c.args.setting.now.contexts) tile_from c.args.block.now c.args.levels.now c.args.sides.now c.args.encoder.now c.put_plane.new.encoder c.put_plane-2.new.encoder c.put_plane-3.new.encoder c.in-Err-3.rule y.0 u.0
    c.in_ok-any.ensures.puts y.1 c.in_ok-any-2.ensures.puts u.1 c.in_ok-any-3.ensures.puts broken).0

pub returns-in-Err-3-clause-tells : goal.returns-in-Err-3-clause-tells
returns-in-Err-3-clause-tells c = λ tile_from.
    let y = rw c.in-Ok.is at c.in_ok-any.ensures.tells in
    let u = rw c.in-Ok-2.is at c.in_ok-any-2.ensures.tells in
    let broken = rw c.in-Err-3.is at c.in_ok-any-3.ensures.tells in
    (third_broken c.args.setting.now.header (lists_of c.args.setting.now.contexts) tile_from c.args.block.now c.args.levels.now c.args.sides.now c.args.encoder.now c.put_plane.new.encoder c.put_plane-2.new.encoder c.put_plane-3.new.encoder c.in-Err-3.rule y.0 u.0
    c.in_ok-any.ensures.puts y.1 c.in_ok-any-2.ensures.puts u.1 c.in_ok-any-3.ensures.puts broken).1

pub returns-clause-puts : goal.returns-clause-puts
returns-clause-puts c = λ tile_from.
    let y = rw c.in-Ok.is at c.in_ok-any.ensures.tells in
    let u = rw c.in-Ok-2.is at c.in_ok-any-2.ensures.tells in
    let v = rw c.in-Ok-3.is at c.in_ok-any-3.ensures.tells in
    let t : TileSides = record { y = c.put_plane.new.sides; u = c.put_plane-2.new.sides; v = c.put_plane-3.new.sides } in
    (all_put c.args.setting.now.header (lists_of c.args.setting.now.contexts) tile_from c.args.block.now c.listed.result c.args.levels.now c.args.sides.now t c.args.encoder.now c.put_plane.new.encoder c.put_plane-2.new.encoder c.put_plane-3.new.encoder
    c.in-Ok.any c.in-Ok-2.any c.in-Ok-3.any c.in_ok-any.ensures.puts y c.in_ok-any-2.ensures.puts u c.in_ok-any-3.ensures.puts v c.listed.ensures).0

pub returns-clause-tells : goal.returns-clause-tells
returns-clause-tells c = λ tile_from.
    let y = rw c.in-Ok.is at c.in_ok-any.ensures.tells in
    let u = rw c.in-Ok-2.is at c.in_ok-any-2.ensures.tells in
    let v = rw c.in-Ok-3.is at c.in_ok-any-3.ensures.tells in
    let t : TileSides = record { y = c.put_plane.new.sides; u = c.put_plane-2.new.sides; v = c.put_plane-3.new.sides } in
    (all_put c.args.setting.now.header (lists_of c.args.setting.now.contexts) tile_from c.args.block.now c.listed.result c.args.levels.now c.args.sides.now t c.args.encoder.now c.put_plane.new.encoder c.put_plane-2.new.encoder c.put_plane-3.new.encoder
    c.in-Ok.any c.in-Ok-2.any c.in-Ok-3.any c.in_ok-any.ensures.puts y c.in_ok-any-2.ensures.puts u c.in_ok-any-3.ensures.puts v c.listed.ensures).1

pub returns-clause-spells : goal.returns-clause-spells
returns-clause-spells c =
    let y = rw c.in-Ok.is at c.in_ok-any.ensures.spells in
    let u = rw c.in-Ok-2.is at c.in_ok-any-2.ensures.spells in
    let v = rw c.in-Ok-3.is at c.in_ok-any-3.ensures.spells in
    three_spelled c.args.setting.now.header (lists_of c.args.setting.now.contexts) c.args.block.now c.args.levels.now c.args.sides.now c.args.encoder.now c.put_plane.new.encoder c.put_plane-2.new.encoder c.put_plane-3.new.encoder
    y u v
