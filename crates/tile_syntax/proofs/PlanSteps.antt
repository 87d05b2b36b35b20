-- A block of a tile that is planned as it is read.
use Rattle.std.proofs.Common.{◌≡◌, ◌∙◌, ◌++◌, ◌∷◌, [], ℕ, ℤ, refl, ap, sym, subst, Bool, List, length}
use Rattle.std.specs.Prelude.{Ok, Err, Option, Result, All}
use Rattle.std.proofs.lemmas.List.{append-nil}
use Rattle.vp9_types.specs.Syntax.{Syntax, broken}
use Rattle.vp9_types.specs.declared.rule.Rule.{Rule}
use Rattle.vp9_types.specs.declared.shape.Shape.{Shape}
use Rattle.counting_reader.specs.Counting.{Settled, lifted}
use Rattle.counting_reader.proofs.CountingRuns.{counting_bind, run_settle}
use Rattle.block_plan.specs.Code.{planned_with, HoldsSmall}
use Rattle.block_plan.specs.Planned.{PlannedBlock}
use Rattle.block_plan.specs.declared.block.BlockAt.{BlockAt}
use Rattle.block_plan.specs.declared.block.BlockInfo.{BlockInfo}
use Rattle.block_plan.specs.declared.residues.BlockResidues.{BlockResidues}
use Rattle.residue_syntax.specs.Residues.{listed}
use Rattle.residue_syntax.specs.Residues as residues
use Rattle.residue_syntax.specs.declared.sides.TileSides.{TileSides}
use Rattle.inter_modes.specs.ModeInfo.{mode_info}
use Rattle.frame_state.specs.FrameReading.{infos}
use Rattle.frame_state.specs.Sources.{block_sources, FrameSources}
use Rattle.column_plan.specs.Code.{HoldsWhole, block_pieces}
use Rattle.column_plan.specs.PlannedBlocks.{planned_blocks, planned_from, total}
use Rattle.column_plan.proofs.Held.{infos_are, one_more_planned, all_are}
use Rattle.counting_reader.specs.Code.{standing_of, Standing, run_counting}
use Rattle.counting_reader.specs.declared.reader.CountingReader.{CountingReader}
use Rattle.mode_syntax.specs.Walk.{TileWalk}
use Rattle.tile_reader.specs.Code.{Breaks, EndsTile, Rest, Tile}
use Rattle.tile_syntax.specs.declared.plans.ColumnPlan.{ColumnPlan}
use Rattle.frame_state.specs.declared.sources.FrameSources as code
use Rattle.frame_headers.specs.HeaderState.{shape_of}
use Rattle.frame_state.specs.declared.halt.Halt.{Halt}
use Rattle.tile_syntax.specs.Code.{GivesTile, PlanTile, plan_block, tile_held, rule_of}
use Rattle.std.proofs.lemmas.List.Elements.{All-push}
use Rattle.frame_headers.specs.declared.header.Header.{Header}
use Rattle.inter_modes.specs.Code.{RefersInRange}
use Rattle.block_plan.specs.declared.block.Prediction.{Prediction}

abbrev planned : List PlannedBlock → TileSides → PlanTile
planned blocks sides = record { blocks = blocks; sides = sides }

abbrev modes_of : FrameSources → List BlockInfo → BlockAt → Syntax ℕ Rule (Settled (Result BlockInfo Rule))
modes_of by blocks at = mode_info (block_sources by) blocks at

pub block_read : (by : FrameSources) (at : BlockAt) (blocks : List PlannedBlock) (listed : List BlockInfo) (sides after_it : TileSides) (a b d : Standing) (info : BlockInfo) (one : PlannedBlock)
    → infos blocks ≡ listed
    → run_counting (modes_of by listed at) a ≡ Ok (Ok info, b)
    → run_counting (residues.block_residue by.header by.contexts at.tile_from info sides) b ≡ Ok ((one, after_it), d)
    → run_counting (plan_block by at (planned blocks sides)) a ≡ Ok (planned (blocks ++ one ∷ []) after_it, d)
unfolding plan_block lifted
block_read by at blocks listed sides after_it a b d info one is modes_read residue =
    counting_bind _ _ _ ∙ rw (is, modes_read) (counting_bind _ _ _ ∙ rw (run_settle info b) (counting_bind _ _ _ ∙ rw residue (run_settle _ d)))

run_broken : {A : Type 0} (rule : Rule) (m : Standing) → run_counting {A = A} (broken rule) m ≡ Err rule
unfolding run_counting
run_broken rule m = refl

pub modes_broken : (by : FrameSources) (at : BlockAt) (blocks : List PlannedBlock) (listed : List BlockInfo) (sides : TileSides) (a b : Standing) (rule : Rule)
    → infos blocks ≡ listed → run_counting (modes_of by listed at) a ≡ Ok (Err rule, b) → run_counting (plan_block by at (planned blocks sides)) a ≡ Err rule
unfolding plan_block lifted
modes_broken by at blocks listed sides a b rule is modes_read =
    counting_bind _ _ _ ∙ rw (is, modes_read) (counting_bind _ _ _ ∙ rw (run_broken rule b) refl)

pub block_broken : (by : FrameSources) (at : BlockAt) (blocks : List PlannedBlock) (listed : List BlockInfo) (sides : TileSides) (a b : Standing) (info : BlockInfo) (rule : Rule)
    → infos blocks ≡ listed → run_counting (modes_of by listed at) a ≡ Ok (Ok info, b)
    → run_counting (residues.block_residue by.header by.contexts at.tile_from info sides) b ≡ Err rule → run_counting (plan_block by at (planned blocks sides)) a ≡ Err rule
unfolding plan_block lifted
block_broken by at blocks listed sides a b info rule is modes_read residue =
    counting_bind _ _ _ ∙ rw (is, modes_read) (counting_bind _ _ _ ∙ rw (run_settle info b) (counting_bind _ _ _ ∙ rw residue refl))

---- What the code holds ----

-- a block as it is listed has the places of the one that was read
listed_from : (shape : Shape) (tile_from : ℕ) (b : BlockInfo) (any : Bool) (r : BlockResidues) (pieces : List (List ℤ))
    → planned_from shape tile_from b pieces ≡ planned_with shape tile_from b b r → planned_from shape tile_from (listed b any) pieces ≡ planned_with shape tile_from b (listed b any) r
listed_from shape tile_from b any r pieces is = λ i. record { info = listed b any; tile_from = tile_from; y = (is i).y; u = (is i).u; v = (is i).v }

pub one_more : (shape : Shape) (tile_from : ℕ) (blocks : List BlockInfo) (b info : BlockInfo) (any : Bool) (r : BlockResidues) (pieces : List (List ℤ)) → total shape blocks ≡ length pieces → info ≡ listed b any
    → ((behind : List (List ℤ)) → planned_from shape tile_from b (block_pieces shape b r ++ behind) ≡ planned_with shape tile_from b b r)
    → planned_blocks shape tile_from (blocks ++ info ∷ []) (pieces ++ block_pieces shape b r) ≡ planned_blocks shape tile_from blocks pieces ++ planned_with shape tile_from b info r ∷ []
one_more shape tile_from blocks b info any r pieces all is stands =
    let kept = block_pieces shape b r in
    let last : planned_from shape tile_from info kept ≡ planned_with shape tile_from b info r =
    rw is (listed_from shape tile_from b any r kept (ap (planned_from shape tile_from b) (sym (append-nil kept)) ∙ stands [])) in
    one_more_planned shape tile_from blocks info pieces kept all ∙ ap (λ (x : PlannedBlock). planned_blocks shape tile_from blocks pieces ++ x ∷ []) last

pub all_more : (shape : Shape) (blocks : List BlockInfo) (b info : BlockInfo) (any : Bool) (r : BlockResidues) (pieces : List (List ℤ)) → total shape blocks ≡ length pieces → info ≡ listed b any
    → total shape (blocks ++ info ∷ []) ≡ length (pieces ++ block_pieces shape b r)
all_more shape blocks b info any r pieces all is = rw is (all_are shape blocks (listed b any) r pieces all)

-- a block is read, and kept
pub block_planned : (by : FrameSources) (at : BlockAt) (shape : Shape) (tile_from : ℕ) (blocks : List BlockInfo) (pieces now : List (List ℤ)) (sides after_it : TileSides) (a b d : Standing) (block info : BlockInfo) (any : Bool) (r : BlockResidues)
    → at.tile_from ≡ tile_from → total shape blocks ≡ length pieces → info ≡ listed block any → now ≡ pieces ++ block_pieces shape block r
    → ((tile_from : ℕ) (behind : List (List ℤ)) → planned_from shape tile_from block (block_pieces shape block r ++ behind) ≡ planned_with shape tile_from block block r)
    → run_counting (modes_of by blocks at) a ≡ Ok (Ok block, b)
    → run_counting (residues.block_residue by.header by.contexts at.tile_from block sides) b ≡ Ok ((planned_with shape at.tile_from block info r, after_it), d)
    → run_counting (plan_block by at (planned (planned_blocks shape tile_from blocks pieces) sides)) a ≡ Ok (planned (planned_blocks shape tile_from (blocks ++ info ∷ []) now) after_it, d)
block_planned by at shape tile_from blocks pieces now sides after_it a b d block info any r from all is pushed stands modes_read residue =
    block_read by at (planned_blocks shape tile_from blocks pieces) blocks sides after_it a b d block (planned_with shape at.tile_from block info r) (infos_are shape tile_from blocks pieces) modes_read residue
    ∙ ap (λ (bs : List PlannedBlock). Ok (planned bs after_it, d))
    (ap (λ (f : ℕ). planned_blocks shape tile_from blocks pieces ++ planned_with shape f block info r ∷ []) from
    ∙ sym (one_more shape tile_from blocks block info any r pieces all is (stands tile_from))
    ∙ ap (planned_blocks shape tile_from (blocks ++ info ∷ [])) (sym pushed))

pub all_kept : (shape : Shape) (blocks : List BlockInfo) (b info : BlockInfo) (any : Bool) (r : BlockResidues) (pieces now : List (List ℤ)) → total shape blocks ≡ length pieces → info ≡ listed b any
    → now ≡ pieces ++ block_pieces shape b r → total shape (blocks ++ info ∷ []) ≡ length now
all_kept shape blocks b info any r pieces now all is pushed = all_more shape blocks b info any r pieces all is ∙ ap length (sym pushed)

-- one more refers to what is in range
pub refer_more : (header : Header) (blocks : List BlockInfo) (b info : BlockInfo) (any : Bool) → info ≡ listed b any → RefersInRange header b.prediction
    → All (λ (b : BlockInfo). RefersInRange header b.prediction) blocks → All (λ (b : BlockInfo). RefersInRange header b.prediction) (blocks ++ info ∷ [])
refer_more header blocks b info any is range all =
    All-push (λ (b : BlockInfo). RefersInRange header b.prediction) blocks info all (subst (λ (p : Prediction). RefersInRange header p) (sym (ap (λ (i : BlockInfo). i.prediction) is)) range)

small_listed : (shape : Shape) (tile_from : ℕ) (b info : BlockInfo) (any : Bool) (r : BlockResidues) → info ≡ listed b any → HoldsSmall (planned_with shape 0 b b r)
    → HoldsSmall (planned_with shape tile_from b info r)
small_listed shape tile_from b info any r is h = rw is (record { y = h.y; u = h.u; v = h.v })

-- one more has no large residue
pub small_planned : (shape : Shape) (tile_from : ℕ) (blocks : List BlockInfo) (b info : BlockInfo) (any : Bool) (r : BlockResidues) (pieces now : List (List ℤ)) → total shape blocks ≡ length pieces
    → info ≡ listed b any → now ≡ pieces ++ block_pieces shape b r
    → ((behind : List (List ℤ)) → planned_from shape tile_from b (block_pieces shape b r ++ behind) ≡ planned_with shape tile_from b b r)
    → HoldsSmall (planned_with shape 0 b b r) → All HoldsSmall (planned_blocks shape tile_from blocks pieces) → All HoldsSmall (planned_blocks shape tile_from (blocks ++ info ∷ []) now)
small_planned shape tile_from blocks b info any r pieces now all is pushed stands small kept =
    rw pushed (subst (λ (bs : List PlannedBlock). All HoldsSmall bs) (sym (one_more shape tile_from blocks b info any r pieces all is stands))
    (All-push HoldsSmall (planned_blocks shape tile_from blocks pieces) (planned_with shape tile_from b info r) kept (small_listed shape tile_from b info any r is small)))

whole_listed : (shape : Shape) (tile_from : ℕ) (b info : BlockInfo) (any : Bool) (r : BlockResidues) → info ≡ listed b any → HoldsWhole shape (planned_with shape 0 b b r)
    → HoldsWhole shape (planned_with shape tile_from b info r)
whole_listed shape tile_from b info any r is h = rw is (record { y = h.y; u = h.u; v = h.v })

-- one more has whole residues
pub whole_planned : (shape : Shape) (tile_from : ℕ) (blocks : List BlockInfo) (b info : BlockInfo) (any : Bool) (r : BlockResidues) (pieces now : List (List ℤ)) → total shape blocks ≡ length pieces
    → info ≡ listed b any → now ≡ pieces ++ block_pieces shape b r
    → ((behind : List (List ℤ)) → planned_from shape tile_from b (block_pieces shape b r ++ behind) ≡ planned_with shape tile_from b b r)
    → HoldsWhole shape (planned_with shape 0 b b r) → All (HoldsWhole shape) (planned_blocks shape tile_from blocks pieces)
    → All (HoldsWhole shape) (planned_blocks shape tile_from (blocks ++ info ∷ []) now)
whole_planned shape tile_from blocks b info any r pieces now all is pushed stands whole kept =
    rw pushed (subst (λ (bs : List PlannedBlock). All (HoldsWhole shape) bs) (sym (one_more shape tile_from blocks b info any r pieces all is stands))
    (All-push (HoldsWhole shape) (planned_blocks shape tile_from blocks pieces) (planned_with shape tile_from b info r) kept (whole_listed shape tile_from b info any r is whole)))

---- A tile ----

-- what a tile's reader gives
pub plan_given : {n : ℕ} (rest : Rest PlanTile) (room : ℕ) (start : Tile PlanTile Halt) (result : Result (Unit {0}) Halt) (old : CountingReader n) (walk : TileWalk PlanTile) (limit most : ℕ) (t : PlanTile) (new : CountingReader n)
    → start.standing ≡ standing_of old → start.rule_of ≡ rule_of → EndsTile rest room start result (record { walk = walk; rule_of = rule_of; limit = limit; room = most; state = t; standing = standing_of new })
    → GivesTile (rest start.state) old result t new
plan_given rest room start (Ok u) old walk limit most t new is tells h = rw (sym is) h.0
plan_given rest room start (Err e) old walk limit most t new is tells h =
    rw (sym is) (subst (λ (f : Halt → Option Rule). Breaks (f e) (rest start.state) start.standing) tells h)

-- the same of what is left behind references
pub plan_left : {n : ℕ} (shape : Shape) (s : Syntax ℕ Rule (Settled PlanTile)) (old : CountingReader n) (result : Result (Unit {0}) Halt) (plan left_plan : ColumnPlan) (new left : CountingReader n)
    → left_plan ≡ plan → left ≡ new → GivesTile s old result (tile_held shape plan) new → GivesTile s old result (tile_held shape left_plan) left
plan_left shape s old result plan left_plan new left p r h = rw (p, r) h

pub plan_same : {n : ℕ} (b c : code.FrameSources) (s : Syntax ℕ Rule (Settled PlanTile)) (old : CountingReader n) (result : Result (Unit {0}) Halt) (plan : ColumnPlan) (new : CountingReader n)
    → b ≡ c → GivesTile s old result (tile_held (shape_of b.setting.header) plan) new → GivesTile s old result (tile_held (shape_of c.setting.header) plan) new
plan_same b c s old result plan new same h = rw (sym same) h
