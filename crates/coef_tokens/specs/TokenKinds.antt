-- What the transform blocks of a size, kind and plane are read by.
use Rattle.std.specs.Prelude.{ℕ, ◌+◌, ◌*◌, List, take, drop}
use Rattle.vp9_types.specs.Shapes.{is_chroma}
use Rattle.vp9_tables.specs.Coefficients.{bands_of, coef_place}
use Rattle.vp9_tables.specs.Numbers.{flag_number}
use Rattle.vp9_tables.specs.Scans.{scan_of, neighbours_of}
use Rattle.prob_contexts.specs.ProbLists.{ContextLists, coef_of}
use Rattle.coef_tokens.specs.declared.tables.TokenKind.{TokenKind}
use Rattle.coef_tokens.specs.Places.{Tables}

-- the probabilities of a plane and of intra or inter blocks are a quarter of those of a size
abbrev pub kind_probs : ContextLists → TokenKind → List ℕ
kind_probs contexts at =
    take 99 (drop (99 * (2 * flag_number (is_chroma at.plane) + flag_number at.inter)) (coef_of contexts.coef at.tx))

unfoldable pub block_tables : ContextLists → TokenKind → Tables
block_tables contexts at = record {
  scan = scan_of at.tx at.kind;
  neighbours = neighbours_of at.tx at.kind;
  bands = bands_of at.tx;
  probs = kind_probs contexts at;
  base = 3 * coef_place at.tx (is_chroma at.plane) at.inter 0 0;
  depth = at.depth;
}
