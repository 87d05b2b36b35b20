-- Angles.
use Rattle.std.specs.Prelude.{ℕ, ◌+◌, ◌%◌, ℤ}
use Rattle.vp9_tables.specs.TransformTables.{cosine_of}

-- sin64
abbrev pub sine_of : ℕ → ℤ
sine_of k = cosine_of ((k + 96) % 128)
