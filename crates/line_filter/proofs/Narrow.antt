-- The narrow filter from its parts.
use Rattle.std.proofs.Common.{◌≡◌, ℕ, ℤ, pos, neg_ℤ, ◌+ℤ◌, Bool, refl}
use Rattle.std.specs.Prelude.{not, if◌then◌else◌}
use Rattle.std.specs.Int.{int_shr}
use Rattle.line_filter.specs.declared.edge.Limits.{Limits}
use Rattle.line_filter.specs.declared.near.Near.{Near}
use Rattle.line_filter.specs.Lines.{moved_sample, hev_mask, change, filter4_clamp, narrow_filter}
use Rattle.line_filter.specs.Code.{line_of}

abbrev pub with_four : Near → ℕ → ℕ → ℕ → ℕ → Near
with_four x p1 p0 q0 q1 = record { p3 = x.p3; p2 = x.p2; p1 = p1; p0 = p0; q0 = q0; q1 = q1; q2 = x.q2; q3 = x.q3 }

pub narrow_is : (l : Limits) (x : Near) (h : Bool) (f a b g : ℤ) (p1 p0 q0 q1 : ℕ)
    → h ≡ hev_mask l (line_of x) → f ≡ change h l.half (line_of x)
    → a ≡ int_shr (filter4_clamp l.half (f +ℤ pos 4)) 3 → b ≡ int_shr (filter4_clamp l.half (f +ℤ pos 3)) 3 → g ≡ int_shr (a +ℤ pos 1) 1
    → p1 ≡ (if not h then moved_sample l.half x.p1 g else x.p1) → p0 ≡ moved_sample l.half x.p0 b
    → q0 ≡ moved_sample l.half x.q0 (neg_ℤ a) → q1 ≡ (if not h then moved_sample l.half x.q1 (neg_ℤ g) else x.q1)
    → line_of (with_four x p1 p0 q0 q1) ≡ narrow_filter l (line_of x)
unfolding narrow_filter
narrow_is l x h f a b g p1 p0 q0 q1 hi ef ea eb eg ep1 ep0 eq0 eq1 = rw (ep1, ep0, eq0, eq1, eg, ea, eb, ef, hi) refl
