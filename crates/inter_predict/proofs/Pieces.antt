-- Places that lie left of the plane, in it and right of it.
use Rattle.std.proofs.Common.{◌≡◌, ℕ, ◌+◌, ◌-◌, ◌<◌, ◌≤◌, ◌∙◌, ap, arith, inl, inr, subst, sym}
use Rattle.std.proofs.lemmas.Bool.{cases_lt}
use Rattle.inter_places.specs.declared.axis.Axis.{Axis}
use Rattle.inter_places.specs.Axes.{straight}
use Rattle.inter_predict.specs.declared.places.Span.{Span}
use Rattle.inter_predict.specs.Code.{IsSpan}

-- samples that were put piece by piece
pub in_pieces : (a : Axis) (first n : ℕ) (s : Span) (row left middle right : ℕ → ℕ) → IsSpan a first n s →
    ((t : ℕ) → t < s.left → left t ≡ row 0) →
    ((k : ℕ) → k < s.end - s.left → middle (s.left + k) ≡ row (s.from + k)) → ((t : ℕ) → t < s.left → middle t ≡ left t) →
    ((t : ℕ) → s.end ≤ t → t < n → right t ≡ row (a.size - 1)) → ((t : ℕ) → t < s.end → right t ≡ middle t) →
    (t : ℕ) → t < n → right t ≡ row (straight a (first + t))
in_pieces a first n s row left middle right is low among keeps high same t few = elim (cases_lt t s.left) [
  | inl before ↦ same t (omega (arith, before, is.order)) ∙ keeps t before ∙ low t before ∙ ap row (sym (is.left t before))
  | inr past ↦ elim (cases_lt t s.end) [
    | inl inside ↦
        let at : s.left + (t - s.left) ≡ t = omega (arith, past) in
        same t inside ∙ subst (λ (u : ℕ). middle u ≡ row (straight a (first + u))) at
        (among (t - s.left) (omega (arith, past, inside)) ∙ ap row (sym (is.inside (t - s.left) (omega (arith, past, inside)))))
    | inr after ↦ high t after few ∙ ap row (sym (is.right t after few))
  ]
]
