-- Adapted contexts, place by place.
use Rattle.std.proofs.Common.{◌≡◌, ◌<◌, ◌+◌, ◌*◌, ℕ, refl, ◌∙◌, ap, arith, List, ◌++◌, length, get_or}
use Rattle.std.specs.Prelude.{Option, Some}
use Rattle.std.proofs.lemmas.List.{length-append}
use Rattle.std.proofs.lemmas.List.FromFn.{get_or-map-range_with_len}
use Rattle.prob_contexts.specs.declared.kind.CountedBool.{CountedBool}
use Rattle.prob_contexts.specs.declared.kind.ProbKind.{ProbKind}
use Rattle.prob_contexts.specs.declared.kind.ProbKind.TheVariants as kind
use Rattle.prob_contexts.specs.ProbLists.{ContextLists, CoefLists}
use Rattle.backward_adapt.specs.declared.merge.Rate.{Rate}
use Rattle.backward_adapt.specs.declared.kind.AdaptKind.{AdaptKind}
use Rattle.backward_adapt.specs.declared.kind.AdaptKind.TheVariants.{Intra, Inter}
use Rattle.backward_adapt.specs.Adaptation.{rate_of, adapted_prob, adapted_from, adapted_coefs, adapted_tx, adapted_inter, adapted_vectors, adapted_contexts}
use Rattle.backward_adapt.specs.Laws.{HasCoefSizes, list_of, prob_at}
use Rattle.backward_adapt.proofs.Steps.{IsMade, one_at, adapted_by, made, made_joined}

-- coefficients are adapted on every frame
coef_rate : (frame : AdaptKind) → (rate : Rate) × (rate_of frame kind.Coef ≡ Some rate)
unfolding rate_of
coef_rate Intra = (_, refl)
coef_rate (Inter frame) = (_, refl)

-- those of each size, joined
coefs_made : (rate : Option Rate) (r : Rate) (times : CountedBool → ℕ) (saved forward : CoefLists) → rate ≡ Some r
    → length saved.of_4x4 ≡ 396 → length saved.of_8x8 ≡ 396 → length saved.of_16x16 ≡ 396
    → IsMade (one_at r times kind.Coef) 0 (saved.of_4x4 ++ saved.of_8x8 ++ saved.of_16x16 ++ saved.of_32x32)
    (adapted_by rate times kind.Coef 0 saved.of_4x4 forward.of_4x4 ++ adapted_by rate times kind.Coef 396 saved.of_8x8 forward.of_8x8
    ++ adapted_by rate times kind.Coef (2 * 396) saved.of_16x16 forward.of_16x16 ++ adapted_by rate times kind.Coef (3 * 396) saved.of_32x32 forward.of_32x32)
coefs_made rate r times s f is size_4x4 size_8x8 size_16x16 =
    let rule : ℕ → ℕ → ℕ = one_at r times kind.Coef in
    let two : 0 + length (s.of_4x4 ++ s.of_8x8) ≡ 2 * 396 = omega (arith, length-append s.of_4x4 s.of_8x8) in
    let three : 0 + length (s.of_4x4 ++ s.of_8x8 ++ s.of_16x16) ≡ 3 * 396 = omega (arith, length-append (s.of_4x4 ++ s.of_8x8) s.of_16x16) in
    rw is (made_joined rule 0 (3 * 396) (s.of_4x4 ++ s.of_8x8 ++ s.of_16x16) s.of_32x32 _ _ three
    (made_joined rule 0 (2 * 396) (s.of_4x4 ++ s.of_8x8) s.of_16x16 _ _ two
    (made_joined rule 0 396 s.of_4x4 s.of_8x8 _ _ (omega arith) (made rule 0 s.of_4x4) (made rule 396 s.of_8x8))
    (made rule (2 * 396) s.of_16x16))
    (made rule (3 * 396) s.of_32x32))

-- a list by its rate
at_place : (rate : Option Rate) (times : CountedBool → ℕ) (k : ProbKind) (saved forward : List ℕ) (place : ℕ) → place < length saved
    → get_or (adapted_by rate times k 0 saved forward) place 0 ≡ adapted_prob rate times k place (get_or saved place 0) (get_or forward place 0)
at_place rate times k saved forward place low =
    get_or-map-range_with_len (λ i. adapted_prob rate times k (0 + i) (get_or saved i 0) (get_or forward i 0)) 0 (length saved) place place 0 low (omega arith)
    ∙ (let e : 0 + place ≡ place = omega arith in ap (λ p. adapted_prob rate times k p (get_or saved place 0) (get_or forward place 0)) e)

pub each_place : (frame : AdaptKind) (times : CountedBool → ℕ) (saved forward : ContextLists) (k : ProbKind) (place : ℕ)
    → HasCoefSizes saved → place < length (list_of saved k)
    → prob_at (adapted_contexts frame times saved forward) k place ≡ adapted_prob (rate_of frame k) times k place (prob_at saved k place) (prob_at forward k place)
unfolding adapted_from adapted_coefs adapted_tx adapted_inter adapted_vectors adapted_contexts
each_place frame times saved forward kind.Coef place sizes low =
    let c = coef_rate frame in
    let e : 0 + place ≡ place = omega arith in
    (coefs_made (rate_of frame kind.Coef) c.0 times saved.coef forward.coef c.1 sizes.of_4x4 sizes.of_8x8 sizes.of_16x16).each place low
    ∙ rw (c.1, e) refl
each_place frame times saved forward k place sizes low = at_place (rate_of frame k) times k (list_of saved k) (list_of forward k) place low
