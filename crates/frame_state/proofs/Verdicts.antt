-- The least verdict of a frame's columns is the frame's.
use Rattle.std.proofs.Common.{◌≡◌, ◌∙◌, ℕ, zero, suc, ◌<◌, ◌≤◌, Bool, true, false, List, inl, inr, refl, sym, ap, arith}
use Rattle.std.specs.Prelude.{Option, Some, None, Result, Ok, Err, nat_lt, if◌then◌else◌}
use Rattle.std.proofs.lemmas.Bool.{cases_eq, lt-ltb, le-ltb}
use Rattle.vp9_types.specs.declared.job.Span.{Span}
use Rattle.vp9_types.specs.declared.rule.Rule.{Rule}
use Rattle.frame_headers.specs.Spans.{tile_spans}
use Rattle.counting_reader.specs.Counting.{Settled}
use Rattle.frame_state.specs.FrameReading.{read_all_tiles, FrameRead}
use Rattle.frame_state.specs.Laws.{IsFrameVerdict, columns_across, earlier, least_verdict, verdict_of}
use Rattle.frame_state.specs.ColumnPlans.{ColumnRead, plan_of, tile_bytes}
use Rattle.frame_state.specs.Sources.{FrameSources}
use Rattle.frame_state.specs.TilePlaces.{column_of}
use Rattle.frame_state.proofs.PlanReads.{reads_columns, broken_first, few_columns}

none_broken : (verdict : ℕ → Option (ℕ × Rule)) (n : ℕ) → ((k : ℕ) → verdict k ≡ None) → least_verdict verdict n ≡ None
none_broken verdict zero none = refl
none_broken verdict (suc n) none = rw (none_broken verdict n none, none n) refl

-- every verdict among them is of a later tile
abbrev AreLater : ℕ → Option (ℕ × Rule) → Type 0
AreLater n None = Unit {0}
AreLater n (Some v) = n < v.0

both_later : (n : ℕ) (a b : Option (ℕ × Rule)) → AreLater n a → AreLater n b → AreLater n (earlier a b)
both_later n None b first second = second
both_later n (Some a) None first second = first
both_later n (Some a) (Some b) first second = by_test (nat_lt b.0 a.0)
  where
    by_test : (test : Bool) → AreLater n (if test then Some b else Some a)
    by_test true = second
    by_test false = first

earlier_left : (n : ℕ) (rule : Rule) (b : Option (ℕ × Rule)) → AreLater n b → earlier (Some (n, rule)) b ≡ Some (n, rule)
earlier_left n rule None later = refl
earlier_left n rule (Some b) later = rw (le-ltb b.0 n (omega (arith, later))) refl

earlier_right : (n : ℕ) (rule : Rule) (a : Option (ℕ × Rule)) → AreLater n a → earlier a (Some (n, rule)) ≡ Some (n, rule)
earlier_right n rule None later = refl
earlier_right n rule (Some a) later = rw (lt-ltb n a.0 later) refl

-- one column has this verdict, and the others have later ones
record IsLeast (verdict : ℕ → Option (ℕ × Rule)) (c n : ℕ) (rule : Rule) : Type 0 where
  own : verdict c ≡ Some (n, rule)
  others : (k : ℕ) → (c ≡ k → ⊥) → AreLater n (verdict k)

later_before : (verdict : ℕ → Option (ℕ × Rule)) (c n : ℕ) (rule : Rule) (m : ℕ) → IsLeast verdict c n rule → m ≤ c → AreLater n (least_verdict verdict m)
later_before verdict c n rule zero least few = tt
later_before verdict c n rule (suc m) least few =
    both_later n (least_verdict verdict m) (verdict m) (later_before verdict c n rule m least (omega (arith, few))) (least.others m (λ is. omega (arith, few, is)))

least_found : (verdict : ℕ → Option (ℕ × Rule)) (c n : ℕ) (rule : Rule) (m : ℕ) → IsLeast verdict c n rule → c < m → least_verdict verdict m ≡ Some (n, rule)
least_found verdict c n rule zero least few = absurd (omega arith)
least_found verdict c n rule (suc m) least few = elim (cases_eq c m) [
  | inl here ↦ ap (earlier (least_verdict verdict m)) (ap verdict (sym here) ∙ least.own)
      ∙ earlier_right n rule (least_verdict verdict m) (later_before verdict c n rule m least (omega (arith, here)))
  | inr there ↦ ap (λ v. earlier v (verdict m)) (least_found verdict c n rule m least (omega (arith, few, there)))
      ∙ earlier_left n rule (verdict m) (least.others m there)
]

later_of : (n : ℕ) (r : Result (Settled ColumnRead) (ℕ × Rule)) → ((j : ℕ) (other : Rule) → r ≡ Err (j, other) → n < j) → AreLater n (verdict_of r)
later_of n (Ok plan) later = tt
later_of n (Err (j, other)) later = later j other refl

pub least_is : (by : FrameSources) (bytes : List ℕ) (compressed : Span) (spans : List Span) → tile_spans bytes by.header compressed ≡ Ok spans
    → IsFrameVerdict (read_all_tiles by bytes compressed) (least_verdict (λ k. verdict_of (plan_of by (tile_bytes bytes spans) k)) (columns_across by.header))
least_is by bytes compressed spans is = by_result (read_all_tiles by bytes compressed) refl
  where
    verdict : ℕ → Option (ℕ × Rule)
    verdict k = verdict_of (plan_of by (tile_bytes bytes spans) k)

    by_result : (r : Result FrameRead Rule) → read_all_tiles by bytes compressed ≡ r → IsFrameVerdict r (least_verdict verdict (columns_across by.header))
    by_result (Ok read) so = let h = reads_columns by bytes compressed spans read is so in none_broken verdict (columns_across by.header) (λ k. ap verdict_of (h.1 k))
    by_result (Err rule) so =
        let h = broken_first by bytes compressed spans rule is so in
        let c = column_of by.header.params.tiles h.0 in (
          h.0,
          least_found verdict c h.0 rule (columns_across by.header)
              (record { own = ap verdict_of h.1.own; others = λ k apart. later_of h.0 (plan_of by (tile_bytes bytes spans) k) (λ j other fails. h.1.others k j other apart fails) })
              (few_columns by.header h.0),
        )
