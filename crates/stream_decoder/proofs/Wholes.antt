-- A source that is read to its end with four bytes put back in front of it.
use Rattle.std.proofs.Common.{◌≡◌, ◌-◌, ◌^◌, ◌<◌, ◌≤◌, ℕ, List, [], ◌∷◌, ◌++◌, length, drop, refl, sym, ap, subst, ◌∙◌, inl, inr, arith, append_assoc}
use Rattle.std.specs.Prelude.{Option, Some, None, true}
use Rattle.edge_io.specs.Prefixed.{all_of, front_of, left_of, source_of}
use Rattle.edge_io.specs.declared.prefixed.Prefixed.{Prefixed}
use Rattle.edge_io.specs.SourceReading.{Gave, GaveAll}
use Rattle.edge_io.proofs.Fronts.{takes_none}
use Rattle.vp9_types.specs.declared.outcome.Outcome.{Outcome}
use Rattle.vp9_types.specs.declared.outcome.Outcome.TheVariants as outcome
use Rattle.vp9_types.specs.declared.rule.Rule.{Rule}
use Rattle.frame_output.specs.declared.rendering.Format.{Format}
use Rattle.file_frames.specs.Containers.{is_webm}
use Rattle.frame_groups.proofs.Fronts.{all_is_front, front_tells}
use Rattle.job_decoder.specs.seq_decoder.Outcomes.{Completes, Decodes, WritesFront}
use Rattle.job_decoder.specs.seq_decoder.Outputs.{output_of}
use Rattle.stream_decoder.specs.Streams.{DecodesSource, WritesAll}

---- What is left of the source alone ----

behind_front : (front : List ℕ) (left : ℕ) (told : Option (List ℕ)) (bytes : List ℕ) → all_of front left told ≡ Some bytes
    → (more : List ℕ) × (told ≡ Some more) × (bytes ≡ drop (4 - left) front ++ more)
behind_front front left None bytes is = cc
behind_front front left (Some more) bytes is = let same : bytes ≡ drop (4 - left) front ++ more = cc in (more, refl, same)

last_none : (a b : List ℕ) → a ++ b ≡ [] → b ≡ []
last_none [] b none = none
last_none (x ∷ a) b none = let no : ⊥ = cc in absurd no

none_behind : (front : List ℕ) (left : ℕ) (told : Option (List ℕ)) → all_of front left told ≡ Some [] → told ≡ Some []
none_behind front left told is = let h = behind_front front left told [] is in h.1 ∙ ap Some (last_none (drop (4 - left) front) h.0 (sym h.2))

-- all was given
gave_whole : (old told : Option (List ℕ)) (front all : List ℕ) (left : ℕ) → GaveAll old (all_of front left told) all → GaveAll old told all
gave_whole old told front all left gave = λ bytes is. let h = gave bytes is in (h.0, none_behind front left told h.1)

-- a front was given, and with it went what is still in front
gave_with : (old told : Option (List ℕ)) (front given : List ℕ) (left : ℕ) → Gave old (all_of front left told) given → Gave old told (given ++ drop (4 - left) front)
gave_with old told front given left gave = λ bytes is.
    let h = gave bytes is in
    let k = behind_front front left told h.0 h.2 in
    (k.0, h.1 ∙ ap (λ (xs : List ℕ). given ++ xs) k.2 ∙ sym (append_assoc given (drop (4 - left) front) k.0), k.1)

---- Decodes ----

writes_all : (format : Format) (all bytes : List ℕ) (old new : Option (List ℕ)) (faults now : ℕ) (ending : Option (ℕ × Rule)) → all ≡ bytes → Completes (output_of format all) old new faults now ending
    → WritesAll format bytes old new ending
writes_all format all bytes old new faults now ending same done = subst (λ (xs : List ℕ). WritesAll format xs old new ending) same (done.ends, done.writes)

-- of all that a source had
pub decodes_all : (format : Format) (rest left : Option (List ℕ)) (failed failed_now : ℕ) (old new : Option (List ℕ)) (faults now : ℕ) (ended : Outcome) (all : List ℕ)
    → GaveAll rest left all → failed_now ≡ failed → Decodes (output_of format all) old new faults now ended → DecodesSource format rest left failed failed_now old new faults now ended
decodes_all format rest left failed failed_now old new faults now outcome.Done all gave same done =
    (same, done.quiet, λ bytes told. let h = gave bytes told in (writes_all format all bytes old new faults now None h.0 done, h.1))
decodes_all format rest left failed failed_now old new faults now (outcome.Broken stop) all gave same done = (
  inl same,
  done.quiet,
  (all, all_is_front rest left all gave),
  λ bytes told. writes_all format all bytes old new faults now (Some (stop.frame, stop.rule)) (gave bytes told).0 done,
)
decodes_all format rest left failed failed_now old new faults now outcome.ReadFault all gave same done = absurd done
decodes_all format rest left failed failed_now old new faults now outcome.WriteFault all gave same done =
    (inl same, done.0, λ bytes told. subst (λ (xs : List ℕ). WritesFront (output_of format xs) old new) (gave bytes told).0 done.1)
decodes_all format rest left failed failed_now old new faults now outcome.OutOfMemory all gave same done =
    (inl same, done.0, λ bytes told. subst (λ (xs : List ℕ). WritesFront (output_of format xs) old new) (gave bytes told).0 done.1)

---- A source with its first bytes put back ----

pub record IsBegun {S : Type 0} (w : Prefixed S) (front : List ℕ) (source : S) : Type 0 where
  pub front_is : front_of w ≡ front
  pub left_is : left_of w ≡ 4
  pub source_is : source_of w ≡ source

-- what it has left
abbrev pub left_in : {S : Type 0} → (S → Option (List ℕ)) → Prefixed S → Option (List ℕ)
left_in rest w = all_of (front_of w) (left_of w) (rest (source_of w))

begins_so : {S : Type 0} (rest : S → Option (List ℕ)) (w : Prefixed S) (front : List ℕ) (source : S) → IsBegun w front source → left_in rest w ≡ all_of front 4 (rest source)
begins_so {S} rest w front source begun =
    ap (λ (f : List ℕ). all_of f (left_of w) (rest (source_of w))) begun.front_is ∙ ap (λ (n : ℕ). all_of front n (rest (source_of w))) begun.left_is
    ∙ ap (λ (s : S). all_of front 4 (rest s)) begun.source_is

-- it may be asked
pub may_read : {S : Type 0} (given : S → ℕ) (can_fill : S → Type 0) (w : Prefixed S) (front : List ℕ) (source : S) → IsBegun w front source → 4 ≤ given source → given source < 2 ^ 63 → can_fill source
    → (left_of w ≤ given (source_of w)) × (given (source_of w) < 2 ^ 63) × can_fill (source_of w)
may_read {S} given can_fill w front source begun least most can = (
  omega (arith, least, begun.left_is, ap given begun.source_is),
  omega (arith, most, ap given begun.source_is),
  subst (λ (s : S). can_fill s) (sym begun.source_is) can,
)

-- it was read to its end
pub decodes_read : {S : Type 0} (format : Format) (rest : S → Option (List ℕ)) (count : S → ℕ) (w p : Prefixed S) (front : List ℕ) (source left : S) (old new : Option (List ℕ)) (faults now : ℕ)
    (ended : Outcome) (all : List ℕ) → IsBegun w front source → left ≡ source_of p → GaveAll (left_in rest w) (left_in rest p) all → count (source_of p) ≡ count (source_of w)
    → Decodes (output_of format all) old new faults now ended → DecodesSource format (all_of front 4 (rest source)) (rest left) (count source) (count left) old new faults now ended
decodes_read {S} format rest count w p front source left old new faults now ended all begun same gave quiet done =
    let behind = subst (λ (s : S). GaveAll (left_in rest w) (all_of (front_of p) (left_of p) (rest s)) all) (sym same) gave in
    subst (λ (told : Option (List ℕ)). DecodesSource format told (rest left) (count source) (count left) old new faults now ended) (begins_so rest w front source begun)
    (decodes_all format (left_in rest w) (rest left) (count source) (count left) old new faults now ended all (gave_whole (left_in rest w) (rest left) (front_of p) all (left_of p) behind)
    (ap count same ∙ quiet ∙ ap count begun.source_is) done)

-- it failed
pub fails_read : {S : Type 0} (format : Format) (rest : S → Option (List ℕ)) (count : S → ℕ) (w p : Prefixed S) (front : List ℕ) (source left : S) (taken : Option (List ℕ)) (faults : ℕ)
    → IsBegun w front source → left ≡ source_of p → 4 ≤ length front → is_webm front ≡ true → count (source_of w) < count (source_of p)
    → (given : List ℕ) × Gave (left_in rest w) (left_in rest p) given
    → DecodesSource format (all_of front 4 (rest source)) (rest left) (count source) (count left) taken taken faults faults outcome.ReadFault
fails_read {S} format rest count w p front source left taken faults begun same long webm rises (given, gave) =
    let behind = subst (λ (s : S). Gave (left_in rest w) (all_of (front_of p) (left_of p) (rest s)) given) (sym same) gave in
    let whole = subst (λ (told : Option (List ℕ)). Gave told (all_of (front_of p) (left_of p) (rest left)) given) (begins_so rest w front source begun) behind in (
      omega (arith, rises, ap count same, ap count begun.source_is),
      refl,
      (
        given ++ drop (4 - left_of p) (front_of p),
        gave_with (all_of front 4 (rest source)) (rest left) (front_of p) given (left_of p) whole,
        λ bytes told. let h = behind_front front 4 (rest source) bytes told in inr (ap is_webm h.2 ∙ front_tells front h.0 long ∙ webm, takes_none taken),
      ),
    )

-- memory was wanting before a byte was written
pub wants_memory : {S : Type 0} (format : Format) (rest : S → Option (List ℕ)) (count : S → ℕ) (w p : Prefixed S) (front : List ℕ) (source left : S) (taken : Option (List ℕ)) (faults : ℕ)
    → IsBegun w front source → left ≡ source_of p → count (source_of p) ≡ count (source_of w)
    → DecodesSource format (all_of front 4 (rest source)) (rest left) (count source) (count left) taken taken faults faults outcome.OutOfMemory
wants_memory format rest count w p front source left taken faults begun same quiet =
    (inl (ap count same ∙ quiet ∙ ap count begun.source_is), refl, λ bytes told. (0, takes_none taken))
