-- How a decode ends behind all that was taken of its source.
use Rattle.std.proofs.Common.{◌≡◌, ℕ, ◌<◌, List, [], ◌∷◌, ◌++◌, refl, sym, ap, subst, ◌∙◌, inl, inr}
use Rattle.std.specs.Prelude.{Option, Some, None, false}
use Rattle.std.proofs.lemmas.List.{append-nil}
use Rattle.edge_io.specs.Filling.{WhereTold}
use Rattle.edge_io.specs.Putting.{Takes}
use Rattle.edge_io.specs.SourceReading.{Gave}
use Rattle.vp9_types.specs.declared.outcome.Outcome.{Outcome}
use Rattle.vp9_types.specs.declared.outcome.Outcome.TheVariants as outcome
use Rattle.vp9_types.specs.declared.outcome.Stop.{Stop}
use Rattle.vp9_types.specs.declared.rule.Rule.{Rule}
use Rattle.frame_output.specs.declared.rendering.Format.{Format}
use Rattle.file_frames.specs.Containers.{is_webm, rate_of_file}
use Rattle.file_frames.specs.FileFrames.{frames_in, frames_of_file}
use Rattle.file_frames.specs.Walks.{Walked}
use Rattle.packet_reader.specs.declared.reader.Stage.{Stage}
use Rattle.packet_reader.specs.declared.reader.Stage.TheVariants.{Header, Packet, Ended}
use Rattle.frame_groups.proofs.Files.{ivf_frames}
use Rattle.frame_groups.proofs.GroupLemmas.{takes_more}
use Rattle.frame_groups.proofs.HeaderFronts.{front_isnt_webm}
use Rattle.frame_groups.proofs.RateLemmas.{rate_again}
use Rattle.frame_groups.specs.declared.group.Behind.{Behind}
use Rattle.frame_groups.specs.declared.group.Behind.TheVariants.{More, End, Broken, Failed, OutOfMemory}
use Rattle.frame_groups.specs.Groups.{CountsGroup, HasRateOf, IsGroup, TakesGroup, TellsGroupRate, frames_ahead}
use Rattle.job_decoder.specs.seq_decoder.Outcomes.{Decodes, WritesFront}
use Rattle.job_decoder.specs.seq_decoder.Outputs.{output_of}
use Rattle.job_decoder.proofs.of_numbered_frames.Ways.{files_are_films}
use Rattle.job_decoder.specs.numbered_frames.Films.{Film, GoesOn, film_of}
use Rattle.job_decoder.specs.numbered_frames.FrameNumbers.{film_output}
use Rattle.job_decoder.specs.Pasts.{IsPast, film_with, frames_behind}
use Rattle.job_decoder.specs.Reaches.{IsStop, past_texts}
use Rattle.job_decoder.specs.declared.past.Past.{Past}
use Rattle.stream_decoder.proofs.FilmLemmas.{breaks_no_frame, film_goes_on, itself, writes_front, writes_none, writes_past, writes_shown}
use Rattle.stream_decoder.specs.Code.{Begun, HasTaken, IsOnWay, IsPastAt}
use Rattle.stream_decoder.specs.Streams.{DecodesSource, MayHaveFailed, WritesTaken}

---- All as one group ----

abbrev pub IsIvf : Option (List ℕ) → Type 0
IsIvf told = WhereTold told (λ bytes. is_webm bytes ≡ false)

-- all that was taken since the beginning of a file, as one group, and the rate that is told behind it
pub record TakesAll (told left : Option (List ℕ)) (rate : ℕ × ℕ) (frames : List (List ℕ)) (behind : Behind) : Type 0 where
  pub isnt : IsIvf told
  pub takes : TakesGroup Header told left frames behind
  pub rates : TellsGroupRate Header told (0, 0) rate frames behind

-- what was told before the first group doesn't matter
other_before : (told : Option (List ℕ)) (before other now : ℕ × ℕ) (frames : List (List ℕ)) (behind : Behind) → TellsGroupRate Header told before now frames behind
    → TellsGroupRate Header told other now frames behind
other_before told before other now frames More tells = tells
other_before told before other now frames End tells = tells
other_before told before other now frames (Broken rule) tells = tells
other_before told before other now frames Failed tells = tells
other_before told before other now frames OutOfMemory tells = tells

pub takes_all : (stage : Stage) (told now left new : Option (List ℕ)) (before rate : ℕ × ℕ) (frames more : List (List ℕ)) (behind : Behind) → IsIvf told → HasTaken stage told now left before frames
    → TakesGroup stage now new more behind → TellsGroupRate stage now before rate more behind → TakesAll told new rate (frames ++ more) behind
takes_all Header told now left new before rate frames more behind isnt took takes tells =
    let all : more ≡ frames ++ more = ap (λ (xs : List (List ℕ)). xs ++ more) (sym took.1) in
    record {
      isnt = isnt;
      takes = subst (λ (xs : List (List ℕ)). TakesGroup Header told new xs behind) all (subst (λ (o : Option (List ℕ)). TakesGroup Header o new more behind) took.0 takes);
      rates = subst (λ (xs : List (List ℕ)). TellsGroupRate Header told (0, 0) rate xs behind) all
          (subst (λ (o : Option (List ℕ)). TellsGroupRate Header o (0, 0) rate more behind) took.0 (other_before now before (0, 0) rate more behind tells));
    }
takes_all Packet told now left new before rate frames more behind isnt took takes tells = record {
  isnt = isnt;
  takes = takes_more Header told left new frames more behind took.1 (subst (λ (o : Option (List ℕ)). TakesGroup Packet o new more behind) took.0 takes);
  rates = rate_again Packet Header told now (0, 0) before rate frames more (frames ++ more) behind took.2 refl tells;
}
takes_all (Ended refusal) told now left new before rate frames more behind isnt took takes tells = absurd took

-- the rate is known where there is a frame
rate_known : (told : Option (List ℕ)) (rate : ℕ × ℕ) (frames : List (List ℕ)) (behind : Behind) → TellsGroupRate Header told (0, 0) rate frames behind → (frames ≡ [] → ⊥)
    → WhereTold told (λ bytes. HasRateOf bytes rate)
rate_known told rate frames More tells some = tells
rate_known told rate frames End tells some = tells
rate_known told rate frames (Broken rule) tells some = tells
rate_known told rate frames Failed tells some = tells some
rate_known told rate frames OutOfMemory tells some = tells some

-- the frames of a group are the first ones of all
first_ones : (begun rest : List ℕ) (frames : List (List ℕ)) (behind : Behind) → IsGroup Header begun rest frames behind
    → (more : List (List ℕ)) × (frames_in (frames_ahead Header (begun ++ rest)) ≡ frames ++ more)
first_ones begun rest frames More group = (frames_in (frames_ahead Packet rest), group.0.frames_are rest)
first_ones begun rest frames End group =
    ([], ap (λ (xs : List ℕ). frames_in (frames_ahead Header (begun ++ xs))) group.2 ∙ ap (λ (xs : List ℕ). frames_in (frames_ahead Header xs)) (append-nil begun) ∙ group.0 ∙ sym (append-nil frames))
first_ones begun rest frames (Broken rule) group = ([], group.0 ∙ sym (append-nil frames))
first_ones begun rest frames Failed group = group.behind_it rest
first_ones begun rest frames OutOfMemory group = group.behind_it rest

goes_on : (told left : Option (List ℕ)) (rate : ℕ × ℕ) (frames : List (List ℕ)) (behind : Behind) → IsIvf told → TakesGroup Header told left frames behind
    → WhereTold told (λ bytes. HasRateOf bytes rate) → WhereTold told (λ bytes. GoesOn (film_with rate frames) (film_of bytes))
goes_on told left rate frames behind isnt takes rates = λ bytes is.
    let t = takes bytes is in
    let more = first_ones t.0 t.1 frames behind t.4 in
    film_goes_on bytes rate frames more.0 (isnt bytes is) (rates bytes is (isnt bytes is)) (ap (λ (xs : List ℕ). frames_in (frames_ahead Header xs)) t.2 ∙ more.1)

all_go_on : (told left : Option (List ℕ)) (rate : ℕ × ℕ) (frames : List (List ℕ)) (behind : Behind) → TakesAll told left rate frames behind → (frames ≡ [] → ⊥)
    → WhereTold told (λ bytes. GoesOn (film_with rate frames) (film_of bytes))
all_go_on told left rate frames behind all some = goes_on told left rate frames behind all.isnt all.takes (rate_known told rate frames behind all.rates some)

gave_front : (told left : Option (List ℕ)) (frames : List (List ℕ)) (behind : Behind) → TakesGroup Header told left frames behind → (begun : List ℕ) × Gave told left begun
gave_front None left frames behind takes = ([], λ bytes is. absurd cc)
gave_front (Some file) left frames behind takes =
    let t = takes file refl in
    (t.0, λ bytes is. let same : file ≡ bytes = cc in (t.1, sym same ∙ t.2, t.3))

---- The source's count of faults where a decode ends in frames ----

-- a front that holds frames was taken
abbrev HasFrames : Option (List ℕ) → Option (List ℕ) → Type 0
HasFrames told left = (begun : List ℕ) × Gave told left begun × WhereTold told (λ bytes. (is_webm bytes ≡ false) × (frames_in (frames_of_file begun) ≡ [] → ⊥))

has_frames : (told left : Option (List ℕ)) (rate : ℕ × ℕ) (frames : List (List ℕ)) → TakesAll told left rate frames Failed → (frames ≡ [] → ⊥) → HasFrames told left
has_frames None left rate frames all some = ([], λ bytes is. absurd cc, λ bytes is. absurd cc)
has_frames (Some file) left rate frames all some =
    let t = all.takes file refl in
    let isnt = all.isnt file refl in
    let inside = subst (λ (xs : List ℕ). is_webm xs ≡ false) t.2 isnt in
    let held : frames_in (frames_of_file t.0) ≡ frames = ap frames_in (ivf_frames t.0 (front_isnt_webm t.0 t.1 inside)) ∙ t.4.frames_are in (
      t.0,
      λ bytes is. let same : file ≡ bytes = cc in (t.1, sym same ∙ t.2, t.3),
      λ bytes is. let same : file ≡ bytes = cc in (subst (λ (xs : List ℕ). is_webm xs ≡ false) same isnt, λ none. some (sym held ∙ none)),
    )

pub may_have_failed : (told left : Option (List ℕ)) (failed failed_now : ℕ) (rate : ℕ × ℕ) (frames : List (List ℕ)) (behind : Behind) → TakesAll told left rate frames behind → (frames ≡ [] → ⊥)
    → CountsGroup failed failed_now behind → MayHaveFailed told left failed failed_now
may_have_failed told left failed failed_now rate frames More all some counts = inl counts
may_have_failed told left failed failed_now rate frames End all some counts = inl counts
may_have_failed told left failed failed_now rate frames (Broken rule) all some counts = inl counts
may_have_failed told left failed failed_now rate frames Failed all some counts = inr (counts, has_frames told left rate frames all some)
may_have_failed told left failed failed_now rate frames OutOfMemory all some counts = inl counts

---- The frames are decoded, and the group ends the decode ----

pub is_done : (format : Format) (told left : Option (List ℕ)) (failed failed_now : ℕ) (old new : Option (List ℕ)) (faults faults_now : ℕ) (rate : ℕ × ℕ) (p : Past) → IsPast format rate p
    → TakesAll told left rate (frames_behind p) End → Takes old new (past_texts format rate p) → failed_now ≡ failed → faults_now ≡ faults
    → DecodesSource format told left failed failed_now old new faults faults_now outcome.Done
is_done format told left failed failed_now old new faults faults_now rate p past all takes sound quiet = (
  sound,
  quiet,
  λ bytes is.
      let t = all.takes bytes is in
      let isnt = all.isnt bytes is in
      let whole : bytes ≡ t.0 = t.2 ∙ ap (λ (xs : List ℕ). t.0 ++ xs) t.4.2 ∙ append-nil t.0 in (
        writes_past format rate p bytes None old new past isnt (all.rates bytes is isnt) (ap (λ (xs : List ℕ). frames_in (frames_ahead Header xs)) whole ∙ t.4.0)
            (ap (λ (xs : List ℕ). (frames_ahead Header xs).ending) whole ∙ t.4.1) takes,
        t.3 ∙ ap Some t.4.2,
      ),
)

pub is_broken : (format : Format) (told left : Option (List ℕ)) (failed failed_now : ℕ) (old new : Option (List ℕ)) (faults faults_now : ℕ) (rate : ℕ × ℕ) (p : Past) (rule : Rule) → IsPast format rate p
    → TakesAll told left rate (frames_behind p) (Broken rule) → Takes old new (past_texts format rate p) → failed_now ≡ failed → faults_now ≡ faults
    → DecodesSource format told left failed failed_now old new faults faults_now (outcome.Broken (record { frame = p.count; rule = rule }))
is_broken format told left failed failed_now old new faults faults_now rate p rule past all takes sound quiet = (
  inl sound,
  quiet,
  gave_front told left (frames_behind p) (Broken rule) all.takes,
  λ bytes is.
      let t = all.takes bytes is in
      let isnt = all.isnt bytes is in
      writes_past format rate p bytes (Some rule) old new past isnt (all.rates bytes is isnt) (ap (λ (xs : List ℕ). frames_in (frames_ahead Header xs)) t.2 ∙ t.4.0)
      (ap (λ (xs : List ℕ). (frames_ahead Header xs).ending) t.2 ∙ t.4.1) takes,
)

-- what is written of what a source gave before it failed
abbrev WritesSome : Format → Option (List ℕ) → Option (List ℕ) → Option (List ℕ) → Option (List ℕ) → Type 0
WritesSome format told left old new = (begun : List ℕ) × Gave told left begun × WhereTold told (λ bytes. WritesTaken format bytes begun old new)

writes_some : (format : Format) (told left old new : Option (List ℕ)) (rate : ℕ × ℕ) (p : Past) → IsPast format rate p → TakesAll told left rate (frames_behind p) Failed
    → Takes old new (past_texts format rate p) → WritesSome format told left old new
writes_some format None left old new rate p past all takes = ([], λ bytes is. absurd cc, λ bytes is. absurd cc)
writes_some format (Some file) left old new rate p past all takes =
    let t = all.takes file refl in
    let isnt = all.isnt file refl in
    let inside = subst (λ (xs : List ℕ). is_webm xs ≡ false) t.2 isnt in
    let rates : (frames_behind p ≡ [] → ⊥) → rate ≡ rate_of_file (t.0 ++ t.1) = λ some. all.rates some file refl isnt ∙ ap rate_of_file t.2 in
    let shown = writes_shown format rate p t.0 t.1 old new past inside rates t.4 takes in
    let sound = breaks_no_frame format rate p t.0 t.1 past inside rates t.4 in (
      t.0,
      λ bytes is. let same : file ≡ bytes = cc in (t.1, sym same ∙ t.2, t.3),
      λ bytes is. let same : file ≡ bytes = cc in inl (subst (λ (xs : List ℕ). is_webm xs ≡ false) same isnt, sound, shown),
    )

pub has_failed : (format : Format) (told left : Option (List ℕ)) (failed failed_now : ℕ) (old new : Option (List ℕ)) (faults faults_now : ℕ) (rate : ℕ × ℕ) (p : Past) → IsPast format rate p
    → TakesAll told left rate (frames_behind p) Failed → Takes old new (past_texts format rate p) → failed < failed_now → faults_now ≡ faults
    → DecodesSource format told left failed failed_now old new faults faults_now outcome.ReadFault
has_failed format told left failed failed_now old new faults faults_now rate p past all takes rose quiet =
    (rose, quiet, writes_some format told left old new rate p past all takes)

pub had_no_memory : (format : Format) (told left : Option (List ℕ)) (failed failed_now : ℕ) (old new : Option (List ℕ)) (faults faults_now : ℕ) (rate : ℕ × ℕ) (p : Past) (behind : Behind) → IsPast format rate p
    → TakesAll told left rate (frames_behind p) behind → Takes old new (past_texts format rate p) → failed_now ≡ failed → faults_now ≡ faults
    → DecodesSource format told left failed failed_now old new faults faults_now outcome.OutOfMemory
had_no_memory format told left failed failed_now old new faults faults_now rate p behind past all takes sound quiet = (inl sound, quiet, λ bytes is. by_frames bytes is (frames_behind p) refl) where
  by_frames : (bytes : List ℕ) → told ≡ Some bytes → (frames : List (List ℕ)) → frames_behind p ≡ frames → WritesFront (output_of format bytes) old new
  by_frames bytes is [] none = writes_none format rate p bytes old new past none takes
  by_frames bytes is (x ∷ xs) those =
      let some : frames_behind p ≡ [] → ⊥ = λ none. let no : x ∷ xs ≡ [] = sym those ∙ none in absurd cc in
      writes_front format rate p bytes old new past (all_go_on told left rate (frames_behind p) behind all some bytes is) takes

---- Memory was wanting before a group was decoded ----

pub starved : (format : Format) (b : Begun) (stage : Stage) (now left : Option (List ℕ)) (rate : ℕ × ℕ) (failed : ℕ) (p : Past) (taken : Option (List ℕ)) (faults : ℕ) (left_now : Option (List ℕ)) (failed_now : ℕ)
    → IsIvf b.told → MayHaveFailed b.told left_now b.failed failed_now → IsPastAt stage format rate p → IsOnWay format b stage now left rate failed p taken faults
    → DecodesSource format b.told left_now b.failed failed_now b.taken taken b.faults faults outcome.OutOfMemory
starved format b Header now left rate failed p taken faults left_now failed_now isnt may past way =
    (may, way.quiet, λ bytes is. writes_none format (0, 0) p bytes b.taken taken (past (0, 0) tt) way.took.1 (way.wrote (0, 0) tt))
starved format b Packet now left rate failed p taken faults left_now failed_now isnt may past way =
    (may, way.quiet, λ bytes is. writes_front format rate p bytes b.taken taken (past rate refl) (goes_on b.told left rate (frames_behind p) More isnt way.took.1 way.took.2 bytes is) (way.wrote rate refl))
starved format b (Ended refusal) now left rate failed p taken faults left_now failed_now isnt may past way = absurd way.took

---- The decode has stopped in the frames of a group ----

-- it has stopped so, whatever comes behind these frames
abbrev pub StopsSo : Format → ℕ × ℕ → List (List ℕ) → Option (List ℕ) → Option (List ℕ) → ℕ → ℕ → Outcome → Type 0
StopsSo format rate frames old new faults faults_now o = (film : Film) → GoesOn (film_with rate frames) film → Decodes (film_output format film) old new faults faults_now o

front_of : (format : Format) (bytes : List ℕ) (old new : Option (List ℕ)) → WritesFront (film_output format (film_of bytes)) old new → WritesFront (output_of format bytes) old new
front_of format bytes old new h = subst (λ (w : Walked ℕ Rule). WritesFront w old new) (sym (files_are_films format bytes)) h

added_of : (format : Format) (bytes : List ℕ) (old new : Option (List ℕ)) → Takes old new (film_output format (film_of bytes)).adds → Takes old new (output_of format bytes).adds
added_of format bytes old new h = subst (λ (w : Walked ℕ Rule). Takes old new w.adds) (sym (files_are_films format bytes)) h

stops_by_rule : (format : Format) (told left : Option (List ℕ)) (failed failed_now : ℕ) (old new : Option (List ℕ)) (faults faults_now : ℕ) (rate : ℕ × ℕ) (frames : List (List ℕ)) (behind : Behind) (stop : Stop)
    → TakesAll told left rate frames behind → (frames ≡ [] → ⊥) → CountsGroup failed failed_now behind → StopsSo format rate frames old new faults faults_now (outcome.Broken stop)
    → DecodesSource format told left failed failed_now old new faults faults_now (outcome.Broken stop)
stops_by_rule format told left failed failed_now old new faults faults_now rate frames behind stop all some counts stops = (
  may_have_failed told left failed failed_now rate frames behind all some counts,
  (stops (film_with rate frames) (itself (film_with rate frames))).quiet,
  gave_front told left frames behind all.takes,
  λ bytes is.
      let done = stops (film_of bytes) (all_go_on told left rate frames behind all some bytes is) in
      (ap (λ (w : Walked ℕ Rule). w.ending) (files_are_films format bytes) ∙ done.ends, added_of format bytes old new done.writes),
)

pub stopped : (format : Format) (told left : Option (List ℕ)) (failed failed_now : ℕ) (old new : Option (List ℕ)) (faults faults_now : ℕ) (rate : ℕ × ℕ) (frames : List (List ℕ)) (behind : Behind) (o : Outcome)
    → TakesAll told left rate frames behind → (frames ≡ [] → ⊥) → CountsGroup failed failed_now behind → IsStop o → StopsSo format rate frames old new faults faults_now o
    → DecodesSource format told left failed failed_now old new faults faults_now o
stopped format told left failed failed_now old new faults faults_now rate frames behind outcome.Done all some counts is_stop stops = absurd is_stop
stopped format told left failed failed_now old new faults faults_now rate frames behind (outcome.Broken stop) all some counts is_stop stops =
    stops_by_rule format told left failed failed_now old new faults faults_now rate frames behind stop all some counts stops
stopped format told left failed failed_now old new faults faults_now rate frames behind outcome.ReadFault all some counts is_stop stops = absurd is_stop
stopped format told left failed failed_now old new faults faults_now rate frames behind outcome.WriteFault all some counts is_stop stops =
    (may_have_failed told left failed failed_now rate frames behind all some counts, (stops (film_with rate frames) (itself (film_with rate frames))).0, λ bytes is. front_of format bytes old new (stops (film_of bytes) (all_go_on told left rate frames behind all some bytes is)).1)
stopped format told left failed failed_now old new faults faults_now rate frames behind outcome.OutOfMemory all some counts is_stop stops =
    (may_have_failed told left failed failed_now rate frames behind all some counts, (stops (film_with rate frames) (itself (film_with rate frames))).0, λ bytes is. front_of format bytes old new (stops (film_of bytes) (all_go_on told left rate frames behind all some bytes is)).1)
