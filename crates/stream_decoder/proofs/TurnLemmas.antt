-- How a decode goes on behind a group, and that it stands as it should then.
use Rattle.std.proofs.Common.{◌≡◌, ℕ, List, [], ◌∷◌, ◌++◌, refl, sym, ap, subst, ◌∙◌}
use Rattle.std.specs.Prelude.{Option, Some}
use Rattle.std.proofs.lemmas.List.{append-nil}
use Rattle.edge_io.specs.Putting.{Takes}
use Rattle.frame_output.specs.declared.rendering.Format.{Format}
use Rattle.packet_reader.specs.declared.reader.Stage.{Stage}
use Rattle.packet_reader.specs.declared.reader.Stage.TheVariants.{Header, Packet, Ended}
use Rattle.frame_groups.specs.declared.group.Behind.{Behind}
use Rattle.frame_groups.specs.declared.group.Behind.TheVariants.{More, End, Broken, Failed, OutOfMemory}
use Rattle.frame_groups.specs.Groups.{CountsGroup, IsReadyAt, NoneBegun, StandsBehind, TakesGroup, TellsGroupRate, ahead, rate_told, source_of, stage_of}
use Rattle.frame_groups.specs.declared.reader.GroupReader.{GroupReader}
use Rattle.job_decoder.specs.Pasts.{IsPast, frames_behind}
use Rattle.job_decoder.specs.Reaches.{HasReached, past_texts}
use Rattle.job_decoder.specs.declared.group.Reached.{Reached}
use Rattle.job_decoder.specs.declared.group.Reached.TheVariants as reached
use Rattle.job_decoder.specs.declared.past.Past.{Past}
use Rattle.job_decoder.specs.declared.whole.Decoded.{Decoded}
use Rattle.job_decoder.specs.seq_decoder.Outcomes.{Decodes}
use Rattle.job_decoder.specs.numbered_frames.FrameNumbers.{film_output}
use Rattle.stream_decoder.proofs.FilmLemmas.{none_texts}
use Rattle.stream_decoder.proofs.GroupEnds.{IsIvf, TakesAll, had_no_memory, has_failed, is_broken, is_done, may_have_failed, stopped, takes_all}
use Rattle.stream_decoder.specs.Code.{Begun, HasTaken, IsOnWay, MayGoOn, MayTell, MayTurn, OnWay, StopsInFrames, Turned, sink_of, source_in, turn_of}
use Rattle.stream_decoder.specs.Streams.{DecodesSource, MayHaveFailed}
use Rattle.stream_decoder.specs.declared.steps.Way.{Way}

---- The frames that come next ----

pub none_next : {K : Type 0} (format : Format) (rate : ℕ × ℕ) (p : Past) (frames : List (List ℕ)) (taken : K → Option (List ℕ)) (faults_of : K → ℕ) (sink : K) → IsPast format rate p → frames ≡ []
    → HasReached format rate p frames (taken sink) (faults_of sink) taken faults_of (reached.Further p sink)
none_next format rate p frames taken faults_of sink past none =
    (past, sym (ap (λ (xs : List (List ℕ)). frames_behind p ++ xs) none ∙ append-nil (frames_behind p)), refl, λ begun takes. takes)

pub some_next : {K : Type 0} (frames : List (List ℕ)) (r : Reached K) → (frames ≡ [] → ⊥) → StopsInFrames frames r
some_next frames (reached.Further p sink) some = tt
some_next frames (reached.Ended decoded) some = some

---- Before a group and behind it ----

pub may_tell : (stage : Stage) (told : Option (List ℕ)) (before now : ℕ × ℕ) (frames : List (List ℕ)) (behind : Behind) → TellsGroupRate stage told before now frames behind → MayTell stage before now
may_tell Header told before now frames behind tells = tt
may_tell Packet told before now frames behind tells = tells
may_tell (Ended refusal) told before now frames behind tells = tells

-- what was told of a group that was taken on the way
pub record IsTaken (format : Format) (b : Begun) (left : Option (List ℕ)) (rate : ℕ × ℕ) (p : Past) (taken : Option (List ℕ)) (frames : List (List ℕ)) (behind : Behind) : Type 0 where
  pub all : TakesAll b.told left rate (frames_behind p ++ frames) behind
  pub wrote : Takes b.taken taken (past_texts format rate p)

pub is_taken : (format : Format) (b : Begun) (stage : Stage) (now left : Option (List ℕ)) (rate : ℕ × ℕ) (failed : ℕ) (p : Past) (taken : Option (List ℕ)) (faults : ℕ) (new : Option (List ℕ)) (rate_now : ℕ × ℕ) (frames : List (List ℕ)) (behind : Behind)
    → IsIvf b.told → IsOnWay format b stage now left rate failed p taken faults → TakesGroup stage now new frames behind → TellsGroupRate stage now rate rate_now frames behind
    → IsTaken format b new rate_now p taken frames behind
is_taken format b stage now left rate failed p taken faults new rate_now frames behind isnt way takes tells = record {
  all = takes_all stage b.told now left new rate rate_now (frames_behind p) frames behind isnt way.took takes tells;
  wrote = way.wrote rate_now (may_tell stage now rate rate_now frames behind tells);
}

---- Behind a group that is decoded ----

-- what is known of the way there
pub record IsBehind (format : Format) (b : Begun) (behind : Behind) (stage : Stage) (can_fill : Type 0) (now left : Option (List ℕ)) (rate : ℕ × ℕ) (failed : ℕ) (p : Past) (taken : Option (List ℕ)) (faults : ℕ) : Type 0 where
  pub all : TakesAll b.told left rate (frames_behind p) behind
  pub none : NoneBegun behind now left
  pub stands : StandsBehind behind stage can_fill
  pub counts : CountsGroup b.failed failed behind
  pub past : IsPast format rate p
  pub wrote : Takes b.taken taken (past_texts format rate p)
  pub quiet : faults ≡ b.faults

same_rate : (stage : Stage) (rate other : ℕ × ℕ) → stage ≡ Packet → MayTell stage rate other → rate ≡ other
same_rate stage rate other stands may = sym (subst (λ (s : Stage). MayTell s rate other) stands may)

is_on_way : (format : Format) (b : Begun) (stage : Stage) (can_fill : Type 0) (now left : Option (List ℕ)) (rate : ℕ × ℕ) (failed : ℕ) (p : Past) (taken : Option (List ℕ)) (faults : ℕ)
    → IsBehind format b More stage can_fill now left rate failed p taken faults → IsOnWay format b stage now left rate failed p taken faults
is_on_way format b stage can_fill now left rate failed p taken faults h = record {
  took = subst (λ (s : Stage). HasTaken s b.told now left rate (frames_behind p)) (sym h.stands.0) (h.none, h.all.takes, h.all.rates);
  wrote = λ other may. subst (λ (r : ℕ × ℕ). Takes b.taken taken (past_texts format r p)) (same_rate stage rate other h.stands.0 may) h.wrote;
  sound = h.counts;
  quiet = h.quiet;
}

pub turned : {S K : Type 0} (format : Format) (b : Begun) (rest : S → Option (List ℕ)) (failed_of : S → ℕ) (taken : K → Option (List ℕ)) (faults_of : K → ℕ) (can_fill : Type 0) (behind : Behind) (w : Way S K)
    → IsBehind format b behind (stage_of w.reader) can_fill (ahead rest w.reader) (rest (source_of w.reader)) (rate_told w.reader) (failed_of (source_of w.reader)) w.past (taken w.sink) (faults_of w.sink)
    → Turned format b rest failed_of taken faults_of (turn_of behind w)
turned format b rest failed_of taken faults_of can_fill More w h =
    is_on_way format b (stage_of w.reader) can_fill (ahead rest w.reader) (rest (source_of w.reader)) (rate_told w.reader) (failed_of (source_of w.reader)) w.past (taken w.sink) (faults_of w.sink) h
turned format b rest failed_of taken faults_of can_fill End w h =
    is_done format b.told (rest (source_of w.reader)) b.failed (failed_of (source_of w.reader)) b.taken (taken w.sink) b.faults (faults_of w.sink) (rate_told w.reader) w.past h.past h.all h.wrote h.counts h.quiet
turned format b rest failed_of taken faults_of can_fill (Broken rule) w h =
    is_broken format b.told (rest (source_of w.reader)) b.failed (failed_of (source_of w.reader)) b.taken (taken w.sink) b.faults (faults_of w.sink) (rate_told w.reader) w.past rule h.past h.all h.wrote h.counts h.quiet
turned format b rest failed_of taken faults_of can_fill Failed w h =
    has_failed format b.told (rest (source_of w.reader)) b.failed (failed_of (source_of w.reader)) b.taken (taken w.sink) b.faults (faults_of w.sink) (rate_told w.reader) w.past h.past h.all h.wrote h.counts h.quiet
turned format b rest failed_of taken faults_of can_fill OutOfMemory w h =
    had_no_memory format b.told (rest (source_of w.reader)) b.failed (failed_of (source_of w.reader)) b.taken (taken w.sink) b.faults (faults_of w.sink) (rate_told w.reader) w.past OutOfMemory h.past h.all h.wrote h.counts h.quiet

-- all frames are decoded
pub turned_further : {S K : Type 0} (format : Format) (b : Begun) (rest : S → Option (List ℕ)) (failed_of : S → ℕ) (taken : K → Option (List ℕ)) (faults_of : K → ℕ) (can_fill : Type 0) (behind : Behind) (w : Way S K)
    (before : Past) (frames : List (List ℕ)) (old : Option (List ℕ)) (faults failed : ℕ)
    → IsTaken format b (rest (source_of w.reader)) (rate_told w.reader) before old frames behind → NoneBegun behind (ahead rest w.reader) (rest (source_of w.reader)) → StandsBehind behind (stage_of w.reader) can_fill
    → CountsGroup failed (failed_of (source_of w.reader)) behind → failed ≡ b.failed → faults ≡ b.faults
    → HasReached format (rate_told w.reader) before frames old faults taken faults_of (reached.Further w.past w.sink)
    → Turned format b rest failed_of taken faults_of (turn_of behind w)
turned_further format b rest failed_of taken faults_of can_fill behind w before frames old faults failed t none stands counts sound quiet h =
    turned format b rest failed_of taken faults_of can_fill behind w (record {
      all = subst (λ (xs : List (List ℕ)). TakesAll b.told (rest (source_of w.reader)) (rate_told w.reader) xs behind) (sym h.1) t.all;
      none = none;
      stands = stands;
      counts = subst (λ (n : ℕ). CountsGroup n (failed_of (source_of w.reader)) behind) sound counts;
      past = h.0;
      wrote = h.3 b.taken t.wrote;
      quiet = h.2 ∙ quiet;
    })

pub may_turn : {S K : Type 0} (format : Format) (can_fill : S → Type 0) (can_put : K → Type 0) (behind : Behind) (w : Way S K) → StandsBehind behind (stage_of w.reader) (can_fill (source_of w.reader))
    → IsPast format (rate_told w.reader) w.past → can_put w.sink → MayTurn format can_fill can_put (turn_of behind w)
may_turn format can_fill can_put More w stands past put = (
  subst (λ (s : Stage). IsReadyAt s (can_fill (source_of w.reader))) (sym stands.0) stands.1,
  λ other may. subst (λ (r : ℕ × ℕ). IsPast format r w.past) (same_rate (stage_of w.reader) (rate_told w.reader) other stands.0 may) past,
  put,
)
may_turn format can_fill can_put End w stands past put = tt
may_turn format can_fill can_put (Broken rule) w stands past put = tt
may_turn format can_fill can_put Failed w stands past put = tt
may_turn format can_fill can_put OutOfMemory w stands past put = tt

pub source_stays : {S K : Type 0} (P : S → Type 0) (behind : Behind) (w : Way S K) → P (source_of w.reader) → P (source_in (turn_of behind w))
source_stays P More w h = h
source_stays P End w h = h
source_stays P (Broken rule) w h = h
source_stays P Failed w h = h
source_stays P OutOfMemory w h = h

pub sink_stays : {S K : Type 0} (P : K → Type 0) (behind : Behind) (w : Way S K) → P w.sink → P (sink_of (turn_of behind w))
sink_stays P More w h = h
sink_stays P End w h = h
sink_stays P (Broken rule) w h = h
sink_stays P Failed w h = h
sink_stays P OutOfMemory w h = h

---- In the frames of a group ----

some_of_both : (xs ys : List (List ℕ)) → (ys ≡ [] → ⊥) → xs ++ ys ≡ [] → ⊥
some_of_both [] ys some none = some none
some_of_both (x ∷ xs) ys some none = absurd cc

pub turned_stopped : {K : Type 0} (format : Format) (b : Begun) (left : Option (List ℕ)) (rate : ℕ × ℕ) (failed failed_now : ℕ) (taken : K → Option (List ℕ)) (faults_of : K → ℕ) (behind : Behind)
    (before : Past) (frames : List (List ℕ)) (old : Option (List ℕ)) (faults : ℕ) (decoded : Decoded K)
    → IsTaken format b left rate before old frames behind → CountsGroup failed failed_now behind → failed ≡ b.failed → faults ≡ b.faults
    → HasReached format rate before frames old faults taken faults_of (reached.Ended decoded) → StopsInFrames frames (reached.Ended decoded)
    → DecodesSource format b.told left b.failed failed_now b.taken (taken decoded.sink) b.faults (faults_of decoded.sink) decoded.outcome
turned_stopped format b left rate failed failed_now taken faults_of behind before frames old faults decoded t counts sound quiet h some =
    stopped format b.told left b.failed failed_now b.taken (taken decoded.sink) b.faults (faults_of decoded.sink) rate (frames_behind before ++ frames) behind decoded.outcome t.all (some_of_both (frames_behind before) frames some)
    (subst (λ (n : ℕ). CountsGroup n failed_now behind) sound counts) h.0
    (λ film goes. subst (λ (n : ℕ). Decodes (film_output format film) b.taken (taken decoded.sink) n (faults_of decoded.sink) decoded.outcome) quiet (h.1 film b.taken goes t.wrote))

-- the list of a group's frames found no memory
pub may_have_starved : (format : Format) (b : Begun) (left : Option (List ℕ)) (rate : ℕ × ℕ) (failed failed_now : ℕ) (p : Past) (taken : Option (List ℕ)) (frames : List (List ℕ)) (behind : Behind)
    → IsTaken format b left rate p taken frames behind → CountsGroup failed failed_now behind → failed ≡ b.failed → (frames ≡ [] → ⊥) → MayHaveFailed b.told left b.failed failed_now
may_have_starved format b left rate failed failed_now p taken frames behind t counts sound some =
    may_have_failed b.told left b.failed failed_now rate (frames_behind p ++ frames) behind t.all (some_of_both (frames_behind p) frames some)
    (subst (λ (n : ℕ). CountsGroup n failed_now behind) sound counts)

---- The beginning ----

abbrev pub begun_at : {S K : Type 0} → (S → Option (List ℕ)) → (S → ℕ) → (K → Option (List ℕ)) → (K → ℕ) → GroupReader S → K → Begun
begun_at rest failed_of taken faults_of reader sink = record { told = ahead rest reader; failed = failed_of (source_of reader); taken = taken sink; faults = faults_of sink }

nothing_taken : (taken : Option (List ℕ)) (texts : List ℕ) → texts ≡ [] → Takes taken taken texts
nothing_taken taken texts none = λ bytes is. is ∙ ap Some (sym (ap (λ (xs : List ℕ). bytes ++ xs) none ∙ append-nil bytes))

pub first_way : {S K : Type 0} (format : Format) (rest : S → Option (List ℕ)) (failed_of : S → ℕ) (taken : K → Option (List ℕ)) (faults_of : K → ℕ) (reader : GroupReader S) (p : Past) (sink : K)
    → stage_of reader ≡ Header → frames_behind p ≡ [] → ((format : Format) (rate : ℕ × ℕ) → IsPast format rate p)
    → OnWay format (begun_at rest failed_of taken faults_of reader sink) rest failed_of taken faults_of (record { reader = reader; past = p; sink = sink })
first_way format rest failed_of taken faults_of reader p sink stands none past = record {
  took = subst (λ (s : Stage). HasTaken s (ahead rest reader) (ahead rest reader) (rest (source_of reader)) (rate_told reader) (frames_behind p)) (sym stands) (refl, none);
  wrote = λ rate may. nothing_taken (taken sink) (past_texts format rate p) (none_texts format rate p (past format rate) none);
  sound = refl;
  quiet = refl;
}

pub first_may : {S K : Type 0} (format : Format) (can_fill : S → Type 0) (can_put : K → Type 0) (reader : GroupReader S) (p : Past) (sink : K)
    → stage_of reader ≡ Header → can_fill (source_of reader) → can_put sink → ((format : Format) (rate : ℕ × ℕ) → IsPast format rate p)
    → MayGoOn format can_fill can_put (record { reader = reader; past = p; sink = sink })
first_may format can_fill can_put reader p sink stands fill put past =
    (subst (λ (s : Stage). IsReadyAt s (can_fill (source_of reader))) (sym stands) fill, λ rate may. past format rate, put)
