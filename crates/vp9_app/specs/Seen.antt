-- What is seen of a run's source and of its sinks.
use Rattle.std.specs.Prelude.{◌≡◌, ℕ, ◌<◌, Bool, List, Option}

-- what is seen of a source: the bytes that it has left, where it tells them, and its count of faults, before and after
pub record OfSource : Type 0 where
  pub rest : Option (List ℕ)
  pub left : Option (List ℕ)
  pub faults : ℕ
  pub faults_now : ℕ

-- what is seen of a sink: whether it takes memory for what it takes, what it took, where it tells that, and its count of
-- faults, before and after
pub record OfSink : Type 0 where
  pub grows : Bool
  pub before : Option (List ℕ)
  pub after : Option (List ℕ)
  pub faults : ℕ
  pub faults_now : ℕ

abbrev pub source_seen : Option (List ℕ) → Option (List ℕ) → ℕ → ℕ → OfSource
source_seen rest left faults faults_now = record { rest = rest; left = left; faults = faults; faults_now = faults_now }

abbrev pub sink_seen : Bool → Option (List ℕ) → Option (List ℕ) → ℕ → ℕ → OfSink
sink_seen grows before after faults faults_now = record { grows = grows; before = before; after = after; faults = faults; faults_now = faults_now }

-- a count that didn't rise, and one that did
abbrev pub SourceQuiet : OfSource → Type 0
SourceQuiet s = s.faults_now ≡ s.faults

abbrev pub SourceFailed : OfSource → Type 0
SourceFailed s = s.faults < s.faults_now

abbrev pub SinkQuiet : OfSink → Type 0
SinkQuiet o = o.faults_now ≡ o.faults

abbrev pub SinkFailed : OfSink → Type 0
SinkFailed o = o.faults < o.faults_now

-- nothing was read
abbrev pub Unread : OfSource → Type 0
Unread s = SourceQuiet s × (s.left ≡ s.rest)
