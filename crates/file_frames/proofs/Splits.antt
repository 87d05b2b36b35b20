-- The frames of a file as a relation, and as they are computed.
use Rattle.std.proofs.Common.{◌≡◌, ℕ, List, [], ◌∷◌, ap, refl, ◌∙◌, inl, inr}
use Rattle.std.specs.Prelude.{Option, Result, Ok, Err}
use Rattle.vp9_types.specs.declared.rule.Rule.{Rule}
use Rattle.superframe_index.specs.PayloadFrames.{IsSplit, at_spans, frames_of}
use Rattle.file_frames.specs.FileFrames.{FileFrames, with_frames, AreSplit, joined, split_all}

abbrev Split : Type 0
Split = Result (List (List ℕ)) Rule

split_joined : (payload : List ℕ) (payloads : List (List ℕ)) (ending : Option Rule) (s : Split) (rest : FileFrames) → IsSplit payload s → AreSplit payloads ending rest
    → AreSplit (payload ∷ payloads) ending (joined s rest)
split_joined payload payloads ending (Ok frames) rest is are = inl (frames, rest, is, are, refl)
split_joined payload payloads ending (Err rule) rest is are = inr (rule, is, refl)

pub are_split : (payloads : List (List ℕ)) (ending : Option Rule) → ((payload : List ℕ) → IsSplit payload (at_spans payload (frames_of payload))) → AreSplit payloads ending (split_all payloads ending)
are_split [] ending is = refl
are_split (payload ∷ payloads) ending is = split_joined payload payloads ending (at_spans payload (frames_of payload)) (split_all payloads ending) (is payload) (are_split payloads ending is)

pub only_split : (payloads : List (List ℕ)) (ending : Option Rule) (file : FileFrames)
    → ((payload : List ℕ) (frames : Split) → IsSplit payload frames → frames ≡ at_spans payload (frames_of payload)) → AreSplit payloads ending file → file ≡ split_all payloads ending
only_split [] ending file only h = h
only_split (payload ∷ payloads) ending file only (inl h) =
    let frames = h.0 in
    let rest = h.1 in
    h.4 ∙ ap (with_frames frames) (only_split payloads ending rest only h.3) ∙ ap (λ s. joined s (split_all payloads ending)) (only payload (Ok frames) h.2)
only_split (payload ∷ payloads) ending file only (inr h) =
    h.2 ∙ ap (λ s. joined s (split_all payloads ending)) (only payload (Err h.0) h.1)
