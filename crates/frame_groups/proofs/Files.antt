-- The frames that are ahead at the beginning of a file, and those of the file.
use Rattle.std.proofs.Common.{◌≡◌, ℕ, ◌<◌, List, [], ◌∷◌, length, refl, ap, ◌∙◌, arith, inl}
use Rattle.std.specs.Prelude.{Bool, true, false, ◌&&◌, nat_eq, Result, if◌then◌else◌}
use Rattle.vp9_types.specs.declared.rule.Rule.{Rule}
use Rattle.vp9_types.specs.declared.rule.Rule.TheVariants.{IvfHeader}
use Rattle.ivf_container.specs.Packets.{header_end, packets_after, packets_of}
use Rattle.ivf_container.proofs.Headers.{fails_header}
use Rattle.webm_container.specs.Walk.{webm_packets}
use Rattle.file_frames.specs.Containers.{is_webm, packets_of_file, rate_of_file, rate_with}
use Rattle.file_frames.specs.FileFrames.{frames_of_file, split_packets}
use Rattle.packet_reader.specs.declared.reader.Stage.TheVariants.{Header}
use Rattle.frame_groups.specs.Groups.{frames_ahead}
use Rattle.frame_groups.specs.Laws.{IsNoFile}

pub ivf_frames : (bytes : List ℕ) → is_webm bytes ≡ false → frames_of_file bytes ≡ frames_ahead Header bytes
unfolding frames_of_file packets_of_file
ivf_frames bytes is = ap (λ (webm : Bool). split_packets (if webm then webm_packets bytes else packets_of bytes)) is

never : (b : Bool) → (b && false) ≡ false
never true = refl
never false = refl

pub too_short : (bytes : List ℕ) → length bytes < 4 → is_webm bytes ≡ false
too_short [] few = refl
too_short (a ∷ []) few = never (nat_eq 26 a)
too_short (a ∷ (b ∷ [])) few = ap (λ (t : Bool). nat_eq 26 a && t) (never (nat_eq 69 b)) ∙ never (nat_eq 26 a)
too_short (a ∷ (b ∷ (c ∷ []))) few =
    ap (λ (t : Bool). nat_eq 26 a && (nat_eq 69 b && t)) (never (nat_eq 223 c)) ∙ ap (λ (t : Bool). nat_eq 26 a && t) (never (nat_eq 69 b)) ∙ never (nat_eq 26 a)
too_short (a ∷ (b ∷ (c ∷ (d ∷ bytes)))) few = absurd (omega (arith, few))

pub no_file : (bytes : List ℕ) → length bytes < 4 → IsNoFile bytes
unfolding packets_of rate_of_file
no_file bytes few =
    let fails = fails_header bytes IvfHeader (inl few) in
    let isnt = too_short bytes few in (
      ivf_frames bytes isnt ∙ ap (λ (r : Result ℕ Rule). split_packets (packets_after bytes r)) fails,
      ap (λ (webm : Bool). if webm then (30, 1) else rate_with bytes (header_end bytes)) isnt ∙ ap (rate_with bytes) fails,
    )
