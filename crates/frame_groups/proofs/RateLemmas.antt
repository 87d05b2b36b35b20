-- The rate that is told.
use Rattle.std.proofs.Common.{◌≡◌, ℕ, List, [], refl, sym, ap, subst, ◌∙◌}
use Rattle.std.specs.Prelude.{Bool, Option, Result, Ok, Err, Vec, if◌then◌else◌}
use Rattle.std.specs.declared.alloc.Global.{Global}
use Rattle.edge_io.specs.Filling.{WhereTold}
use Rattle.vp9_types.specs.declared.rule.Rule.{Rule}
use Rattle.ivf_container.specs.Packets.{header_end}
use Rattle.file_frames.specs.Containers.{rate_of_file, rate_with}
use Rattle.packet_reader.specs.TakenPackets as packets
use Rattle.packet_reader.specs.declared.reader.PacketRefusal.TheVariants as refused
use Rattle.packet_reader.specs.declared.reader.Stage.{Stage}
use Rattle.packet_reader.specs.declared.reader.Stage.TheVariants.{Header, Packet, Ended}
use Rattle.frame_groups.specs.declared.group.Behind.{Behind}
use Rattle.frame_groups.specs.declared.group.Behind.TheVariants.{More, End, Broken, Failed, OutOfMemory}
use Rattle.frame_groups.specs.Groups.{HasRateOf, TellsGroupRate}

pub same_rate : (bytes : List ℕ) (r : Result ℕ Rule) → packets.rate_with bytes r ≡ rate_with bytes r
same_rate bytes (Ok end) = refl
same_rate bytes (Err rule) = refl

rate_of : (bytes : List ℕ) (rate : ℕ × ℕ) → packets.HasRate bytes rate → HasRateOf bytes rate
unfolding rate_of_file
rate_of bytes rate has = λ isnt.
    has ∙ same_rate bytes (header_end bytes) ∙ sym (ap (λ (webm : Bool). if webm then (30, 1) else rate_with bytes (header_end bytes)) isnt)

rates : (told : Option (List ℕ)) (rate : ℕ × ℕ) → WhereTold told (λ bytes. packets.HasRate bytes rate) → WhereTold told (λ bytes. HasRateOf bytes rate)
rates told rate has = λ bytes is. rate_of bytes rate (has bytes is)

-- the first group tells it, if it is told
first_rate : (told : Option (List ℕ)) (before now : ℕ × ℕ) (frames : List (List ℕ)) (behind : Behind) → WhereTold told (λ bytes. packets.HasRate bytes now)
    → TellsGroupRate Header told before now frames behind
first_rate told before now frames More has = rates told now has
first_rate told before now frames End has = rates told now has
first_rate told before now frames (Broken rule) has = rates told now has
first_rate told before now frames Failed has = λ some. rates told now has
first_rate told before now frames OutOfMemory has = λ some. rates told now has

pub rate_behind : (stage : Stage) (told : Option (List ℕ)) (before now : ℕ × ℕ) (payload : Option (Vec ℕ Global)) (frames : List (List ℕ)) (behind : Behind)
    → packets.TellsRate stage told before now (Ok payload) → TellsGroupRate stage told before now frames behind
rate_behind Header told before now payload frames behind tells = first_rate told before now frames behind tells
rate_behind Packet told before now payload frames behind tells = tells
rate_behind (Ended refusal) told before now payload frames behind tells = tells

pub rate_at_rule : (stage : Stage) (told : Option (List ℕ)) (before now : ℕ × ℕ) (rule : Rule) → packets.TellsRate stage told before now (Err (refused.Rule rule))
    → TellsGroupRate stage told before now [] (Broken rule)
rate_at_rule Header told before now rule tells = rates told now tells
rate_at_rule Packet told before now rule tells = tells
rate_at_rule (Ended refusal) told before now rule tells = tells

pub rate_at_fault : (stage : Stage) (told : Option (List ℕ)) (before now : ℕ × ℕ) → packets.TellsRate stage told before now (Err refused.Failed)
    → TellsGroupRate stage told before now [] Failed
rate_at_fault Header told before now tells = λ some. absurd (some refl)
rate_at_fault Packet told before now tells = tells
rate_at_fault (Ended refusal) told before now tells = tells

pub rate_at_memory : (stage : Stage) (told : Option (List ℕ)) (before now : ℕ × ℕ) → packets.TellsRate stage told before now (Err refused.OutOfMemory)
    → TellsGroupRate stage told before now [] OutOfMemory
rate_at_memory Header told before now tells = λ some. absurd (some refl)
rate_at_memory Packet told before now tells = tells
rate_at_memory (Ended refusal) told before now tells = tells

pub rate_stays : (stage : Stage) (told : Option (List ℕ)) (rate : ℕ × ℕ) → TellsGroupRate stage told rate rate [] OutOfMemory
rate_stays Header told rate = λ some. absurd (some refl)
rate_stays Packet told rate = refl
rate_stays (Ended refusal) told rate = refl

-- what was told stays in the next packets
rate_on : (stage : Stage) (told : Option (List ℕ)) (before mid now : ℕ × ℕ) (first frames : List (List ℕ)) (behind : Behind) → TellsGroupRate stage told before mid first More → now ≡ mid
    → TellsGroupRate stage told before now frames behind
rate_on Header told before mid now first frames More tells same = λ bytes is isnt. same ∙ tells bytes is isnt
rate_on Header told before mid now first frames End tells same = λ bytes is isnt. same ∙ tells bytes is isnt
rate_on Header told before mid now first frames (Broken rule) tells same = λ bytes is isnt. same ∙ tells bytes is isnt
rate_on Header told before mid now first frames Failed tells same = λ some bytes is isnt. same ∙ tells bytes is isnt
rate_on Header told before mid now first frames OutOfMemory tells same = λ some bytes is isnt. same ∙ tells bytes is isnt
rate_on Packet told before mid now first frames behind tells same = same ∙ tells
rate_on (Ended refusal) told before mid now first frames behind tells same = same ∙ tells

-- a reader that stands before a packet tells what it told
pub rate_again : (stage first : Stage) (told mid_told : Option (List ℕ)) (before mid now : ℕ × ℕ) (one next all : List (List ℕ)) (behind : Behind)
    → TellsGroupRate first told before mid one More → stage ≡ Packet → TellsGroupRate stage mid_told mid now next behind → TellsGroupRate first told before now all behind
rate_again stage first told mid_told before mid now one next all behind tells stands more =
    rate_on first told before mid now one all behind tells (subst (λ (s : Stage). TellsGroupRate s mid_told mid now next behind) stands more)
