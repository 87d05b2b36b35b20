-- The first bytes of a source, in a buffer.
use Rattle.std.proofs.Common.{◌≡◌, ◌+◌, ◌≤◌, ℕ, List, [], ◌∷◌, ◌++◌, length, take, refl, sym, ap, ◌∙◌, arith}
use Rattle.std.specs.Prelude.{Bool, Option, Some}
use Rattle.std.proofs.lemmas.List.{append-nil, length-take-le, take-append-le, take_at}
use Rattle.std.proofs.Math.Seq.{take-append-add}
use Rattle.edge_io.specs.Filling.{WhereTold}
use Rattle.edge_io.specs.SourceReading.{Gave, GaveAll}
use Rattle.file_frames.specs.Containers.{is_webm}
use Rattle.packet_reader.proofs.PacketLemmas.{left_behind}
use Rattle.packet_reader.specs.TakenPackets.{with_front}
use Rattle.frame_groups.specs.Groups.{ahead, begun_of, source_of}
use Rattle.frame_groups.specs.declared.reader.GroupReader.{GroupReader}

-- what was there stays in front of what is put behind it
pub front_kept : (xs ys : List ℕ) (at : ℕ) → at ≤ length xs → take at (take at xs ++ ys) ≡ take at xs
front_kept xs ys at low = take_at (take at xs) ys at (length-take-le at xs low)

pub front_more : (xs buf post : List ℕ) (at n : ℕ) → at ≤ length xs → n ≤ length buf → take (at + n) (take at xs ++ (buf ++ post)) ≡ take at xs ++ take n buf
front_more xs buf post at n low few =
    ap (λ (k : ℕ). take (k + n) (take at xs ++ (buf ++ post))) (sym (length-take-le at xs low))
    ∙ take-append-add (take at xs) (buf ++ post) n ∙ ap (λ (ys : List ℕ). take at xs ++ ys) (take-append-le n buf post few)

-- all that were left are a front of them
pub all_is_front : (old new : Option (List ℕ)) (all : List ℕ) → GaveAll old new all → Gave old new all
all_is_front old new all gave = λ bytes told. let h = gave bytes told in ([], sym (append-nil all ∙ h.0), h.1)

told_front : (front more : List ℕ) → with_front front (Some more) ≡ Some (front ++ more)
told_front [] more = refl
told_front (b ∷ front) more = refl

-- four bytes tell the container
pub front_tells : (front more : List ℕ) → 4 ≤ length front → is_webm (front ++ more) ≡ is_webm front
front_tells [] more long = absurd (omega (arith, long))
front_tells (a ∷ []) more long = absurd (omega (arith, long))
front_tells (a ∷ (b ∷ [])) more long = absurd (omega (arith, long))
front_tells (a ∷ (b ∷ (c ∷ []))) more long = absurd (omega (arith, long))
front_tells (a ∷ (b ∷ (c ∷ (d ∷ front)))) more long = refl

-- a reader behind what was looked at has the whole file ahead: for who has opened a source
pub looked_ahead : {S : Type 0} (rest : S → Option (List ℕ)) (r : GroupReader S) (source : S) (front more : List ℕ) → source_of r ≡ source → begun_of r ≡ front → rest source ≡ Some more
    → ahead rest r ≡ Some (front ++ more)
looked_ahead {S} rest r source front more sources begun told =
    ap (λ (b : List ℕ). with_front b (rest (source_of r))) begun ∙ ap (λ (s : S). with_front front (rest s)) sources ∙ ap (with_front front) told ∙ told_front front more

-- and four bytes tell which container that is
pub ahead_tells : {S : Type 0} (rest : S → Option (List ℕ)) (r : GroupReader S) (front : List ℕ) (webm : Bool) → begun_of r ≡ front → 4 ≤ length front → is_webm front ≡ webm
    → WhereTold (ahead rest r) (λ bytes. is_webm bytes ≡ webm)
ahead_tells rest r front webm begun long is = λ bytes told.
    let l = left_behind (begun_of r) (rest (source_of r)) bytes told in
    ap is_webm (l.2 ∙ ap (λ (xs : List ℕ). xs ++ l.0) begun) ∙ front_tells front l.0 long ∙ is
