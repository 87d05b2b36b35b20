-- The headers of drawn frames, and what persists behind them.
use Rattle.std.proofs.Common.{◌≡◌, ◌∙◌, ℕ, List, [], ◌++◌, Bool, true, false, refl, sym, ap, subst}
use Rattle.std.specs.Prelude.{Ok}
use Rattle.std.proofs.lemmas.List.{append-nil}
use Rattle.frame_headers.specs.Header.{head_of}
use Rattle.frame_headers.specs.declared.header.FrameHead.TheVariants as head
use Rattle.frame_headers.specs.declared.header.Header.{Header}
use Rattle.frame_headers.specs.declared.header.Uncompressed.{Uncompressed}
use Rattle.frame_headers.specs.declared.header.Uncompressed.TheVariants.{ShowExisting, Coded}
use Rattle.frame_headers.specs.declared.persist.Persist.{Persist}
use Rattle.header_writer.specs.HeaderReads.{HoldsHeader}
use Rattle.header_writer.specs.Spelling.{IsSpelled}
use Rattle.header_writer.specs.declared.choices.Choices.{Choices}
use Rattle.drawn_frames.specs.Heads.{draw_coded, draw_head}
use Rattle.drawn_frames.specs.MadeFrames.{IsMade}
use Rattle.seq_decoder.specs.After.{Stepped, step}
use Rattle.seq_decoder.specs.DecoderState.{State, persist_of}
use Rattle.seq_decoder.proofs.Slots.{coded_persists, shown_stays}
use Rattle.stream_forge.specs.Code.{IsMadeAfter}
use Rattle.stream_forge.specs.FileReads.{IsFrameOf}
use Rattle.drawn_frames.specs.frame_writer.FrameBytes.{header_bytes}
use Rattle.drawn_frames.specs.frame_writer.Code.{IsBytes}
use Rattle.drawn_frames.proofs.of_frame_writer.OneBytes.{header_are}

shown_alone : (items old bytes : List ℕ) → items ≡ old ++ bytes → old ≡ [] → items ≡ bytes
shown_alone items old bytes is none = is ∙ ap (λ l. l ++ bytes) none

pub shown_read : (before : Persist) (slot : ℕ) (items old bytes : List ℕ) → items ≡ old ++ bytes → old ≡ [] → HoldsHeader before (ShowExisting slot) bytes → head_of before items ≡ Ok (head.ShowExisting slot)
shown_read before slot items old bytes is none holds = ap (head_of before) (shown_alone items old bytes is none ∙ sym (append-nil bytes)) ∙ holds.head []

pub shown_spelled : (before : Persist) (choices : Choices) (slot : ℕ) (items old bytes : List ℕ) → items ≡ old ++ bytes → old ≡ [] → IsBytes items → IsSpelled before choices (ShowExisting slot) bytes
    → items ≡ header_bytes before choices (ShowExisting slot)
shown_spelled before choices slot items old bytes is none low spelled =
    header_are before choices (ShowExisting slot) items (subst (λ items. IsSpelled before choices (ShowExisting slot) items) (sym (shown_alone items old bytes is none)) spelled) low

apart : (header : Header) (slot : ℕ) → Coded header ≡ ShowExisting slot → ⊥
apart header slot is = cc

-- the first frame isn't shown again
not_first : (before : Persist) (x slot : ℕ) → (draw_head true before x).0.header ≡ ShowExisting slot → ⊥
unfolding draw_head draw_coded
not_first before x slot is = apart _ slot is

pub shown_after : (first : Bool) (before : Persist) (x slot : ℕ) → (first ≡ false → IsMade before) → (draw_head first before x).0.header ≡ ShowExisting slot → IsMadeAfter (draw_head first before x).0.header before
shown_after true before x slot made is = absurd (not_first before x slot is)
shown_after false before x slot made is = rw is (made refl)

by_head : (number : ℕ) (state : State) (choices : Choices) (header : Uncompressed) (x next : ℕ) (bytes : List ℕ) (stepped : Stepped) → IsFrameOf state choices header x bytes next → step number state bytes ≡ Ok stepped
    → IsMadeAfter header (persist_of state) → IsMade (persist_of stepped.state)
by_head number state choices (ShowExisting slot) x next bytes stepped f steps made = rw (shown_stays number state bytes slot stepped f.0 steps) made
by_head number state choices (Coded header) x next bytes stepped f steps made = rw (coded_persists number state bytes _ f.compressed stepped f.head steps) made

pub made_next : (number : ℕ) (state : State) (choices : Choices) (header : Uncompressed) (x next : ℕ) (bytes : List ℕ) (stepped : Stepped) (old new : Persist) → old ≡ persist_of state → new ≡ persist_of stepped.state
    → IsFrameOf state choices header x bytes next → step number state bytes ≡ Ok stepped → IsMadeAfter header old → IsMade new
made_next number state choices header x next bytes stepped old new before behind f steps made =
    rw behind (by_head number state choices header x next bytes stepped f steps (subst (IsMadeAfter header) before made))
