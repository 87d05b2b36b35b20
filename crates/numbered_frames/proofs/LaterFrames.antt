-- What comes behind the frames of a film changes nothing of them.
use Rattle.std.proofs.Common.{◌≡◌, ◌<◌, ◌≤◌, ℕ, zero, suc, List, [], ◌∷◌, ◌++◌, length, ap, refl, ◌∙◌, arith}
use Rattle.std.specs.Prelude.{Some, slice_get}
use Rattle.frame_output.specs.declared.rendering.Format.{Format}
use Rattle.seq_decoder.specs.Outputs.{form_from}
use Rattle.seq_decoder.specs.DecoderState.{start_state}
use Rattle.numbered_frames.specs.Coded.{coded, coded_from}
use Rattle.numbered_frames.specs.Films.{Film, GoesOn}
use Rattle.numbered_frames.specs.FrameNumbers.{before, after_frame, frame_at, text, text_from}
use Rattle.numbered_frames.specs.NumberedPictures.{picture_from, pictures}

got_in_front : {X : Type 0} (xs ys : List X) (k : ℕ) → k < length xs → slice_get (xs ++ ys) k ≡ slice_get xs k
got_in_front [] ys k low = absurd (omega (arith, low))
got_in_front (x ∷ xs) ys zero low = refl
got_in_front (x ∷ xs) ys (suc k) low = got_in_front xs ys k (omega (arith, low))

pub frame_same : (film more : Film) (f : ℕ) → GoesOn film more → f < length film.frames → frame_at more f ≡ frame_at film f
frame_same film more f h low = ap (λ (xs : List (List ℕ)). slice_get xs f) h.frames ∙ got_in_front film.frames h.behind f low

pub before_same : (format : Format) (film more : Film) (f : ℕ) → GoesOn film more → f ≤ length film.frames → before format more f ≡ before format film f
unfolding before
before_same format film more zero h low = ap (λ (rate : ℕ × ℕ). Some (record { state = start_state; form = form_from format rate })) h.rate
before_same format film more (suc f) h low =
    (λ i. after_frame f (before_same format film more f h (omega (arith, low)) i) (frame_same film more f h (omega (arith, low)) i))

pub coded_same : (format : Format) (film more : Film) (f : ℕ) → GoesOn film more → f < length film.frames → coded format more f ≡ coded format film f
unfolding coded
coded_same format film more f h low = (λ i. coded_from (before_same format film more f h (omega (arith, low)) i) (frame_same film more f h low i))

pub text_same : (format : Format) (film more : Film) (f : ℕ) → GoesOn film more → f < length film.frames → text format more f ≡ text format film f
unfolding text
text_same format film more f h low = (λ i. text_from f (before_same format film more f h (omega (arith, low)) i) (frame_same film more f h low i))

pub pictures_same : (format : Format) (film more : Film) (f : ℕ) → GoesOn film more → f < length film.frames → pictures format more f ≡ pictures format film f
unfolding pictures
pictures_same format film more f h low = ap picture_from (coded_same format film more f h low)
