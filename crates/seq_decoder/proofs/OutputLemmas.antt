-- What is written of a run, where all of its frames can be put and each is put as it would be alone.
use Rattle.std.proofs.Common.{◌≡◌, ◌∙◌, ℕ, ◌+◌, Bool, true, List, [], ◌∷◌, ap, refl}
use Rattle.std.specs.Prelude.{Option, Some, None, Result, Ok, Err, if◌then◌else◌}
use Rattle.vp9_types.specs.declared.rule.Rule.{Rule}
use Rattle.vp9_types.specs.declared.rule.Rule.TheVariants.{OutputShape}
use Rattle.vp9_types.specs.declared.shape.Shape.{Shape}
use Rattle.file_frames.specs.Walks.{Walked, adding, followed, walk_from}
use Rattle.frame_output.specs.Formats.{output_text}
use Rattle.frame_output.specs.declared.rendering.Format.{Format}
use Rattle.seq_decoder.specs.After.{Stepped, step}
use Rattle.seq_decoder.specs.Outputs.{Putting, fits_format, first_of, is_first, put, putting}
use Rattle.seq_decoder.specs.Runs.{Run, added_picture, decoding, shown_list, texts_of}
use Rattle.seq_decoder.specs.DecoderState.{Picture, State}
use Rattle.seq_decoder.specs.declared.form.OutputForm.{OutputForm}

abbrev Text : Type 0
Text = Picture → List ℕ

-- each picture is put as this text, whatever was put before
abbrev AreAlone : Format → Text → Type 0
AreAlone format text = (rate : ℕ × ℕ) (first : Bool) (picture : Picture) → output_text format rate first picture.shape picture.map ≡ text picture

abbrev AllFit : Format → Type 0
AllFit format = (first : Option Shape) (shape : Shape) → fits_format format first shape ≡ true

module _ (format : Format) (text : Text) (alone : AreAlone format text) (all : AllFit format) (rate : ℕ × ℕ) where
  abbrev form : Option Shape → OutputForm
  form first = record { format = format; rate = rate; first = first }

  abbrev at : State → Option Shape → Putting
  at state first = record { state = state; form = form first }

  abbrev Follows : (State → Option Shape → Walked ℕ Rule) → (State → Run) → Type 0
  Follows put_on run_on = (state : State) (first : Option Shape) → put_on state first ≡ texts_of text (run_on state)

  picture_put : (first : Option Shape) (state : State) (picture : Picture)
      → put (form first) (Ok (record { state = state; shown = Some picture })) ≡ Ok (record { state = at state (Some (first_of first picture.shape)); adds = text picture })
  picture_put first state picture =
      ap (λ b. if b then Ok (record { state = at state (Some (first_of first picture.shape)); adds = output_text format rate (is_first first) picture.shape picture.map }) else Err OutputShape) (all first picture.shape)
      ∙ ap (λ t. Ok (record { state = at state (Some (first_of first picture.shape)); adds = t })) (alone rate (is_first first) picture)

  one_more : (number : ℕ) (first : Option Shape) (r : Result Stepped Rule) (put_on : Putting → Walked ℕ Rule) (run_on : State → Run)
      → Follows (λ state first. put_on (at state first)) run_on → followed number (put (form first) r) put_on ≡ texts_of text (followed number (added_picture r) run_on)
  one_more number first (Err rule) put_on run_on h = refl
  one_more number first (Ok stepped) put_on run_on h = by_shown stepped.state stepped.shown
    where
      by_shown : (state : State) (shown : Option Picture)
          → followed number (put (form first) (Ok (record { state = state; shown = shown }))) put_on ≡ texts_of text (adding (shown_list shown) (run_on state))
      by_shown state None = ap (adding []) (h state first)
      by_shown state (Some picture) =
          ap (λ p. followed number p put_on) (picture_put first state picture)
          ∙ ap (adding (text picture)) (h state (Some (first_of first picture.shape)))

  pub output_follows : (base : OutputForm) (frames : List (List ℕ)) (number : ℕ) (ending : Option Rule)
      → Follows (λ state first. walk_from (putting base) number (at state first) frames ending) (λ state. walk_from decoding number state frames ending)
  output_follows base [] number None state first = refl
  output_follows base [] number (Some rule) state first = refl
  output_follows base (frame ∷ frames) number ending state first =
      one_more number first (step number state frame) (λ p. walk_from (putting base) (number + 1) p frames ending) (λ s. walk_from decoding (number + 1) s frames ending)
      (output_follows base frames (number + 1) ending)
