-- The frames that are kept, one more of them looked at.
use Rattle.std.proofs.Common.{arith, ◌≡◌, ◌∙◌, ℕ, ◌+◌, ◌<◌, Bool, true, false, List, [], ◌∷◌, ◌++◌, length, map, take, get_or, Option, ap, sym, refl, if◌then◌else◌}
use Rattle.std.proofs.lemmas.List.{append-nil, map-append, map_push, take_more}
use Rattle.std.proofs.lemmas.List.Elements.{filter-append}
use Rattle.job_crew.specs.Code.{is_named, mapped, kept, narrowed}

-- one frame behind others
one_behind : (live : List (Option ℕ)) (frames : List ℕ) (frame : ℕ) (named : Bool) → is_named live frame ≡ named
    → kept live (frames ++ frame ∷ []) ≡ kept live frames ++ (if named then frame ∷ [] else [])
one_behind live frames frame true e = filter-append (is_named live) frames (frame ∷ []) ∙ ap (λ l. kept live frames ++ l) (rw e refl)
one_behind live frames frame false e = filter-append (is_named live) frames (frame ∷ []) ∙ ap (λ l. kept live frames ++ l) (rw e refl)

module _ {A : Type 0} (number : A → ℕ) where
  looked : (live : List (Option ℕ)) (before : List A) (at : ℕ) (d : A) → at < length before → (named : Bool) → is_named live (number (get_or before at d)) ≡ named
      → kept live (map number (take (at + 1) before)) ≡ kept live (map number (take at before)) ++ (if named then number (get_or before at d) ∷ [] else [])
  looked live before at d inside named e =
      ap (λ l. kept live (map number l)) (take_more before at d inside)
      ∙ (ap (kept live) (map-append number (take at before) (get_or before at d ∷ [])) ∙ one_behind live (map number (take at before)) (number (get_or before at d)) named e)

  at_place : (live : List (Option ℕ)) (before : List A) (at : ℕ) (y : A) (named : Bool) → at < length before → y ≡ get_or before at y → is_named live (number y) ≡ named
      → kept live (map number (take (at + 1) before)) ≡ kept live (map number (take at before)) ++ (if named then number y ∷ [] else [])
  at_place live before at y named inside is e =
      looked live before at y inside named (ap (λ z. is_named live (number z)) (sym is) ∙ e)
      ∙ ap (λ z. kept live (map number (take at before)) ++ (if named then number z ∷ [] else [])) (sym is)

  -- the one at the place is named, and put behind those that are kept
  pub is_kept : (live : List (Option ℕ)) (before cells new : List A) (at first : ℕ) (x y : A) → at < length before → y ≡ get_or before at y → number x ≡ number y
      → is_named live (number y) ≡ true → new ≡ cells ++ x ∷ [] → mapped cells number ≡ first ∷ kept live (mapped (take at before) number)
      → mapped new number ≡ first ∷ kept live (mapped (take (at + 1) before) number)
  is_kept live before cells new at first x y inside is same named put so =
      ap (map number) put
      ∙ (map_push number cells x
      ∙ (ap (λ l. l ++ number x ∷ []) so
      ∙ (ap (λ n. (first ∷ kept live (map number (take at before))) ++ n ∷ []) same ∙ ap (λ l. first ∷ l) (sym (at_place live before at y true inside is named)))))

  -- it isn't, and nothing changes
  pub is_let_go : (live : List (Option ℕ)) (before cells : List A) (at first : ℕ) (y : A) → at < length before → y ≡ get_or before at y → is_named live (number y) ≡ false
      → mapped cells number ≡ first ∷ kept live (mapped (take at before) number) → mapped cells number ≡ first ∷ kept live (mapped (take (at + 1) before) number)
  is_let_go live before cells at first y inside is named so =
      so ∙ ap (λ l. first ∷ l) (sym (at_place live before at y false inside is named ∙ append-nil (kept live (map number (take at before)))))

-- where there are none
pub narrowed_none : {A : Type 0} (named : List (Option ℕ)) (xs : List A) (f : A → ℕ) → length xs ≡ 0 → [] ≡ narrowed named (mapped xs f)
unfolding narrowed
narrowed_none named [] f none = refl
narrowed_none named (x ∷ xs) f none = absurd (omega (arith, none))
