-- Flows over slots that are those over names, and leave variables of these slots.
use Rattle.std.proofs.Common.{◌≡◌, ℕ, Bool, true, false, if◌then◌else◌, List, ◌++◌, take, length, Ok, Err, refl, sym, ◌∙◌, ap, subst}
use Rattle.dsde_language.specs.given.values.types_Field.{Field}
use Rattle.dsde_language.specs.given.values.types_Types.{Types}
use Rattle.dsde_language.specs.given.values.value_Value.{Value}
use Rattle.dsde_language.specs.Outcome.{Fault, Stuck, Outcome, ◌>>=◌}
use Rattle.dsde_language.specs.Flow.{Flow, stopped, over, inside}
use Rattle.dsde_language.specs.Meaning.{Scene, Walk, cut_vars}
use Rattle.dsde_language.specs.MeaningTables.{State, state_of, cut}
use Rattle.dsde_language.specs.Typed.{Sound, Fits, AllSent, Lands, shown, seen}
use Rattle.dsde_sound_expressions.specs.lemmas.Fitting.{fits-take, fits-length, values-take, values-size}

module _ (types : Types) (outs : List Field) where
  -- What is meant leaves variables of these slots, or stops at a fault; and what is found is the same over slots, where this holds.
  pub record Shows (If : Type 0) (slots : List Field) (meant : Flow Scene Scene) (found : Flow State State) : Type 0 where
    pub lands : Lands types outs slots meant
    pub same : If → found ≡ seen meant

  pub shows-ok : (If : Type 0) (slots : List Field) (after : Scene) → Fits types after.vars slots → AllSent types outs after.sends → Shows If slots (Ok after) (Ok (shown after))
  shows-ok If slots after fits sent = record { lands = (fits, sent); same = λ h. refl }

  pub shows-at : (If : Type 0) (slots : List Field) (after : Scene) (state : State) → state ≡ shown after → Fits types after.vars slots → AllSent types outs after.sends → Shows If slots (Ok after) (Ok state)
  shows-at If slots after state is fits sent = record { lands = (fits, sent); same = λ h. ap (λ (s : State). Ok s) is }

  pub shows-where : (If More : Type 0) (slots : List Field) (x : Flow Scene Scene) (y : Flow State State) → Shows If slots x y → (More → If) → Shows More slots x y
  shows-where If More slots x y here so = record { lands = here.lands; same = λ h. here.same (so h) }

  pub shows-then : (If : Type 0) (mid last : List Field) (x : Flow Scene Scene) (y : Flow State State) (f : Walk) (g : State → Flow State State)
      → Shows If mid x y → ((after : Scene) → Fits types after.vars mid → AllSent types outs after.sends → Shows If last (f after) (g (shown after))) → Shows If last (x >>= f) (y >>= g)
  shows-then If mid last (Ok after) y f g here next =
      let two = next after here.lands.0 here.lands.1 in
      record { lands = two.lands; same = λ h. ap (λ (o : Flow State State). o >>= g) (here.same h) ∙ two.same h }
  shows-then If mid last (Err end) y f g here next =
      record { lands = here.lands; same = λ h. ap (λ (o : Flow State State). o >>= g) (here.same h) }

  pub shows-over : {A : Type 0} (If : Type 0) (total : Bool) (P : A → Type 0) (slots : List Field) (before : Scene) (m p : Outcome A) (f : A → Flow Scene Scene) (g : A → Flow State State)
      → Sound total P m → (If → p ≡ m) → AllSent types outs before.sends → ((own : A) → P own → Shows If slots (f own) (g own))
      → Shows If slots (over before m >>= f) (over (shown before) p >>= g)
  shows-over If total P slots before (Ok own) p f g sound is sent next =
      let two = next own sound in
      record { lands = two.lands; same = λ h. ap (λ (o : Outcome _). over (shown before) o >>= g) (is h) ∙ two.same h }
  shows-over If total P slots before (Err (Fault kind at)) p f g sound is sent next =
      record { lands = (tt, sent); same = λ h. ap (λ (o : Outcome _). over (shown before) o >>= g) (is h) }
  shows-over If total P slots before (Err Stuck) p f g sound is sent next = absurd sound

  pub shows-if : (If : Type 0) (slots : List Field) (b : Bool) (x y : Flow Scene Scene) (z w : Flow State State) → Shows If slots x z → Shows If slots y w
      → Shows If slots (if b then x else y) (if b then z else w)
  shows-if If slots true x y z w here there = here
  shows-if If slots false x y z w here there = there

  cut-shown : (size : ℕ) (after : Scene) → cut size (shown after) ≡ shown (cut_vars size after)
  cut-shown size after = ap (λ (l : List Value). state_of l after.sends) (values-take size after.vars)

  -- what stands in braces, behind which there are the variables that there were before
  pub shows-inside : (If : Type 0) (slots more : List Field) (size : ℕ) (x : Flow Scene Scene) (y : Flow State State)
      → size ≡ length slots → Shows If (slots ++ more) x y → Shows If slots (inside (cut_vars size) x) (inside (cut size) y)
  shows-inside If slots more size (Ok after) y is here = record {
    lands = (subst (λ (n : ℕ). Fits types (take n after.vars) slots) (sym is) (fits-take types slots more after.vars here.lands.0), here.lands.1);
    same = λ h. ap (λ (o : Flow State State). inside (cut size) o) (here.same h) ∙ ap (λ (s : State). Ok s) (cut-shown size after);
  }
  shows-inside If slots more size (Err end) y is here = record {
    lands = here.lands;
    same = λ h. ap (λ (o : Flow State State). inside (cut size) o) (here.same h) ∙ ap (λ (s : State). stopped s end.halt) (cut-shown size end.state);
  }

  -- The same where there are as many slots as variables.
  pub shows-braces : (If : Type 0) (slots more : List Field) (before : Scene) (x : Flow Scene Scene) (y : Flow State State)
      → Fits types before.vars slots → Shows If (slots ++ more) x y
      → Shows If slots (inside (cut_vars (length before.vars)) x) (inside (cut (length (shown before).slots)) y)
  shows-braces If slots more before x y fits here =
      subst (λ (n : ℕ). Shows If slots (inside (cut_vars (length before.vars)) x) (inside (cut n) y)) (sym (values-size before.vars))
      (shows-inside If slots more (length before.vars) x y (fits-length types before.vars slots fits) here)
