-- Layouts of a structure, whose variables fit what is seen and whose components have names that are allowed.
use Rattle.std.proofs.Common.{◌≡◌, ℕ, nat_lt, Bool, true, false, if◌then◌else◌, List, [], ◌∷◌, ◌++◌, length, take, Ok, Err, refl, sym, subst, is_lt}
use Rattle.dsde_syntax.specs.declared.expr.Expr.{Expr}
use Rattle.dsde_values.specs.declared.types.Field.{Field}
use Rattle.dsde_values.specs.declared.types.Types.{Types}
use Rattle.dsde_values.specs.declared.value.Value.{Value}
use Rattle.dsde_values.specs.Path.{name_cmp}
use Rattle.dsde_faults.specs.declared.kind.FaultKind.TheVariants.{DuplicateComponent, Crowded}
use Rattle.dsde_language.specs.declared.known.Site.{Site}
use Rattle.dsde_language.specs.declared.seen.Seen.{Seen}
use Rattle.dsde_language.specs.Judge.{judge}
use Rattle.dsde_language.specs.Judge as rules
use Rattle.dsde_language.specs.DeclaredStructures.{Place}
use Rattle.dsde_sim_movers.specs.given.structure.plan_Entry.{Entry}
use Rattle.dsde_language.specs.Outcome.{Fault, Outcome, ◌>>=◌}
use Rattle.dsde_language.specs.Meaning.{Function, Vars, mean}
use Rattle.dsde_language.specs.Proper.{is_proper}
use Rattle.dsde_language.specs.Scopes.{Sees}
use Rattle.dsde_language.specs.Typed.{Typed, Fits}
use Rattle.dsde_sound_structures.specs.given.executive_plans.Layout.{Layout, most, inserted, is_there, with_entry}
use Rattle.dsde_sound_expressions.specs.lemmas.Fitting.{fits-take, fits-length}
use Rattle.dsde_image_rows.specs.Named.{AreAllowed, IsAllowed}

-- What came to an end behind a step came behind what that step came to.
pub bound : {A B : Type 0} (P : Type 0) (found : Outcome A) (next : A → Outcome B) (last : B) → (found >>= next) ≡ Ok last → ((value : A) → found ≡ Ok value → next value ≡ Ok last → P) → P
bound P (Ok value) next last is each = each value refl is
bound P (Err halt) next last is each = cc

-- Where items stand: what is known there, and expressions that have their types.
pub record Ground : Type 0 where
  pub types : Types
  pub functions : List Function
  pub site : Site
  pub place : Place
  pub exprs : (e : Expr) (scope : rules.Scope) (slots : List Field) (found : Seen) (vars : Vars) (value : Value) → is_proper e ≡ true → judge site.around e scope ≡ Ok found
      → Sees site.around.has_elapsed scope slots → Fits types vars slots → mean place.known functions e vars ≡ Ok value → Typed types found.ty value

abbrev layout_ok : Layout → Outcome Layout
layout_ok layout = Ok layout

the-layout : (one other : Layout) → layout_ok one ≡ Ok other → one ≡ other
the-layout one other is = cc

module _ (g : Ground) where
  -- The variables of a layout are those of slots, and its components have allowed names.
  pub record Kept (slots : List Field) (layout : Layout) : Type 0 where
    pub fits : Fits g.types layout.vars slots
    pub entries : AreAllowed layout.entries

  -- one layout that is another
  pub as-in : (slots : List Field) (one other : Layout) → layout_ok one ≡ Ok other → Kept slots one → Kept slots other
  as-in slots one other is kept = subst (Kept slots) (the-layout one other is) kept

  -- the variables that there were before braces
  pub cut-kept : (slots last more : List Field) → last ≡ slots ++ more → (before mid : Layout) → Fits g.types before.vars slots → Kept last mid → Kept slots (record mid { vars = take (length before.vars) mid.vars })
  cut-kept slots last more grows before mid fits kept = record {
    fits = subst (λ (n : ℕ). Fits g.types (take n mid.vars) slots) (sym (fits-length g.types before.vars slots fits))
        (fits-take g.types slots more mid.vars (subst (λ (l : List Field). Fits g.types mid.vars l) grows kept.fits));
    entries = kept.entries;
  }

-- ---- one more component

inserted-by : (entry other : Entry) (entries : List Entry) (here : Bool) → IsAllowed entry.name → IsAllowed other.name → AreAllowed entries → AreAllowed (inserted entry entries) →
    AreAllowed (if here then entry ∷ other ∷ entries else other ∷ inserted entry entries)
inserted-by entry other entries true own is all rest = (own, (is, all))
inserted-by entry other entries false own is all rest = (is, rest)

inserted-allowed : (entry : Entry) (entries : List Entry) → IsAllowed entry.name → AreAllowed entries → AreAllowed (inserted entry entries)
inserted-allowed entry [] own all = (own, tt)
inserted-allowed entry (other ∷ entries) own all = inserted-by entry other entries (is_lt (name_cmp entry.name other.name)) own all.0 all.1 (inserted-allowed entry entries own all.1)

abbrev entries_ok : List Entry → Outcome (List Entry)
entries_ok entries = Ok entries

the-entries : (one other : List Entry) → entries_ok one ≡ Ok other → one ≡ other
the-entries one other is = cc

entry-at : (there room : Bool) (at : ℕ) (entry : Entry) (before after : List Entry) → IsAllowed entry.name → AreAllowed before
    → (if there then Err (Fault DuplicateComponent at) else if room then entries_ok (inserted entry before) else Err (Fault Crowded at)) ≡ Ok after → AreAllowed after
entry-at true room at entry before after own all is = cc
entry-at false true at entry before after own all is = subst AreAllowed (the-entries (inserted entry before) after is) (inserted-allowed entry before own all)
entry-at false false at entry before after own all is = cc

pub entry-keeps : (at : ℕ) (entry : Entry) (before after : List Entry) → IsAllowed entry.name → AreAllowed before → with_entry at entry before ≡ Ok after → AreAllowed after
entry-keeps at entry before after own all is = entry-at (is_there entry.name before) (nat_lt (length before) most) at entry before after own all is
