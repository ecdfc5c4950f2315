-- Where items stand, and layouts in tables that are those over names.
use Rattle.std.proofs.Common.{◌≡◌, ℕ, ◌≤◌, true, false, List, ◌++◌, length, take, Ok, Err, refl, sym, ◌∙◌, ap, subst}
use Rattle.std.specs.List.{AllByRecursion}
use Rattle.dsde_sim_tree.specs.given.syntax.expr_Expr.{Expr}
use Rattle.dsde_sim_tree.specs.given.syntax.item_ViaPart.{ViaPart}
use Rattle.dsde_values.specs.declared.types.Field.{Field}
use Rattle.dsde_values.specs.declared.types.Types.{Types}
use Rattle.dsde_values.specs.declared.value.Value.{Value}
use Rattle.dsde_sim_tree.specs.given.language.known_Site.{Site}
use Rattle.dsde_sim_tree.specs.given.language.Judge.{judge}
use Rattle.dsde_sim_tree.specs.given.language.code_ViaCode.{ViaCode}
use Rattle.dsde_sim_tree.specs.given.language.Expressions.{resolve}
use Rattle.dsde_sim_tree.specs.given.language.DeclaredStructures.{Place}
use Rattle.dsde_sim_tree.specs.given.structure.plan_Entry.{Entry}
use Rattle.dsde_sim_tree.specs.given.language.Outcome.{Fault, Stuck, Outcome, ◌>>=◌}
use Rattle.dsde_sim_tree.specs.given.language.Meaning.{Function, mean}
use Rattle.dsde_sim_tree.specs.given.language.MeaningTables.{Coded, Part, means_in}
use Rattle.dsde_sim_tree.specs.given.language.Proper.{is_proper}
use Rattle.dsde_sim_tree.specs.given.language.Typed.{Sound, Fits, values_in}
use Rattle.dsde_sim_tree.specs.given.language.Agreement.{Agrees}
use Rattle.dsde_sound_names.specs.given.executive_plans.placed_PlacedLink.{PlacedLink}
use Rattle.dsde_sound_names.specs.given.executive_plans.Layout.{Layout}
use Rattle.dsde_sound_names.specs.given.executive_plans.Drafts.{Draft, Draw, draft_of}
use Rattle.dsde_sound_structures.proofs.Gets.{Gets}
use Rattle.dsde_sound_names.specs.given.sound_expressions.lemmas_Fitting.{fits-take, fits-length, values-take, values-size}

-- Where items stand: what is known there, in the file and in its tables, to a depth; and what components
-- and links are like.
pub record Ground : Type 1 where
  pub types : Types
  pub coded : Coded
  pub functions : List Function
  pub site : Site
  pub place : Place
  pub codes : List ViaCode
  pub written : List ViaPart
  pub depth : ℕ
  pub deep : 512 ≤ depth
  pub entry_is : Entry → Type 0
  pub link_is : PlacedLink → Type 0
  pub exprs : (e : Expr) → is_proper e ≡ true
      → Agrees types coded site.around.has_elapsed site.around.is_total (judge site.around e) (resolve place.known e) (mean place.known functions e)

-- what an expression comes to, by its number
abbrev pub part_in : Ground → Part
part_in g = (means_in g.coded g.depth).part

-- a layout by its slots
abbrev pub shown : Layout → Draft
shown layout = draft_of (values_in layout.vars) layout.entries layout.links

abbrev pub seen : Outcome Layout → Outcome Draft
seen (Ok after) = Ok (shown after)
seen (Err halt) = Err halt

module _ (g : Ground) where
  -- A layout has variables of these slots, and components and links of their kinds.
  pub record Kept (slots : List Field) (layout : Layout) : Type 0 where
    pub fits : Fits g.types layout.vars slots
    pub entries : AllByRecursion g.entry_is layout.entries
    pub links : AllByRecursion g.link_is layout.links

  -- What is meant leaves such a layout, or stops at a fault; and what is found is the same over slots.
  pub record Shows (slots : List Field) (meant : Outcome Layout) (found : Outcome Draft) : Type 0 where
    pub lands : Sound false (Kept slots) meant
    pub same : found ≡ seen meant

  pub shows-ok : (slots : List Field) (after : Layout) → Kept slots after → Shows slots (Ok after) (Ok (shown after))
  shows-ok slots after kept = record { lands = kept; same = refl }

  pub shows-at : (slots : List Field) (after : Layout) (draft : Draft) → draft ≡ shown after → Kept slots after → Shows slots (Ok after) (Ok draft)
  shows-at slots after draft is kept = record { lands = kept; same = ap (λ (d : Draft). Ok d) is }

  pub shows-by : (slots : List Field) (x : Outcome Layout) (y z : Outcome Draft) → y ≡ z → Shows slots x z → Shows slots x y
  shows-by slots x y z is here = record { lands = here.lands; same = is ∙ here.same }

  pub shows-then : (mid last : List Field) (x : Outcome Layout) (y : Outcome Draft) (f : Layout → Outcome Layout) (h : Draw)
      → Shows mid x y → ((after : Layout) → Kept mid after → Shows last (f after) (h (shown after))) → Shows last (x >>= f) (y >>= h)
  shows-then mid last (Ok after) y f h here next =
      let two = next after here.lands in
      record { lands = two.lands; same = ap (λ (o : Outcome Draft). o >>= h) here.same ∙ two.same }
  shows-then mid last (Err (Fault kind at)) y f h here next = record { lands = refl; same = ap (λ (o : Outcome Draft). o >>= h) here.same }
  shows-then mid last (Err Stuck) y f h here next = absurd here.lands

  pub shows-over : {A : Type 0} (P : A → Type 0) (slots : List Field) (m p : Outcome A) (f : A → Outcome Layout) (h : A → Outcome Draft)
      → Gets P m p → ((own : A) → P own → Shows slots (f own) (h own)) → Shows slots (m >>= f) (p >>= h)
  shows-over P slots (Ok own) p f h here next =
      let two = next own here.sound in
      record { lands = two.lands; same = ap (λ (o : Outcome _). o >>= h) here.same ∙ two.same }
  shows-over P slots (Err (Fault kind at)) p f h here next = record { lands = refl; same = ap (λ (o : Outcome _). o >>= h) here.same }
  shows-over P slots (Err Stuck) p f h here next = absurd here.sound

  -- what stands in braces, behind which there are the variables that there were before
  pub shows-cut : (slots more : List Field) (before : Layout) (x : Outcome Layout) (y : Outcome Draft) → Fits g.types before.vars slots → Shows (slots ++ more) x y
      → Shows slots (x >>= (λ after. Ok (record after { vars = take (length before.vars) after.vars })))
      (y >>= (λ after. Ok (record after { slots = take (length (shown before).slots) after.slots })))
  shows-cut slots more before x y fits here =
      shows-then (slots ++ more) slots x y _ _ here (λ after kept.
      shows-at slots (record after { vars = take (length before.vars) after.vars }) _
      (ap (λ (l : List Value). draft_of l after.entries after.links)
      (ap (λ (n : ℕ). take n (values_in after.vars)) (values-size before.vars) ∙ values-take (length before.vars) after.vars))
      (record {
        fits = subst (λ (n : ℕ). Fits g.types (take n after.vars) slots) (sym (fits-length g.types before.vars slots fits)) (fits-take g.types slots more after.vars kept.fits);
        entries = kept.entries;
        links = kept.links;
      }))
