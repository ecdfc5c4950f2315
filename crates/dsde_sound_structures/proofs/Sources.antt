-- What links carry from, where it fits.
use Rattle.std.proofs.Common.{◌≡◌, ℕ, zero, suc, Bool, true, false, cond, List, [], ◌∷◌, Option, Some, slice_index_or, refl, ◌∙◌, ap, subst}
use Rattle.std.specs.declared.cmp.Ordering.TheVariants.{Equal}
use Rattle.std.specs.List.{AllByRecursion}
use Rattle.dsde_sim_tree.specs.given.syntax.decl_Model.{Model}
use Rattle.dsde_values.specs.declared.name.Name.{Name}
use Rattle.dsde_values.specs.declared.types.Field.{Field}
use Rattle.dsde_values.specs.declared.types.Ty.{Ty}
use Rattle.dsde_values.specs.declared.types.Types.{Types}
use Rattle.dsde_values.specs.Path.{name_cmp}
use Rattle.dsde_sim_tree.specs.given.language.DeclaredModels.{types_of, Own}
use Rattle.dsde_sim_tree.specs.given.structure.plan_Entry.{Entry}
use Rattle.dsde_sim_tree.specs.given.structure.plan_Link.{Link}
use Rattle.dsde_sim_tree.specs.given.structure.plan_Part.{Part}
use Rattle.dsde_sim_tree.specs.given.structure.plan_Part_TheVariants as part
use Rattle.dsde_sim_tree.specs.given.structure.sources_Given.{Given}
use Rattle.dsde_sim_tree.specs.given.structure.sources_Sources.{Sources}
use Rattle.dsde_sim_tree.specs.given.structure.Gather.{Ports, from_part, is_same_name, sent_by}
use Rattle.dsde_sim_tree.specs.given.structure.Survival.{IsInOrder}
use Rattle.dsde_system.specs.Fitting.{AreOf, Reach}
use Rattle.dsde_system.specs.Plans.{ArePortsOf, Cover, FitsGiven, FitsLink, FitsSources, HasKid, HasPort}
use Rattle.dsde_sound_structures.specs.Carrying.{Carries}
use Rattle.dsde_sound_structures.proofs.LinkNaming.{kid-ports, one-name}

pub some-field : (a b : Field) → (let r : Option Field = Some a in r) ≡ Some b → a ≡ b
some-field a b e = cc

module _ (types : Types) where
  -- the values at a port have its type
  pub cover-at : (ports : List Field) (got : Ports) (port : ℕ) (ty : Ty) → Cover types ports got → HasPort ports port ty → AreOf types ty (slice_index_or got port [])
  cover-at ports [] port ty cover has = tt
  cover-at [] (values ∷ got) port ty cover has = absurd cover
  cover-at (first ∷ ports) (values ∷ got) zero ty cover has =
      subst (λ (t : Ty). AreOf types t values) (ap (λ (f : Field). f.ty) (some-field first has.field has.found) ∙ has.is) cover.0
  cover-at (first ∷ ports) (values ∷ got) (suc port) ty cover has = cover-at ports got port ty cover.1 (record { field = has.field; found = has.found; is = has.is })

  pub reach-covers : (ports : List Field) (got : Ports) → Reach types ports got → Cover types ports got
  reach-covers [] [] reach = tt
  reach-covers (port ∷ ports) (values ∷ got) reach = (reach.0, reach-covers ports got reach.1)
  reach-covers [] (values ∷ got) reach = absurd reach
  reach-covers (port ∷ ports) [] reach = tt

module _ (one : (name other : Name) → name_cmp name other ≡ Equal → name ≡ other) (model : Model) (own : Own) (entries : List Entry) (order : IsInOrder entries) where
  sent-one : (b : Bool) (name : Name) (ports : List Field) (given : Given) (later : Ports) → is_same_name given.name name ≡ b → FitsGiven model entries given → HasKid model entries name true ports
      → Cover (types_of model) ports later → Cover (types_of model) ports (cond b given.ports later)
  sent-one true name ports given later is fits kid cover =
      subst (λ (l : List Field). Cover (types_of model) l given.ports) (kid-ports one model own entries order given.name name true fits.ports ports (one-name one model own entries order given.name name is) fits.are kid) fits.cover
  sent-one false name ports given later is fits kid cover = cover

  -- what a component sends
  sent-cover : (name : Name) (ports : List Field) (givens : List Given) → AllByRecursion (FitsGiven model entries) givens → HasKid model entries name true ports → Cover (types_of model) ports (sent_by givens name)
  sent-cover name ports [] fit kid = tt
  sent-cover name ports (given ∷ others) fit kid =
      sent-one (is_same_name given.name name) name ports given (sent_by others name) refl fit.0 kid (sent-cover name ports others fit.1 kid)

  module _ (sources : Sources) (fit : FitsSources model own entries sources) where
    -- what a part that links carry from gives
    pub source-cover : (from : Part) (ports : List Field) → ArePortsOf model own entries true from ports → Cover (types_of model) ports (from_part sources from)
    source-cover part.Net ports are = subst (λ (l : List Field). Cover (types_of model) l sources.net) are fit.net
    source-cover part.Boss ports are = subst (λ (l : List Field). Cover (types_of model) l sources.boss) are fit.boss
    source-cover (part.Kid name) ports are = sent-cover name ports sources.kids fit.kids are

    abbrev pub link-carries : (link : Link) → FitsLink model own entries link → Carries model sources link
    link-carries link fits = record {
      source = fits.source;
      target = fits.target;
      joins = fits.joins;
      values = cover-at (types_of model) fits.from.ports (from_part sources link.from.part) link.from.port fits.source (source-cover link.from.part fits.from.ports fits.from.are) fits.from.has;
    }

    pub links-carry : (links : List Link) → AllByRecursion (FitsLink model own entries) links → AllByRecursion (Carries model sources) links
    links-carry [] all = tt
    links-carry (link ∷ links) all = (link-carries link all.0, links-carry links all.1)
