-- Parts of a tree that stand, and how a network stands of its parts.
use Rattle.std.proofs.Common.{◌≡◌, ◌⊎◌, ℕ, suc, ◌≤◌, Bool, true, false, List, [], ◌∷◌, ◌++◌, map, refl, sym, ap, subst, ◌∙◌, inl, inr, arith}
use Rattle.std.specs.Prelude.{Ok}
use Rattle.std.specs.List.{AllByRecursion, flat_map}
use Rattle.dsde_values.specs.declared.value.Value.{Value}
use Rattle.dsde_sim_tree.specs.given.language.ids_ModelId.{ModelId}
use Rattle.dsde_sim_tree.specs.given.formalism.leaf_Leaf.{Leaf}
use Rattle.dsde_sim_tree.specs.given.formalism.System.{System}
use Rattle.dsde_sim_tree.specs.given.structure.plan_Entry.{Entry}
use Rattle.dsde_sim_tree.specs.given.structure.plan_Link.{Link}
use Rattle.dsde_sim_tree.specs.given.structure.plan_Plan.{Plan}
use Rattle.dsde_sim_tree.specs.declared.sim.Kid.{Kid}
use Rattle.dsde_sim_tree.specs.declared.sim.Sim.{Sim}
use Rattle.dsde_sim_tree.specs.declared.sim.Sim.TheVariants as sim
use Rattle.dsde_sim_tree.specs.declared.sim.Sim.TheViews.{out-Kid, out-Net, out-roll-Kid, out-roll-Net}
use Rattle.dsde_sim_tree.specs.Opened.{spots-Leaf, spots-Net, spots-net, spots-kid}
use Rattle.dsde_sim_tree.specs.Spots.{spots_of_kid, shape_of}
use Rattle.dsde_sim_tree.specs.Start.{kid_of, net_of}
use Rattle.dsde_sim_tree.specs.Tree.{model_of, args_of, entry_of}
use Rattle.dsde_sim_movers.specs.Stands.{deepest, depth_of_kid, StandsLeaf, StandsSpot, StandsIn, StayAs, HasPlan}
use Rattle.dsde_sim_movers.specs.lemmas.Opened.{depth-Leaf, depth-Net, depth-kid, model-Leaf, args-Leaf, model-Net, args-Net}
use Rattle.dsde_sim_tree.specs.given.structure.Survival.{StaysAs}

all-join : {A : Type 0} (P : A → Type 0) (xs ys : List A) → AllByRecursion P xs → AllByRecursion P ys → AllByRecursion P (xs ++ ys)
all-join P [] ys first later = later
all-join P (x ∷ xs) ys first later = (first.0, all-join P xs ys first.1 later)

pub all-behind : {A : Type 0} (P : A → Type 0) (xs : List A) (x : A) → AllByRecursion P xs → P x → AllByRecursion P (xs ++ x ∷ [])
all-behind P xs x first own = all-join P xs (x ∷ []) first (own, tt)

pub map-behind : {A B : Type 0} (f : A → B) (xs : List A) (x : A) → map f (xs ++ x ∷ []) ≡ map f xs ++ f x ∷ []
map-behind f [] x = refl
map-behind f (y ∷ xs) x = ap (λ rest. f y ∷ rest) (map-behind f xs x)

-- ---- components that stay as entries

stay-behind : (olds news : List Entry) (old new : Entry) → StayAs olds news → StaysAs old new → StayAs (olds ++ old ∷ []) (news ++ new ∷ [])
stay-behind [] [] old new all own = (own, tt)
stay-behind [] (first ∷ news) old new all own = absurd all
stay-behind (first ∷ olds) [] old new all own = absurd all
stay-behind (first ∷ olds) (other ∷ news) old new all own = (all.0, stay-behind olds news old new all.1 own)

hard-stays : (old middle new : Entry) → StaysAs old middle → middle.soft ≡ false → StaysAs middle new → StaysAs old new
hard-stays old middle new first hard later = (
  first.0 ∙ later.0,
  first.1 ∙ later.1,
  elim first.2 [
    | inl soft ↦ absurd (clash (sym soft ∙ hard))
    | inr same ↦ elim later.2 [ inl soft ↦ inl soft | inr other ↦ inr (same ∙ other) ]
  ],
)
  where
    clash : true ≡ false → ⊥
    clash is = absurd (cc is)

-- Where components stay as others, they stay as what these stay as.
pub stay-through : (afters kids : List Kid) (entries : List Entry) → StayAs (map entry_of afters) (map entry_of kids) → StayAs (map entry_of kids) entries → StayAs (map entry_of afters) entries
stay-through [] [] entries first later = later
stay-through [] (kid ∷ kids) entries first later = absurd first
stay-through (after ∷ afters) [] entries first later = absurd first
stay-through (after ∷ afters) (kid ∷ kids) [] first later = absurd later
stay-through (after ∷ afters) (kid ∷ kids) (entry ∷ entries) first later =
    (hard-stays (entry_of after) (entry_of kid) entry first.0 refl later.0, stay-through afters kids entries first.1 later.1)

module _ (system : System) (time : ℕ) where
  -- a component of this model, with arguments, as an executive or not
  pub record IsLeaf (model : ModelId) (boss : Bool) (args : List Value) (leaf : Leaf) : Type 0 where
    pub stands : StandsLeaf system time leaf
    pub model_is : leaf.model ≡ model
    pub boss_is : leaf.boss ≡ boss
    pub args_is : leaf.args ≡ args

  -- a part that stands, so deep at most, of this model with these arguments
  pub record IsPart (left : ℕ) (model : ModelId) (args : List Value) (own : Sim) : Type 0 where
    pub stands : StandsIn system time left own
    pub model_is : model_of own ≡ model
    pub args_is : args_of own ≡ args

  abbrev pub KidStands : ℕ → Kid → Type 0
  KidStands left kid = StandsIn system time left (out-Kid kid).sim

  pub leaf-part : (left : ℕ) (model : ModelId) (args : List Value) (leaf : Leaf) → 1 ≤ left → system.is_network model ≡ false → IsLeaf model false args leaf → IsPart left model args (sim.Leaf leaf)
  leaf-part left model args leaf some atomic own = record {
    stands = record {
      all = subst (AllByRecursion (StandsSpot system time)) (sym (spots-Leaf leaf))
          (record { stands = own.stands; atomic = ap (λ (m : ModelId). system.is_network m) own.model_is ∙ atomic; not_boss = own.boss_is }, tt);
      depth = omega (arith, depth-Leaf leaf);
    };
    model_is = model-Leaf leaf ∙ own.model_is;
    args_is = args-Leaf leaf ∙ own.args_is;
  }

  kids-all : (left : ℕ) (kids : List Kid) → AllByRecursion (KidStands left) kids → AllByRecursion (StandsSpot system time) (flat_map spots_of_kid kids)
  kids-all left [] all = tt
  kids-all left (kid ∷ kids) all =
      all-join (StandsSpot system time) (spots_of_kid kid) (flat_map spots_of_kid kids)
      (subst (AllByRecursion (StandsSpot system time)) (sym (spots-kid kid)) all.0.all) (kids-all left kids all.1)

  kids-deep : (left : ℕ) (kids : List Kid) → 1 ≤ left → AllByRecursion (KidStands left) kids → deepest (map depth_of_kid kids) ≤ left
  kids-deep left [] some all = some
  kids-deep left (kid ∷ kids) some all = omega (arith, depth-kid kid, all.0.depth, kids-deep left kids some all.1)

  -- a network of parts that stand, with a structure of its executive's state
  pub net-part : (left : ℕ) (model : ModelId) (args : List Value) (boss : Leaf) (kids : List Kid) (links : List Link) (plan : Plan) → 1 ≤ left → system.is_network model ≡ true →
      IsLeaf model true args boss → AllByRecursion (KidStands left) kids → (system.network model args).structure boss.state ≡ Ok plan → HasPlan (map entry_of kids) links plan →
      IsPart (suc left) model args (sim.Net (net_of model args boss kids links))
  net-part left model args boss kids links plan some network own all structure has =
      let net = net_of model args boss kids links in
      let opened = out-roll-Net (record { model = model; args = args; boss = boss; kids = kids; links = links }) in
      record {
        stands = record {
          all = subst (AllByRecursion (StandsSpot system time))
              (sym (spots-Net net ∙ spots-net net ∙ ap (λ whole. inr (shape_of whole.model whole.args whole.boss whole.kids whole.links) ∷ flat_map spots_of_kid whole.kids) opened)) (
                record {
                  network = network;
                  boss = own.stands;
                  is_boss = own.boss_is;
                  model = own.model_is;
                  args = own.args_is;
                  plan = plan;
                  structure = structure;
                  has = has;
                },
                kids-all left kids all,
              );
          depth = omega (arith, depth-Net net, kids-deep left kids some all, (let same : deepest (map depth_of_kid (out-Net net).kids) ≡ deepest (map depth_of_kid kids) = ap (λ whole. deepest (map depth_of_kid whole.kids)) opened in same));
        };
        model_is = model-Net net ∙ ap (λ whole. whole.model) opened;
        args_is = args-Net net ∙ ap (λ whole. whole.args) opened;
      }

  -- a component that stands, as one that stays as this entry
  pub record IsKid (left : ℕ) (entry : Entry) (kid : Kid) : Type 0 where
    pub stands : KidStands left kid
    pub stays : StaysAs (entry_of kid) entry

  -- a part of the entry's model is one, with any arguments where the entry is soft
  pub kid-is : (left : ℕ) (entry : Entry) (args : List Value) (own : Sim) → (entry.soft ≡ true) ⊎ (args ≡ entry.args) → IsPart left entry.model args own → IsKid left entry (kid_of entry.name own)
  kid-is left entry args own free part =
      let opened = out-roll-Kid (record { name = entry.name; sim = own }) in
      record {
        stands = subst (StandsIn system time left) (sym (ap (λ kid. kid.sim) opened)) part.stands;
        stays = (
          ap (λ kid. kid.name) opened,
          ap (λ kid. model_of kid.sim) opened ∙ part.model_is,
          elim free [
            | inl soft ↦ inl soft
            | inr same ↦ inr (ap (λ kid. args_of kid.sim) opened ∙ part.args_is ∙ same)
          ],
        );
      }

  -- components that stand, each as one that stays as the entry in its place
  pub record AreKids (left : ℕ) (entries : List Entry) (kids : List Kid) : Type 0 where
    pub stand : AllByRecursion (KidStands left) kids
    pub stay : StayAs (map entry_of kids) entries

  pub kids-behind : (left : ℕ) (entries : List Entry) (entry : Entry) (kids : List Kid) (kid : Kid) → AreKids left entries kids → IsKid left entry kid → AreKids left (entries ++ entry ∷ []) (kids ++ kid ∷ [])
  kids-behind left entries entry kids kid all own = record {
    stand = all-behind (KidStands left) kids kid all.stand own.stands;
    stay = subst (λ (olds : List Entry). StayAs olds (entries ++ entry ∷ [])) (sym (map-behind entry_of kids kid)) (stay-behind (map entry_of kids) entries (entry_of kid) entry all.stay own.stays);
  }
