-- The models of components, as the rules enter them and as they are resolved.
use Rattle.std.proofs.Common.{◌≡◌, ℕ, ◌==◌, Bool, true, false, not, ◌||◌, if◌then◌else◌, List, [], ◌∷◌, ◌++◌, map, Option, Some, None, is_some, unwrap_or, Result, Ok, refl, sym, ◌∙◌, ap, subst}
use Rattle.std.specs.Str.{bytes_eq}
use Rattle.std.proofs.lemmas.Bool.{not-false, eqb-true}
use Rattle.dsde_sim_tree.specs.given.names.Table.{place_of, named, is_among}
use Rattle.dsde_sim_tree.specs.given.syntax.id_Id.{Id}
use Rattle.dsde_sim_tree.specs.given.syntax.item_Item.{Item}
use Rattle.dsde_sim_tree.specs.given.syntax.item_ItemArm.{ItemArm}
use Rattle.dsde_sim_tree.specs.given.syntax.item_Item_TheOpen.{Item-F, ItemArm-F}
use Rattle.dsde_sim_tree.specs.given.syntax.item_Item_TheViews.{roll-Item, roll-ItemArm}
use Rattle.dsde_sim_tree.specs.given.syntax.item_Item_TheFolds.{fold-ItemArm, map-Item, map-ItemArm, fold-roll-Item, fold-roll-ItemArm, ind-Item}
use Rattle.dsde_sim_tree.specs.given.language.known_Known.{Known}
use Rattle.dsde_sim_tree.specs.given.language.signatures_Family.{Family}
use Rattle.dsde_sim_tree.specs.given.language.signatures_ModelSig.{ModelSig}
use Rattle.dsde_sim_tree.specs.given.language.wrong_Wrong.{Wrong}
use Rattle.dsde_sim_tree.specs.given.language.wrong_WrongKind_TheVariants.{Unknown, MixedFamily}
use Rattle.dsde_sim_tree.specs.given.language.Steps.{◌>>=◌, wrong, unless}
use Rattle.dsde_sim_tree.specs.given.language.RuleTables.{added, family_name, model_name}
use Rattle.dsde_sim_tree.specs.given.language.RuleStructures as rules
use Rattle.dsde_sim_tree.specs.given.language.RuleStructures.{Enter, family_named, enter, enter_all, enter_step, enter_arm_step, with_comp, comp_family}
use Rattle.dsde_sim_tree.specs.given.language.DeclaredStructures.{Kin, kin_all, kin_of, kin_step, kin_arm_step}
use Rattle.dsde_sim_tree.specs.given.language.DeclaredModels as nodes
use Rattle.dsde_sound_names.specs.given.sound_expressions.lemmas_Steps.{went, ok-is, unless-is}
use Rattle.dsde_sound_names.specs.given.sound_expressions.lemmas_Places.{eq-same, pick, or_last, named-cons, named-snoc}

abbrev family_of : List ℕ → ℕ → Family
family_of name model = record { name = name; model = model }

-- What is found by a name in families is found in others.
pub record Grows (found more : List Family) : Type 0 where
  pub finds : (name : List ℕ) (family : Family) → family_named found name ≡ Some family → family_named more name ≡ Some family

pub grows-same : (families : List Family) → Grows families families
grows-same families = record { finds = λ name family h. h }

pub grows-more : (one two three : List Family) → Grows one two → Grows two three → Grows one three
grows-more one two three first second = record { finds = λ name family h. second.finds name family (first.finds name family h) }

grows-snoc : (families : List Family) (own : Family) → Grows families (families ++ own ∷ [])
grows-snoc families own = record {
  finds = λ name family h.
      named-snoc family_name families own name
      ∙ ap (λ (found : Option Family). or_last found (pick (bytes_eq own.name name) own None)) h;
}

some-pick : {T : Type 0} (b more : Bool) (own : T) (found : Option T) → more ≡ is_some found → (b || more) ≡ is_some (pick b own found)
some-pick true more own found h = refl
some-pick false more own found h = h

-- A name is among items where one is found by it.
pub among-found : {T : Type 0} (name_of : T → List ℕ) (items : List T) (name : List ℕ) → is_among name_of items name ≡ is_some (named name_of items name)
among-found name_of [] name = refl
among-found name_of (own ∷ items) name =
    some-pick (bytes_eq (name_of own) name) (is_among name_of items name) own (named name_of items name) (among-found name_of items name)
    ∙ ap (λ (found : Option _). is_some found) (sym (named-cons name_of own items name))

-- A component of one identifier that was entered, and the families behind it.
pub record CompEnters (known : Known) (found : List Family) (name model : Id) (more : List Family) : Type 0 where
  pub number : ℕ
  pub is : rules.model_number known model.name ≡ Some number
  pub family : Family
  pub has : family_named more name.name ≡ Some family
  pub of : family.model ≡ number
  pub kin : added family_name found (family_of name.name number) ≡ more
  pub grows : Grows found more

abbrev comp_with : List Family → ℕ → Id → ℕ → Option Family → Result (List Family) Wrong
comp_with families at name model before = elim before [
  | None ↦ Ok (families ++ record { name = name.name; model = model } ∷ [])
  | Some family ↦ unless (not (family.model == model)) MixedFamily at >>= (λ _. Ok families)
]

with-enters : (known : Known) (at : ℕ) (name model : Id) (found more : List Family) (number : ℕ) → rules.model_number known model.name ≡ Some number
    → (before : Option Family) → family_named found name.name ≡ before → comp_with found at name number before ≡ Ok more → CompEnters known found name model more
with-enters known at name model found more number is None before h =
    let own : Family = family_of name.name number in
    let same : found ++ own ∷ [] ≡ more = ok-is (found ++ own ∷ []) more h in
    let new : is_among family_name found name.name ≡ false = among-found family_name found name.name ∙ ap (λ (o : Option Family). is_some o) before in
    record {
      number = number;
      is = is;
      family = own;
      has = subst (λ (l : List Family). family_named l name.name ≡ Some own) same
          (named-snoc family_name found own name.name
          ∙ ap (λ (o : Option Family). or_last o (pick (bytes_eq own.name name.name) own None)) before
          ∙ ap (λ (b : Bool). pick b own None) (eq-same name.name));
      of = refl;
      kin = ap (λ (b : Bool). if b then found else (found ++ own ∷ [])) new ∙ same;
      grows = subst (λ (l : List Family). Grows found l) same (grows-snoc found own);
    }
with-enters known at name model found more number is (Some family) before h =
    let w1 = went (unless (not (family.model == number)) MixedFamily at) _ more h in
    let same : found ≡ more = ok-is found more w1.next in
    let own : Family = family_of name.name number in
    let there : is_among family_name found name.name ≡ true = among-found family_name found name.name ∙ ap (λ (o : Option Family). is_some o) before in
    record {
      number = number;
      is = is;
      family = family;
      has = subst (λ (l : List Family). family_named l name.name ≡ Some family) same before;
      of = eqb-true family.model number (not-false (family.model == number) (unless-is (not (family.model == number)) MixedFamily at w1.value w1.first));
      kin = ap (λ (b : Bool). if b then found else (found ++ own ∷ [])) there ∙ same;
      grows = subst (λ (l : List Family). Grows found l) same (grows-same found);
    }

abbrev comp_by : List Family → ℕ → Id → Id → Option ℕ → Result (List Family) Wrong
comp_by families at name model number = elim number [ None ↦ wrong Unknown model.at | Some number ↦ with_comp families at name number ]

by-enters : (known : Known) (at : ℕ) (name model : Id) (found more : List Family) (number : Option ℕ) → rules.model_number known model.name ≡ number
    → comp_by found at name model number ≡ Ok more → CompEnters known found name model more
by-enters known at name model found more None is h = absurd (cc)
by-enters known at name model found more (Some number) is h = with-enters known at name model found more number is (family_named found name.name) refl h

pub comp-enters : (known : Known) (at : ℕ) (name model : Id) (found more : List Family) → comp_family known at name model found ≡ Ok more → CompEnters known found name model more
comp-enters known at name model found more h = by-enters known at name model found more (rules.model_number known model.name) refl h

-- What is entered is what is resolved, and leaves what was found before it.
pub record Entering (rule : Enter) (kin : Kin) : Type 0 where
  pub same : (found more : List Family) → rule found ≡ Ok more → kin found ≡ more
  pub grows : (found more : List Family) → rule found ≡ Ok more → Grows found more

nothing-enters : Entering (λ families. Ok families) (λ families. families)
nothing-enters = record {
  same = λ found more h. ok-is found more h;
  grows = λ found more h. subst (λ (l : List Family). Grows found l) (ok-is found more h) (grows-same found);
}

then-enters : (one two : Enter) (k l : Kin) → Entering one k → Entering two l → Entering (λ families. one families >>= (λ more. two more)) (λ families. l (k families))
then-enters one two k l first second = record {
  same = λ found more h.
      let w1 = went (one found) (λ mid. two mid) more h in
      ap l (first.same found w1.value w1.first) ∙ second.same w1.value more w1.next;
  grows = λ found more h.
      let w1 = went (one found) (λ mid. two mid) more h in
      grows-more found w1.value more (first.grows found w1.value w1.first) (second.grows w1.value more w1.next);
}

pub all-enters : {Y X : Type 0} (f : Y → X) (N : X → Enter) (K : X → Kin) → ((y : Y) → Entering (N (f y)) (K (f y))) → (ys : List Y) → Entering (enter_all (map N (map f ys))) (kin_all (map K (map f ys)))
all-enters f N K each [] = nothing-enters
all-enters f N K each (y ∷ ys) = then-enters (N (f y)) (enter_all (map N (map f ys))) (K (f y)) (kin_all (map K (map f ys))) (each y) (all-enters f N K each ys)

module _ (known whole : Known) (models : known.models ≡ whole.models) where
  comp-is : (at : ℕ) (name model : Id) → Entering (comp_family known at name model) (λ families. added family_name families (family_of name.name (nodes.model_number whole model.name)))
  comp-is at name model = record {
    same = λ found more h.
        let own = comp-enters known at name model found more h in
        let number : nodes.model_number whole model.name ≡ own.number =
        ap (λ (l : List ModelSig). unwrap_or (place_of model_name l model.name) 0) (sym models) ∙ ap (λ (o : Option ℕ). unwrap_or o 0) own.is in
        ap (λ (n : ℕ). added family_name found (family_of name.name n)) number ∙ own.kin;
    grows = λ found more h. (comp-enters known at name model found more h).grows;
  }

  abbrev N : Item → Enter
  N = enter known

  abbrev NA : ItemArm → Enter
  NA = fold-ItemArm Enter Enter (enter_step known) enter_arm_step

  abbrev K : Item → Kin
  K = kin_of whole

  abbrev KA : ItemArm → Kin
  KA = fold-ItemArm Kin Kin (kin_step whole) kin_arm_step

  abbrev Claim : Item → Type 0
  Claim item = Entering (N item) (K item)

  abbrev ArmClaim : ItemArm → Type 0
  ArmClaim arm = Entering (NA arm) (KA arm)

  abbrev S : Type 0
  S = (item : Item) × Claim item

  abbrev A : Type 0
  A = (arm : ItemArm) × ArmClaim arm

  abbrev bare : List S → List Item
  bare body = map (λ (own : S). own.0) body

  body-enters : (body : List S) → Entering (enter_all (map N (bare body))) (kin_all (map K (bare body)))
  body-enters body = all-enters (λ (own : S). own.0) N K (λ own. own.1) body

  arms-enter : (arms : List A) → Entering (enter_all (map NA (map (λ (own : A). own.0) arms))) (kin_all (map KA (map (λ (own : A). own.0) arms)))
  arms-enter arms = all-enters (λ (own : A). own.0) NA KA (λ own. own.1) arms

  item-roll : (x : Item-F Item ItemArm) → Entering (enter_step known (map-Item Item ItemArm Enter Enter N NA x)) (kin_step whole (map-Item Item ItemArm Kin Kin K KA x)) → Claim (roll-Item x)
  item-roll x own =
      subst (λ (n : Enter). Entering n (K (roll-Item x))) (sym (fold-roll-Item Enter Enter (enter_step known) enter_arm_step x))
      (subst (λ (k : Kin). Entering (enter_step known (map-Item Item ItemArm Enter Enter N NA x)) k) (sym (fold-roll-Item Kin Kin (kin_step whole) kin_arm_step x)) own)

  arm-roll : (x : ItemArm-F Item ItemArm) → Entering (enter_arm_step (map-ItemArm Item ItemArm Enter Enter N NA x)) (kin_arm_step (map-ItemArm Item ItemArm Kin Kin K KA x)) → ArmClaim (roll-ItemArm x)
  arm-roll x own =
      subst (λ (n : Enter). Entering n (KA (roll-ItemArm x))) (sym (fold-roll-ItemArm Enter Enter (enter_step known) enter_arm_step x))
      (subst (λ (k : Kin). Entering (enter_arm_step (map-ItemArm Item ItemArm Enter Enter N NA x)) k) (sym (fold-roll-ItemArm Kin Kin (kin_step whole) kin_arm_step x)) own)

  item-case : (y : Item-F S A) → Claim (roll-Item (map-Item S A Item ItemArm (λ own. own.0) (λ own. own.0) y))
  item-case (Item-F.Comp at name index soft model args) = item-roll (Item-F.Comp at name index soft model args)
      (let own = comp-is at name model in record { same = own.same; grows = own.grows })
  item-case (Item-F.Link at source target via) = item-roll (Item-F.Link at source target via) (record { same = nothing-enters.same; grows = nothing-enters.grows })
  item-case (Item-F.Let name value) = item-roll (Item-F.Let name value) (record { same = nothing-enters.same; grows = nothing-enters.grows })
  item-case (Item-F.If arms None) = item-roll (Item-F.If (map (λ (own : A). own.0) arms) None)
      (let both = then-enters _ (λ families. Ok families) _ (λ families. families) (arms-enter arms) nothing-enters in record { same = both.same; grows = both.grows })
  item-case (Item-F.If arms (Some body)) = item-roll (Item-F.If (map (λ (own : A). own.0) arms) (Some (bare body)))
      (let both = then-enters _ _ _ _ (arms-enter arms) (body-enters body) in record { same = both.same; grows = both.grows })
  item-case (Item-F.For name list body) = item-roll (Item-F.For name list (bare body))
      (let own = body-enters body in record { same = own.same; grows = own.grows })

  arm-case : (y : ItemArm-F S A) → ArmClaim (roll-ItemArm (map-ItemArm S A Item ItemArm (λ own. own.0) (λ own. own.0) y))
  arm-case y = arm-roll (record { cond = y.cond; body = bare y.body }) (body-enters y.body)

  pub item-enters : (item : Item) → Claim item
  item-enters = ind-Item Claim ArmClaim
      (λ x y is. subst (λ (z : Item-F Item ItemArm). Claim (roll-Item z)) is (item-case y))
      (λ x y is. subst (λ (z : ItemArm-F Item ItemArm). ArmClaim (roll-ItemArm z)) is (arm-case y))
