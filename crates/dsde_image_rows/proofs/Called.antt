-- The components of a structure that a text can spell are called by words.
use Rattle.std.proofs.Common.{◌≡◌, ℕ, zero, suc, Bool, true, List, [], ◌∷◌, ◌++◌, map, Option, Some, None, Ok, Err, slice_get, refl, sym, ap, subst, ◌∙◌}
use Rattle.std.specs.Prelude.{unwrap_or}
use Rattle.std.specs.List.{AllByRecursion, list_all}
use Rattle.dsde_words.specs.Words.{is_word}
use Rattle.dsde_words.specs.declared.key.Key.TheVariants as key
use Rattle.dsde_syntax.specs.declared.token.Sign.TheVariants as sign
use Rattle.dsde_syntax.specs.declared.id.Id.{Id}
use Rattle.dsde_syntax.specs.declared.item.Item.{Item}
use Rattle.dsde_syntax.specs.declared.item.ItemArm.{ItemArm}
use Rattle.dsde_syntax.specs.declared.item.Item.TheOpen.{Item-F, ItemArm-F}
use Rattle.dsde_syntax.specs.declared.item.Item.TheViews.{roll-Item, roll-ItemArm}
use Rattle.dsde_syntax.specs.declared.item.Item.TheFolds.{map-Item, map-ItemArm, fold-roll-Item, fold-roll-ItemArm, ind-Item}
use Rattle.dsde_syntax.specs.declared.decl.Body.{Body}
use Rattle.dsde_syntax.specs.declared.decl.Decl.{Decl}
use Rattle.dsde_syntax.specs.declared.decl.Decl.TheVariants as decl
use Rattle.dsde_syntax.specs.declared.decl.Model.{Model}
use Rattle.dsde_syntax.specs.declared.decl.PortDecl.{PortDecl}
use Rattle.dsde_syntax.specs.declared.decl.Typed.{Typed}
use Rattle.dsde_syntax.specs.Shape.{IsShaped}
use Rattle.dsde_syntax.specs.Grammar.{Tokens, word, mark, joined, elses, optional, block, else_block, in_braces, if_tokens, for_tokens, bracket_tokens, entry_mark, id_tokens, args_tokens, item_step, item_arm_step, item_tokens, item_arm_tokens, params_tokens, port_tokens, body_tokens, exec_tokens, decl_tokens, tokens_of}
use Rattle.dsde_values.specs.declared.value.Value.{Value}
use Rattle.dsde_faults.specs.declared.kind.Site.TheVariants as site
use Rattle.dsde_sim_movers.specs.given.language.ids_ModelId.{ModelId}
use Rattle.dsde_sim_movers.specs.given.language.DeclaredModels.{Own, owns_of}
use Rattle.dsde_sim_movers.specs.given.language.DeclaredStructures.{Place, structures_of}
use Rattle.dsde_sim_movers.specs.given.language.Meaning.{Function, Vars}
use Rattle.dsde_sim_movers.specs.given.language.Outcome.{Outcome, Fault, Stuck}
use Rattle.dsde_sound_structures.specs.given.executive_plans.Layout.{structure}
use Rattle.dsde_sim_movers.specs.given.structure.plan_Plan.{Plan}
use Rattle.dsde_sim_movers.specs.given.formalism.System.{State}
use Rattle.dsde_sound_structures.specs.given.system.Body.{at_site}
use Rattle.dsde_sound_structures.specs.given.system.Program.{network_at, plan_at, system}
use Rattle.dsde_sound_structures.proofs.Words.{worded, both, and-true, cut, front-worded, flat-worded, join-worded, tokens-worded}
use Rattle.dsde_sound_structures.specs.given.sound_names.Called.{all_so, called_step, called_arm, called_so, arm_called_so}

-- what is so where the identifiers of tokens are words
record Holds (tokens : Tokens) (own : Bool) : Type 0 where
  holds : worded tokens ≡ true → own ≡ true

item-roll : (x : Item-F Item ItemArm) → Holds (item_step (map-Item Item ItemArm Tokens Tokens item_tokens item_arm_tokens x)) (called_step is_word (map-Item Item ItemArm Bool Bool (called_so is_word) (arm_called_so is_word) x))
    → Holds (item_tokens (roll-Item x)) (called_so is_word (roll-Item x))
item-roll x own = record {
  holds = λ tokens. fold-roll-Item Bool Bool (called_step is_word) called_arm x ∙ own.holds (ap worded (sym (fold-roll-Item Tokens Tokens item_step item_arm_step x)) ∙ tokens);
}

arm-roll : (x : ItemArm-F Item ItemArm) → Holds (item_arm_step (map-ItemArm Item ItemArm Tokens Tokens item_tokens item_arm_tokens x)) (called_arm (map-ItemArm Item ItemArm Bool Bool (called_so is_word) (arm_called_so is_word) x))
    → Holds (item_arm_tokens (roll-ItemArm x)) (arm_called_so is_word (roll-ItemArm x))
arm-roll x own = record {
  holds = λ tokens. fold-roll-ItemArm Bool Bool (called_step is_word) called_arm x ∙ own.holds (ap worded (sym (fold-roll-ItemArm Tokens Tokens item_step item_arm_step x)) ∙ tokens);
}

abbrev Claim : Item → Type 0
Claim i = Holds (item_tokens i) (called_so is_word i)

abbrev ArmClaim : ItemArm → Type 0
ArmClaim a = Holds (item_arm_tokens a) (arm_called_so is_word a)

-- a part of an item beside its claim
abbrev S : Type 0
S = (i : Item) × Claim i

abbrev A : Type 0
A = (a : ItemArm) × ArmClaim a

items-called : (body : List S) → list_all worded (map item_tokens (map (λ (s : S). s.0) body)) ≡ true → all_so (map (called_so is_word) (map (λ (s : S). s.0) body)) ≡ true
items-called [] tokens = refl
items-called (own ∷ body) tokens =
    let parts = both (worded (item_tokens own.0)) (list_all worded (map item_tokens (map (λ (s : S). s.0) body))) tokens in
    and-true (called_so is_word own.0) (all_so (map (called_so is_word) (map (λ (s : S). s.0) body))) (own.1.holds parts.left) (items-called body parts.right)

arms-called : (arms : List A) → list_all worded (map item_arm_tokens (map (λ (a : A). a.0) arms)) ≡ true → all_so (map (arm_called_so is_word) (map (λ (a : A). a.0) arms)) ≡ true
arms-called [] tokens = refl
arms-called (own ∷ arms) tokens =
    let parts = both (worded (item_arm_tokens own.0)) (list_all worded (map item_arm_tokens (map (λ (a : A). a.0) arms))) tokens in
    and-true (arm_called_so is_word own.0) (all_so (map (arm_called_so is_word) (map (λ (a : A). a.0) arms))) (own.1.holds parts.left) (arms-called arms parts.right)

block-worded : (parts : List Tokens) → worded (block parts) ≡ true → list_all worded parts ≡ true
block-worded parts is = flat-worded [] parts (front-worded (joined parts) (mark sign.CloseBrace) is)

item-case : (y : Item-F S A) → Claim (roll-Item (map-Item S A Item ItemArm (λ s. s.0) (λ a. a.0) y))
item-case (Item-F.Comp at name index soft model args) = item-roll (Item-F.Comp at name index soft model args) (record {
  holds = λ tokens. (both (is_word name.name) (worded (optional bracket_tokens index ++ entry_mark soft ++ id_tokens model ++ args_tokens args ++ mark sign.Semicolon)) tokens).left;
})
item-case (Item-F.Link at source target via) = item-roll (Item-F.Link at source target via) (record { holds = λ tokens. refl })
item-case (Item-F.Let name e) = item-roll (Item-F.Let name e) (record { holds = λ tokens. refl })
item-case (Item-F.If arms None) = item-roll (Item-F.If (map (λ a. a.0) arms) None) (record {
  holds = λ tokens.
      and-true _ true (arms-called arms (join-worded (word key.Else) (map item_arm_tokens (map (λ (a : A). a.0) arms)) (front-worded (elses (map item_arm_tokens (map (λ (a : A). a.0) arms))) [] tokens))) refl;
})
item-case (Item-F.If arms (Some body)) = item-roll (Item-F.If (map (λ a. a.0) arms) (Some (map (λ s. s.0) body))) (record {
  holds = λ tokens.
      let parts = cut (elses (map item_arm_tokens (map (λ (a : A). a.0) arms))) (else_block (map item_tokens (map (λ (s : S). s.0) body))) tokens in
      and-true _ _ (arms-called arms (join-worded (word key.Else) (map item_arm_tokens (map (λ (a : A). a.0) arms)) parts.left))
      (items-called body (block-worded (map item_tokens (map (λ (s : S). s.0) body)) parts.right));
})
item-case (Item-F.For name e body) = item-roll (Item-F.For name e (map (λ s. s.0) body)) (record {
  holds = λ tokens. items-called body (block-worded (map item_tokens (map (λ (s : S). s.0) body)) (cut (for_tokens name e) (block (map item_tokens (map (λ (s : S). s.0) body))) tokens).right);
})

arm-case : (y : ItemArm-F S A) → ArmClaim (roll-ItemArm (map-ItemArm S A Item ItemArm (λ s. s.0) (λ a. a.0) y))
arm-case y = arm-roll (record { cond = y.cond; body = map (λ s. s.0) y.body }) (record {
  holds = λ tokens. items-called y.body (block-worded (map item_tokens (map (λ (s : S). s.0) y.body)) (cut (if_tokens y.cond) (block (map item_tokens (map (λ (s : S). s.0) y.body))) tokens).right);
})

item-called : (i : Item) → Claim i
item-called = ind-Item Claim ArmClaim
    (λ x y is. subst (λ (z : Item-F Item ItemArm). Claim (roll-Item z)) is (item-case y))
    (λ x y is. subst (λ (z : ItemArm-F Item ItemArm). ArmClaim (roll-ItemArm z)) is (arm-case y))

all-called : (items : List Item) → list_all worded (map item_tokens items) ≡ true → list_all (called_so is_word) items ≡ true
all-called [] tokens = refl
all-called (own ∷ items) tokens =
    let parts = both (worded (item_tokens own)) (list_all worded (map item_tokens items)) tokens in
    and-true (called_so is_word own) (list_all (called_so is_word) items) ((item-called own).holds parts.left) (all-called items parts.right)

-- the tokens of a structure stand last in those of its network
items-worded : (name : Id) (params : List Typed) (ports : List PortDecl) (body : Body) (items : List Item)
    → worded (id_tokens name ++ params_tokens params ++ in_braces (joined (map port_tokens ports) ++ exec_tokens body items)) ≡ true → list_all worded (map item_tokens items) ≡ true
items-worded name params ports body items tokens =
    let front : Tokens = body_tokens body ++ word key.Structure in
    let all : Tokens = front ++ block (map item_tokens items) in
    let declared : Tokens = joined (map port_tokens ports) in
    let own = both (is_word name.name) (worded (params_tokens params ++ in_braces (declared ++ exec_tokens body items))) tokens in
    let braces = (cut (params_tokens params) (in_braces (declared ++ exec_tokens body items)) own.right).right in
    let inside = front-worded (declared ++ exec_tokens body items) (mark sign.CloseBrace) braces in
    let exec = front-worded all (mark sign.CloseBrace) (cut declared (exec_tokens body items) inside).right in
    block-worded (map item_tokens items) (cut front (block (map item_tokens items)) exec).right

abbrev AreCalled : List (List Item) → Type 0
AreCalled = AllByRecursion (λ items. list_all (called_so is_word) items ≡ true)

structures-called : (decls : List Decl) → list_all worded (map decl_tokens decls) ≡ true → AreCalled (structures_of decls)
structures-called [] tokens = tt
structures-called (own ∷ decls) tokens =
    let parts = both (worded (decl_tokens own)) (list_all worded (map decl_tokens decls)) tokens in
    by-kind own parts.left (structures-called decls parts.right)
  where
    by-kind : (own : Decl) → worded (decl_tokens own) ≡ true → AreCalled (structures_of decls) → AreCalled (structures_of (own ∷ decls))
    by-kind (decl.Enum name variants) tokens rest = rest
    by-kind (decl.Rec name fields) tokens rest = rest
    by-kind (decl.Func name params result stmts value) tokens rest = rest
    by-kind (decl.Atomic at name params body) tokens rest = (refl, rest)
    by-kind (decl.Network at name params ports exec_at body items) tokens rest = (all-called items (items-worded name params ports body items tokens), rest)
    by-kind (decl.Top at name args) tokens rest = rest

called-at : (structures : List (List Item)) (number : ℕ) → AreCalled structures → list_all (called_so is_word) (unwrap_or (slice_get structures number) []) ≡ true
called-at [] number all = refl
called-at (items ∷ structures) zero all = all.0
called-at (items ∷ structures) (suc number) all = called-at structures number all.1

abbrev pub PlansAreCalled : Type 0
PlansAreCalled = (test : List ℕ → Bool) (place : Place) (functions : List Function) (items : List Item) (number : ℕ) (vars : Vars) (plan : Plan) →
    list_all (called_so test) items ≡ true → structure place functions items number vars ≡ Ok plan → AllByRecursion (λ entry. test entry.name.stem ≡ true) plan.entries

module _ (called : PlansAreCalled) (model : Model) (shaped : IsShaped model) where
  came-of : (outcome : Outcome Plan) (plan : Plan) → at_site site.Structure outcome ≡ Ok plan → outcome ≡ Ok plan
  came-of (Ok own) plan is = let same : own ≡ plan = cc in ap Ok same
  came-of (Err (Fault kind at)) plan is = absurd (cc is)
  came-of (Err Stuck) plan is = absurd (cc is)

  by-own : (found : Option Own) (number : ℕ) (args : List Value) (state : State) (plan : Plan) → (network_at model found number args).structure state ≡ Ok plan → AllByRecursion (λ entry. is_word entry.name.stem ≡ true) plan.entries
  by-own None number args state plan is = absurd (cc is)
  by-own (Some own) number args state plan is =
      let items = unwrap_or (slice_get (structures_of model.decls) number) [] in
      let tokens = flat-worded [] (map decl_tokens model.decls) (tokens-worded (tokens_of model) shaped.tokens) in
      called is_word _ _ items _ _ plan (called-at (structures_of model.decls) number (structures-called model.decls tokens)) (came-of (plan_at model own number items args state) plan is)

  pub plan-called : (number : ModelId) (args : List Value) (state : State) (plan : Plan) → ((system model).network number args).structure state ≡ Ok plan → AllByRecursion (λ entry. is_word entry.name.stem ≡ true) plan.entries
  unfolding system
  plan-called number args state plan is = by-own (slice_get (owns_of model.decls) number.0) number.0 args state plan is
