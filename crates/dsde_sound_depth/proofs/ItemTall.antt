-- No item of a structure in which nothing is wrong is lower than its conditions nest.
use Rattle.std.proofs.Common.{ℕ, Bool, true, false, List, [], ◌∷◌, ◌++◌, map, Option, Some, None, subst}
use Rattle.std.specs.Prelude.{max, ◌&&◌, not, if◌then◌else◌}
use Rattle.dsde_syntax.specs.declared.id.Id.{Id}
use Rattle.dsde_syntax.specs.declared.expr.Expr.{Expr}
use Rattle.dsde_syntax.specs.declared.item.Bracket.{Bracket}
use Rattle.dsde_syntax.specs.declared.item.End.{End}
use Rattle.dsde_syntax.specs.declared.item.EndPart.{EndPart}
use Rattle.dsde_syntax.specs.declared.item.EndPart.TheVariants as end_part
use Rattle.dsde_syntax.specs.declared.item.ViaKey.{ViaKey}
use Rattle.dsde_syntax.specs.declared.item.ViaPart.{ViaPart}
use Rattle.dsde_syntax.specs.declared.item.Item.{Item}
use Rattle.dsde_syntax.specs.declared.item.ItemArm.{ItemArm}
use Rattle.dsde_syntax.specs.declared.item.Item.TheOpen.{Item-F, ItemArm-F}
use Rattle.dsde_syntax.specs.declared.item.Item.TheViews.{roll-Item, roll-ItemArm}
use Rattle.dsde_syntax.specs.declared.item.Item.TheFolds.{fold-ItemArm, map-Item, map-ItemArm, fold-roll-Item, fold-roll-ItemArm, ind-Item}
use Rattle.dsde_values.specs.declared.types.Ty.{Ty}
use Rattle.dsde_values.specs.declared.types.Ty.TheVariants as ty
use Rattle.dsde_names.specs.Table.{named}
use Rattle.dsde_language.specs.declared.known.Around.{Around}
use Rattle.dsde_language.specs.declared.known.Site.{Site}
use Rattle.dsde_language.specs.declared.seen.EndSeen.{EndSeen}
use Rattle.dsde_language.specs.declared.signatures.Family.{Family}
use Rattle.dsde_language.specs.declared.signatures.ModelSig.{ModelSig}
use Rattle.dsde_language.specs.declared.signatures.Port.{Port}
use Rattle.dsde_language.specs.declared.wrong.WrongKind.TheVariants.{Unknown, WrongType, BadLink}
use Rattle.dsde_language.specs.Steps.{wrong, unless, above}
use Rattle.dsde_language.specs.Types.{same, wanted}
use Rattle.dsde_language.specs.RuleTables.{port_name}
use Rattle.dsde_language.specs.Judge.{Scope, fresh, fixed, fit_all, judge}
use Rattle.dsde_language.specs.Blocks.{Walk, ArmWalk}
use Rattle.dsde_language.specs.RuleStructures.{model_named, family_named, index_of, args_of, comp_of, port_at, end_at, ports_at, kid_end, end_of, translating, body_via, keyed_via, via_of, through, link_of, item_step, item_arm_step, item_walk}
use Rattle.dsde_sound_depth.proofs.Nests.{most, nest, index_nest, end_part_nest, key_nest, via_nest, item_nest_step, item_arm_nest_step, item_nest, item_arm_nest}
use Rattle.dsde_sound_depth.proofs.Sure.{Sure, follow, pass, done, failed, weaker, Under, under-zero, under-both, under-left, under-right, under-above}
use Rattle.dsde_sound_depth.proofs.ExprTall.{AllTall, fit_all-tall}
use Rattle.dsde_sound_depth.proofs.FormsTall.{HasHeights}
use Rattle.dsde_sound_depth.proofs.ExprHeights.{roll-claim, expr-tall}
use Rattle.dsde_sound_depth.proofs.StmtTall.{WalkTall, ArmWalkTall, AllWalksTall, AllArmWalksTall, let-tall, if-tall, no-last, some-last, arm-tall, for-tall}

-- an index, which may be left out
index-tall : (around : Around) → HasHeights around.known → (index : Option Bracket) (scope : Scope) → Sure (index_of around index scope) (λ height. Under (index_nest index) height)
index-tall around heights None scope = done under-zero
index-tall around heights (Some index) scope =
    follow ((expr-tall around heights index.value).tall scope) (λ seen few.
    pass (wanted ty.Int seen) (λ _. done few))

-- arguments
exprs-tall : (around : Around) → HasHeights around.known → (args : List Expr) → AllTall (map nest args) (map (judge around) args)
exprs-tall around heights [] = tt
exprs-tall around heights (e ∷ args) = (expr-tall around heights e, exprs-tall around heights args)

args_of-tall : (around : Around) → HasHeights around.known → (model : Id) (args : List Expr) (found : Option ModelSig) (scope : Scope)
    → Sure (elim found [ None ↦ wrong Unknown model.at | Some sig ↦ fit_all model (map (judge around) args) sig.params scope ]) (λ (height : ℕ). Under (most (map nest args)) height)
args_of-tall around heights model args None scope = failed
args_of-tall around heights model args (Some sig) scope = fit_all-tall model (map nest args) (map (judge around) args) (exprs-tall around heights args) sig.params scope

pub args-tall : (around : Around) → HasHeights around.known → (model : Id) (args : List Expr) (scope : Scope) → Sure (args_of around model args scope) (λ height. Under (most (map nest args)) height)
args-tall around heights model args scope = args_of-tall around heights model args (model_named around.known model.name) scope

comp-tall : (around : Around) → HasHeights around.known → (index : Option Bracket) (model : Id) (args : List Expr) → WalkTall (max (index_nest index) (most (map nest args))) (comp_of around index model args)
comp-tall around heights index model args = record {
  tall = λ scope.
      follow (index-tall around heights index scope) (λ height few.
      follow (args-tall around heights model args scope) (λ more own.
      done (under-above (max height more) (under-both (under-left height more few) (under-right height more own)))));
}

-- an end of a link has the height of its index
port_at-tall : (n : ℕ) (name : Id) (out : Bool) (found : Option Port) (height : ℕ) (is_net : Bool) → Under n height
    → Sure (elim found [ None ↦ wrong Unknown name.at | Some port ↦ port_at name out port height is_net ]) (λ (seen : EndSeen). Under n seen.height)
port_at-tall n name out None height is_net few = failed
port_at-tall n name out (Some port) height is_net few = pass (unless (if out then not port.out else port.out) BadLink name.at) (λ _. done few)

end_at-tall : (n : ℕ) (ports : List Port) (name : Id) (out : Bool) (height : ℕ) (is_net : Bool) → Under n height → Sure (end_at ports name out height is_net) (λ seen. Under n seen.height)
end_at-tall n ports name out height is_net few = port_at-tall n name out (named port_name ports name.name) height is_net few

module _ (site : Site) (heights : HasHeights site.around.known) where
  kid-tall : (is_source : Bool) (name : Id) (index : Option Bracket) (port : Id) (found : Option Family) (scope : Scope)
      → Sure (elim found [ None ↦ wrong Unknown name.at | Some family ↦ kid_end site is_source index family.model port scope ]) (λ (seen : EndSeen). Under (index_nest index) seen.height)
  kid-tall is_source name index port None scope = failed
  kid-tall is_source name index port (Some family) scope =
      follow (index-tall site.around heights index scope) (λ height few.
      end_at-tall (index_nest index) (ports_at site.around.known family.model) port is_source height false few)

  end-tall : (is_source : Bool) (part : EndPart) (port : Id) (scope : Scope) → Sure (end_of site is_source part port scope) (λ seen. Under (end_part_nest part) seen.height)
  end-tall is_source end_part.Net port scope = end_at-tall 0 site.ports port (not is_source) 0 true under-zero
  end-tall is_source end_part.Exec port scope = end_at-tall 0 site.execs port is_source 0 false under-zero
  end-tall is_source (end_part.Kid name index) port scope = kid-tall is_source name index port (family_named site.families name.name) scope

  -- a translation
  body-tall : (target : Ty) (body : Expr) (scope : Scope) → Sure (body_via site.around target body scope) (λ height. Under (nest body) height)
  body-tall target body scope =
      follow ((expr-tall (translating site.around) heights body).tall scope) (λ seen few.
      pass (wanted (ty.Opt target) seen) (λ _. done few))

  via_of-tall : (source target : Ty) (value : Id) (key : Option ViaKey) (body : Expr) (scope : Scope) → Sure (via_of site.around source target (record { value = value; key = key; body = body }) scope) (λ height. Under (max (key_nest key) (nest body)) height)
  via_of-tall source target value None body scope =
      pass (fresh site.around value scope) (λ _.
      weaker (body-tall target body (fixed value source ∷ [])) (λ height few. under-both under-zero few))
  via_of-tall source target value (Some key) body scope =
      follow ((expr-tall site.around heights key.value).tall scope) (λ seen few.
      follow (keyed seen.ty) (λ height more.
      done (under-both (under-left seen.height height few) (under-right seen.height height more))))
    where
      keyed : (own : Ty) → Sure (keyed_via site.around source target (record { value = value; key = Some key; body = body }) key own scope) (λ height. Under (nest body) height)
      keyed own =
          pass (fresh site.around value scope) (λ _.
          pass (fresh site.around key.name (scope ++ fixed value source ∷ [])) (λ _.
          body-tall target body (fixed value source ∷ fixed key.name own ∷ [])))

  through-tall : (place : ℕ) (source target : Ty) (via : Option ViaPart) (scope : Scope) → Sure (through site.around place source target via scope) (λ height. Under (via_nest via) height)
  through-tall place source target None scope = pass (unless (not (same source target)) WrongType place) (λ _. done under-zero)
  through-tall place source target (Some via) scope = via_of-tall source target via.value via.key via.body scope

  link-tall : (place : ℕ) (source target : End) (via : Option ViaPart) → WalkTall (max (end_part_nest source.part) (max (end_part_nest target.part) (via_nest via))) (link_of site place source target via)
  link-tall place source target via = record {
    tall = λ scope.
        follow (end-tall true source.part source.port scope) (λ first own.
        follow (end-tall false target.part target.port scope) (λ last few.
        pass (unless (first.is_net && last.is_net) BadLink place) (λ _.
        follow (through-tall place first.ty last.ty via scope) (λ height more.
        done (highest first.height last.height height own few more)))));
  }
    where
      highest : (a b c : ℕ) → Under (end_part_nest source.part) a → Under (end_part_nest target.part) b → Under (via_nest via) c → Under (max (end_part_nest source.part) (max (end_part_nest target.part) (via_nest via))) (above (max c (max a b)))
      highest a b c one two three =
          under-above (max c (max a b)) (under-both (under-right c (max a b) (under-left a b one)) (under-both (under-right c (max a b) (under-right a b two)) (under-left c (max a b) three)))

  abbrev item_arm_walk : ItemArm → ArmWalk
  item_arm_walk = fold-ItemArm Walk ArmWalk (item_step site) (item_arm_step site)

  abbrev Claim : Item → Type 0
  Claim s = WalkTall (item_nest s) (item_walk site s)

  abbrev ArmClaim : ItemArm → Type 0
  ArmClaim a = ArmWalkTall (item_arm_nest a) (item_arm_walk a)

  item-roll : (x : Item-F Item ItemArm) → WalkTall (item_nest_step (map-Item Item ItemArm ℕ ℕ item_nest item_arm_nest x)) (item_step site (map-Item Item ItemArm Walk ArmWalk (item_walk site) item_arm_walk x)) → Claim (roll-Item x)
  item-roll x own = roll-claim WalkTall _ _ _ _
      (fold-roll-Item ℕ ℕ item_nest_step item_arm_nest_step x)
      (fold-roll-Item Walk ArmWalk (item_step site) (item_arm_step site) x) own

  arm-roll : (x : ItemArm-F Item ItemArm) → ArmWalkTall (item_arm_nest_step (map-ItemArm Item ItemArm ℕ ℕ item_nest item_arm_nest x)) (item_arm_step site (map-ItemArm Item ItemArm Walk ArmWalk (item_walk site) item_arm_walk x)) → ArmClaim (roll-ItemArm x)
  arm-roll x own = roll-claim ArmWalkTall _ _ _ _
      (fold-roll-ItemArm ℕ ℕ item_nest_step item_arm_nest_step x)
      (fold-roll-ItemArm Walk ArmWalk (item_step site) (item_arm_step site) x) own

  -- a part of an item beside its claim
  abbrev S : Type 0
  S = (s : Item) × Claim s

  abbrev A : Type 0
  A = (a : ItemArm) × ArmClaim a

  items-tall : (body : List S) → AllWalksTall (map item_nest (map (λ s. s.0) body)) (map (item_walk site) (map (λ s. s.0) body))
  items-tall [] = tt
  items-tall ((s, own) ∷ body) = (own, items-tall body)

  choice-tall : (arms : List A) → AllArmWalksTall (map item_arm_nest (map (λ a. a.0) arms)) (map item_arm_walk (map (λ a. a.0) arms))
  choice-tall [] = tt
  choice-tall ((a, own) ∷ arms) = (own, choice-tall arms)

  item-case : (y : Item-F S A) → Claim (roll-Item (map-Item S A Item ItemArm (λ s. s.0) (λ a. a.0) y))
  item-case (Item-F.Comp at name index soft model args) = item-roll (Item-F.Comp at name index soft model args) (record { tall = λ scope. (comp-tall site.around heights index model args).tall scope })
  item-case (Item-F.Link at source target via) = item-roll (Item-F.Link at source target via) (record { tall = λ scope. (link-tall at source target via).tall scope })
  item-case (Item-F.Let name e) = item-roll (Item-F.Let name e) (record { tall = λ scope. (let-tall site.around false name (nest e) (judge site.around e) (expr-tall site.around heights e)).tall scope })
  item-case (Item-F.If arms None) = item-roll (Item-F.If (map (λ a. a.0) arms) None)
      (record { tall = λ scope. (if-tall _ _ (choice-tall arms) None None no-last).tall scope })
  item-case (Item-F.If arms (Some body)) = item-roll (Item-F.If (map (λ a. a.0) arms) (Some (map (λ s. s.0) body)))
      (record { tall = λ scope. (if-tall _ _ (choice-tall arms) _ _ (some-last _ _ (items-tall body))).tall scope })
  item-case (Item-F.For name e body) = item-roll (Item-F.For name e (map (λ s. s.0) body))
      (record { tall = λ scope. (for-tall site.around name (nest e) (judge site.around e) (expr-tall site.around heights e) _ _ (items-tall body)).tall scope })

  arm-case : (y : ItemArm-F S A) → ArmClaim (roll-ItemArm (map-ItemArm S A Item ItemArm (λ s. s.0) (λ a. a.0) y))
  arm-case y = arm-roll (record { cond = y.cond; body = map (λ s. s.0) y.body })
      (record { tall = λ height scope. (arm-tall (nest y.cond) (judge site.around y.cond) (expr-tall site.around heights y.cond) _ _ (items-tall y.body)).tall height scope })

  pub item-tall : (s : Item) → WalkTall (item_nest s) (item_walk site s)
  item-tall = ind-Item Claim ArmClaim
      (λ x y is. subst (λ (z : Item-F Item ItemArm). Claim (roll-Item z)) is (item-case y))
      (λ x y is. subst (λ (z : ItemArm-F Item ItemArm). ArmClaim (roll-ItemArm z)) is (arm-case y))
