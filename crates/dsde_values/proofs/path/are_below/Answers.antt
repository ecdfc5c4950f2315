use Rattle.std.proofs.Common.{◌≡◌, Bool, true, false, ◌&&◌, List, [], ◌∷◌, ◌++◌, refl, sym, ◌∙◌, ap, rules, tests}
use Rattle.std.specs.List.{list_all}
use Rattle.std.proofs.lemmas.Iterator.{YieldsList-from_slice}
use Rattle.std.proofs.lemmas.Iterator.Search.{all_from_yields_List}
use Rattle.dsde_values.specs.declared.name.Name.{Name}
use Rattle.dsde_values.specs.Path.{is_component, are_below}
use Rattle.dsde_values.proofs.Names.{are_below-last, may_be_last}
use Rattle.dsde_values.proofs.path.are_below.Goals as goal

none_with : (all later : Bool) → all ≡ false → all ≡ (all && later)
none_with true later none = absurd (cc)
none_with false later none = refl

below_with : (names others : List Name) (last : Name) (all later : Bool) → names ≡ others ++ last ∷ [] → all ≡ list_all is_component others → later ≡ may_be_last last → (all && later) ≡ are_below names
below_with names others last all later cut are is = rw (are, is, cut) (sym (are_below-last others last))

pub returns-then-all : goal.returns-then-all
returns-then-all c =
    let all : c.all.result ≡ list_all is_component c.in-Some.others.now =
    all_from_yields_List is_component _ _ _ c.all.ensures.ran (YieldsList-from_slice c.in-Some.others.now c.iter.ensures.rest) (λ x b q k. search (rules, tests)) in
    ap (λ (first : Bool). first && c.may_be_last.result) (sym c.if-all.true)
    ∙ below_with c.args.names.now c.in-Some.others.now c.in-Some.last.now c.all.result c.may_be_last.result c.in-Some.ensures.cases.0 all c.may_be_last.ensures

pub returns-else-all : goal.returns-else-all
returns-else-all c =
    let all : c.all.result ≡ list_all is_component c.in-Some.others.now =
    all_from_yields_List is_component _ _ _ c.all.ensures.ran (YieldsList-from_slice c.in-Some.others.now c.iter.ensures.rest) (λ x b q k. search (rules, tests)) in
    none_with c.all.result (may_be_last c.in-Some.last.now) c.if-all.false
    ∙ below_with c.args.names.now c.in-Some.others.now c.in-Some.last.now c.all.result (may_be_last c.in-Some.last.now) c.in-Some.ensures.cases.0 all refl
