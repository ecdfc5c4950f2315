-- The functions of a whole model.
use Rattle.std.proofs.Common.{◌≡◌, List, [], ◌++◌, Option, Some, None, Result, Ok, Err, true, refl, sym, ◌∙◌, ap, subst, append_assoc, append-nil}
use Rattle.std.specs.List.{list_all}
use Rattle.dsde_language.specs.given.syntax.decl_Decl.{Decl}
use Rattle.dsde_language.specs.given.syntax.decl_Model.{Model}
use Rattle.dsde_language.specs.given.values.types_Types.{Types}
use Rattle.dsde_language.specs.declared.known.Known.{Known}
use Rattle.dsde_language.specs.declared.wrong.Wrong.{Wrong}
use Rattle.dsde_language.specs.RuleTables.{known_of}
use Rattle.dsde_language.specs.Rules.{apart_all, decls_rule, top_rules, rules}
use Rattle.dsde_language.specs.Steps as steps
use Rattle.dsde_language.specs.Pieces.{Next}
use Rattle.dsde_language.specs.DeclaredModels.{with_funcs, whole_of, types_of}
use Rattle.dsde_language.specs.NodeModels.{resolve_decls}
use Rattle.dsde_language.specs.Right.{IsRight}
use Rattle.dsde_language.specs.Functions.{functions_from}
use Rattle.dsde_language.specs.MeaningTables.{Coded}
use Rattle.dsde_language.specs.Scopes.{Stands}
use Rattle.dsde_language.specs.Proper.{is_proper_decl}
use Rattle.dsde_language.specs.Agreement.{ExpressionsAgree, BlocksAgree}
use Rattle.dsde_sound_expressions.specs.IsProper.{ShapedIsProper}
use Rattle.dsde_sound_expressions.specs.Places.{KnownAt}
use Rattle.dsde_sound_expressions.specs.Laws.{KnownIsWithin}
use Rattle.dsde_sound_expressions.specs.Coded.{coded_of, FuncsAgree}
use Rattle.dsde_sound_expressions.specs.lemmas.Steps.{went}
use Rattle.dsde_sound_expressions.proofs.Decls.{Tabled, Here, Ended, walk-decls}

-- the whole of a table
pub all-stands : {A : Type 0} (table : List A) → Stands table 0 table
all-stands table = record { before = []; rest = []; is = sym (append-nil table); at = refl }

-- Nothing is wrong where no first thing is.
abbrev pub first_of : Result (Unit {0}) Wrong → Option Wrong
first_of tests = elim tests [ Ok _ ↦ None | Err first ↦ Some first ]

pub none-wrong : (tests : Result (Unit {0}) Wrong) → first_of tests ≡ None → tests ≡ Ok tt
none-wrong (Ok u) h = refl
none-wrong (Err first) h = cc

abbrev pub first_next : Next
first_next = record { node = 0; block = 0; via = 0 }

pub functions-agree : ExpressionsAgree → BlocksAgree → KnownIsWithin → ShapedIsProper → (model : Model) (known : Known) → IsRight model → KnownAt model known → FuncsAgree model known
functions-agree exprs blocks within proper model known right at =
    let types : Types = types_of model in
    let coded : Coded = coded_of model in
    let whole : Known = whole_of model in
    let start : Known = known_of model.decls in
    let w = went (apart_all [] model.decls) (λ _. steps.◌>>=◌ (decls_rule start model.decls) (λ _. top_rules model)) tt (none-wrong (rules model) right.sound) in
    let here : Here types coded whole exprs blocks at.rest start start [] [] at.before [] first_next = record {
      frame = record {
        same = refl;
        told = refl;
        among = λ name h. refl;
        serve = λ name func h. cc;
        calls = λ name func depth values h all least high. cc;
      };
      inside = λ mid more there split go. within model there right (record {
        before = mid;
        rest = more ++ at.rest;
        split = at.split ∙ ap (λ (l : List Decl). l ++ at.rest) split ∙ append_assoc mid more at.rest;
        is = go;
      });
      differ = (w.value, subst (λ (l : List Decl). apart_all [] l ≡ Ok w.value) at.split w.first);
      proper = subst (λ (l : List Decl). list_all is_proper_decl l ≡ true) at.split (proper model right.shaped);
      told = ap (with_funcs start) (sym at.split);
      tabled = subst (λ (l : List Decl). Tabled coded 0 first_next (resolve_decls whole l [] first_next)) at.split (record {
        nodes = all-stands coded.nodes;
        blocks = all-stands coded.blocks;
        functions = all-stands coded.functions;
      });
    } in
    let ended : Ended types coded whole exprs blocks at.rest known (functions_from whole [] model.decls) =
    subst (λ (l : List Decl). Ended types coded whole exprs blocks at.rest known (functions_from whole [] l)) (sym at.split)
    (walk-decls types coded whole exprs blocks at.rest at.before start start known [] [] [] first_next here at.is) in
    record { serve = ended.serve; calls = ended.calls }
