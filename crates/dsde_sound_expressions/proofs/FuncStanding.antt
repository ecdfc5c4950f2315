-- Each function stands at its number.
use Rattle.std.proofs.Common.{◌≡◌, ℕ, zero, suc, ◌+◌, ◌<◌, ◌≤◌, max, true, false, ◌&&◌, List, [], ◌∷◌, ◌++◌, length, Some, Ok, refl, sym, ◌∙◌, ap, subst, slice_get, arith, append_assoc}
use Rattle.std.specs.List.{list_all}
use Rattle.dsde_language.specs.given.syntax.id_Id.{Id}
use Rattle.dsde_language.specs.given.syntax.type_name_TypeName.{TypeName}
use Rattle.dsde_language.specs.given.syntax.expr_Expr.{Expr}
use Rattle.dsde_language.specs.given.syntax.stmt_Stmt.{Stmt}
use Rattle.dsde_language.specs.given.syntax.decl_Decl.{Decl}
use Rattle.dsde_language.specs.given.syntax.decl_Decl_TheVariants as decl
use Rattle.dsde_language.specs.given.syntax.decl_Model.{Model}
use Rattle.dsde_language.specs.given.syntax.decl_Typed as syntax
use Rattle.dsde_language.specs.given.values.types_Field.{Field}
use Rattle.dsde_language.specs.declared.known.Around.{Around}
use Rattle.dsde_language.specs.declared.known.Known.{Known}
use Rattle.dsde_language.specs.declared.signatures.Func.{Func}
use Rattle.dsde_language.specs.declared.wrong.WrongKind.TheVariants.{Limit}
use Rattle.dsde_language.specs.Right.{IsRight}
use Rattle.dsde_language.specs.Steps.{above, within}
use Rattle.dsde_language.specs.RuleTables.{known_of}
use Rattle.dsde_language.specs.Judge.{type_of}
use Rattle.dsde_language.specs.Blocks.{params_all, around_func, func_height, func_of}
use Rattle.dsde_language.specs.Rules.{apart_all, behind_func, decl_rule, decls_rule, top_rules, rules}
use Rattle.dsde_language.specs.Steps as steps
use Rattle.dsde_language.specs.declared.code.Code.{Code}
use Rattle.dsde_language.specs.declared.code.FnCode.{FnCode}
use Rattle.dsde_language.specs.declared.node_ids.ExprId.{ExprId}
use Rattle.dsde_language.specs.declared.make.Make.{Make}
use Rattle.dsde_language.specs.Pieces.{Block, Next, Piece, Step, behind, give, over, ◌>>=◌}
use Rattle.dsde_language.specs.Expressions.{resolve}
use Rattle.dsde_language.specs.DeclaredModels.{model_id, whole_of, types_of}
use Rattle.dsde_language.specs.Items.{resolve_all, resolve_items}
use Rattle.dsde_language.specs.Statements.{resolve_func, resolve_body, body_scope}
use Rattle.dsde_language.specs.DeclaredStructures.{place_of_items}
use Rattle.dsde_language.specs.NodeModels.{Parts, resolve_decls, resolved}
use Rattle.dsde_language.specs.Functions.{functions_of}
use Rattle.dsde_language.specs.Meaning.{block}
use Rattle.dsde_language.specs.Scopes.{Stands, Sees, Within}
use Rattle.dsde_language.specs.Proper.{are_plain, is_proper, is_proper_stmt, is_proper_decl}
use Rattle.dsde_language.specs.Agreement.{BlockAgrees, BlocksAgree}
use Rattle.dsde_sound_expressions.specs.IsProper.{ShapedIsProper}
use Rattle.dsde_sound_expressions.specs.Places.{KnownAt, known_behind, piece_of}
use Rattle.dsde_sound_expressions.specs.Laws.{KnownIsWithin}
use Rattle.dsde_sound_expressions.specs.lemmas.Standing.{stands-tail, stands-left, stands-right}
use Rattle.dsde_sound_expressions.specs.lemmas.Seeing.{slots_of, slots-see}
use Rattle.dsde_sound_expressions.specs.lemmas.Steps.{went, ok-is, unless-is}
use Rattle.dsde_sound_expressions.specs.lemmas.Truths.{and-left, and-right}
use Rattle.dsde_sound_expressions.specs.lemmas.Written.{written}
use Rattle.dsde_sound_expressions.specs.Coded.{coded_of, FuncsAgree, FunctionsAgree}
use Rattle.dsde_sound_expressions.specs.Standing.{FuncText, funcs_of, func_slots, FuncStands, HasFunc}
use Rattle.dsde_sound_expressions.proofs.FunctionParams.{params-slots}
use Rattle.dsde_sound_expressions.proofs.FuncAgrees.{Highest, highest-of, not-above}
use Rattle.dsde_sound_expressions.proofs.Decls.{Tabled, tabled-behind, tabled-given}
use Rattle.dsde_sound_expressions.proofs.FunctionWhole.{all-stands, none-wrong, first_next}

-- the place behind declarations and one more
known-snoc : (start known more : Known) (before : List Decl) (own : Decl) → known_behind start before ≡ Ok known → decl_rule known own ≡ Ok more → known_behind start (before ++ own ∷ []) ≡ Ok more
known-snoc start known more [] own is next =
    ap (λ (k : Known). steps.◌>>=◌ (decl_rule k own) (λ m. Ok m)) (ok-is start known is) ∙ ap (λ r. steps.◌>>=◌ r (λ (m : Known). Ok m)) next
known-snoc start known more (first ∷ before) own is next =
    let w = went (decl_rule start first) (λ k. known_behind k before) known is in
    ap (λ r. steps.◌>>=◌ r (λ (k : Known). known_behind k (before ++ own ∷ []))) w.first ∙ known-snoc w.value known more before own w.next next

module _ (model : Model) (right : IsRight model) (agree : BlocksAgree) (inside : KnownIsWithin) (functions : FunctionsAgree) where
  abbrev whole : Known
  whole = whole_of model

  -- A function in which nothing is wrong stands where it is resolved.
  one-stands : (known : Known) → KnownAt model known → (name : Id) (params : List syntax.Typed) (result : TypeName) (stmts : List Stmt) (value : Expr) (func : Func)
      → func_of known name params result stmts value ≡ Ok func → list_all is_proper_stmt stmts ≡ true → is_proper value ≡ true → (scope : List Field) (next : Next)
      → Stands (resolved model).nodes next.node (resolve_func whole params stmts value scope next).nodes
      → Stands (resolved model).blocks next.block (resolve_func whole params stmts value scope next).blocks
      → FuncStands model (let text : FuncText = record { params = params; result = result; stmts = stmts; value = value } in text) (resolve_func whole params stmts value scope next).own
  one-stands known at name params result stmts value func h stmts_proper value_proper scope next nodes blocks =
      let text : FuncText = record { params = params; result = result; stmts = stmts; value = value } in
      let around : Around = around_func known in
      let within_whole : Within (types_of model) known whole = inside model known right at in
      let calls : FuncsAgree model known = functions model known right at in
      let w1 = went (params_all known [] params) _ func h in
      let w2 = went (type_of known result) _ func w1.next in
      let w3 = went (func_height around stmts value w2.value.ty w1.value) _ func w2.next in
      let w4 = went (within name.at w3.value) _ func w3.next in
      let low : w3.value ≤ 512 = not-above w3.value (unless-is _ Limit name.at w4.value w4.first) in
      let high : Highest known stmts value w2.value.ty w1.value w3.value = highest-of known stmts value w2.value.ty w1.value w3.value w3.first in
      let most : max high.passed.height (above high.found.height) ≡ w3.value = high.is in
      let slots : List Field = func_slots model text in
      let same : slots ≡ slots_of w1.value = params-slots (types_of model) known whole within_whole params [] w1.value w1.first in
      let sees : Sees false w1.value slots = subst (λ (l : List Field). Sees false w1.value l) (sym same) (slots-see w1.value) in
      let inner : Next = record next { block = next.block + 1 } in
      let piece : Piece Block = piece_of model slots [] stmts inner in
      let values : ℕ = next.node + length piece.nodes in
      let body : BlockAgrees (types_of model) (coded_of model) false [] high.passed slots inner piece (block whole (functions_of model) [] stmts) =
      agree (types_of model) (coded_of model) whole (functions_of model) around [] [] stmts w1.value high.passed slots inner within_whole calls.serve calls.calls
      (record { slotted = λ name port h out. cc }) stmts_proper high.walked sees in
      record {
        block = record {
          around = around;
          ports = [];
          scope = w1.value;
          passed = high.passed;
          next = inner;
          known = at;
          proper = stmts_proper;
          judged = high.walked;
          low = omega (arith, low, most);
          sees = sees;
          sends = record { slotted = λ name port h out. cc };
          behind = refl;
          nodes = stands-left (resolved model).nodes next.node piece.nodes ((resolve whole value).nodes piece.scope values ++ []) nodes;
          blocks = stands-left (resolved model).blocks next.block (piece.own ∷ piece.blocks) [] blocks;
        };
        value = record {
          around = around;
          scope = high.passed.scope;
          found = high.found;
          known = at;
          is_total = refl;
          proper = value_proper;
          judged = high.judged;
          of = high.of ∙ sym (written known whole within_whole.words result w2.value w2.first);
          low = omega (arith, low, most);
          sees = body.sees;
          stands =
              stands-left (resolved model).nodes values ((resolve whole value).nodes piece.scope values) []
              (stands-right (resolved model).nodes next.node piece.nodes ((resolve whole value).nodes piece.scope values ++ []) nodes);
        };
      }

  -- functions, each as it is resolved
  abbrev AllStand : List FuncText → List FnCode → Type 0
  AllStand [] [] = Unit {0}
  AllStand (text ∷ texts) (code ∷ codes) = FuncStands model text code × AllStand texts codes
  AllStand _ _ = ⊥

  -- declarations at a place, and where they stand in the tables
  record Here (known : Known) (rest : List Decl) (count : ℕ) (scope : List Field) (next : Next) : Type 0 where
    before : List Decl
    split : model.decls ≡ before ++ rest
    is : known_behind (known_of model.decls) before ≡ Ok known
    judged : decls_rule known rest ≡ Ok tt
    proper : list_all is_proper_decl rest ≡ true
    tabled : Tabled (coded_of model) count next (resolve_decls whole rest scope next)

  at-here : (known : Known) (rest : List Decl) (count : ℕ) (scope : List Field) (next : Next) → Here known rest count scope next → KnownAt model known
  at-here known rest count scope next here = record { before = here.before; rest = rest; split = here.split; is = here.is }

  abbrev Claim : List Decl → Type 0
  Claim rest = (known : Known) (count : ℕ) (scope : List Field) (next : Next) → Here known rest count scope next → AllStand (funcs_of rest) (resolve_decls whole rest scope next).own.functions

  -- the declarations behind one
  behind-one : (own : Decl) (rest : List Decl) → Claim rest → (known : Known) (count count2 : ℕ) (scope scope2 : List Field) (next next2 : Next) → Here known (own ∷ rest) count scope next
      → Tabled (coded_of model) count2 next2 (resolve_decls whole rest scope2 next2) → AllStand (funcs_of rest) (resolve_decls whole rest scope2 next2).own.functions
  behind-one own rest claim known count count2 scope scope2 next next2 here tabled =
      let w = went (decl_rule known own) (λ k. decls_rule k rest) tt here.judged in
      claim w.value count2 scope2 next2 (record {
        before = here.before ++ own ∷ [];
        split = here.split ∙ sym (append_assoc here.before (own ∷ []) rest);
        is = known-snoc (known_of model.decls) known w.value here.before own here.is w.first;
        judged = w.next;
        proper = and-right (is_proper_decl own) (list_all is_proper_decl rest) here.proper;
        tabled = tabled;
      })

  walk : (rest : List Decl) → Claim rest
  walk [] known count scope next here = tt
  walk (decl.Enum name variants ∷ rest) known count scope next here = behind-one (decl.Enum name variants) rest (walk rest) known count count scope scope next next here here.tabled
  walk (decl.Rec name fields ∷ rest) known count scope next here = behind-one (decl.Rec name fields) rest (walk rest) known count count scope scope next next here here.tabled
  walk (decl.Func name params result stmts value ∷ rest) known count scope next here =
      let own : Decl = decl.Func name params result stmts value in
      let one = resolve_func whole params stmts value scope next in
      let next2 : Next = behind next one in
      let others = resolve_decls whole rest scope next2 in
      let proper : is_proper_decl own ≡ true = and-left (is_proper_decl own) (list_all is_proper_decl rest) here.proper in
      let parts : (list_all is_proper_stmt stmts && is_proper value) ≡ true = and-right (are_plain params) (list_all is_proper_stmt stmts && is_proper value) proper in
      let w = went (decl_rule known own) (λ k. decls_rule k rest) tt here.judged in
      let v = went (func_of known name params result stmts value) (λ func. Ok (behind_func known func)) w.value w.first in
      let stands = one-stands known (at-here known (own ∷ rest) count scope next here) name params result stmts value v.value v.first (and-left _ (is_proper value) parts) (and-right (list_all is_proper_stmt stmts) _ parts) scope next
      (stands-left (resolved model).nodes next.node one.nodes (others.nodes ++ []) here.tabled.nodes)
      (stands-left (resolved model).blocks next.block one.blocks (others.blocks ++ []) here.tabled.blocks) in (
        stands,
        behind-one own rest (walk rest) known count (count + 1) scope scope next next2 here (record {
          nodes = stands-left (resolved model).nodes next2.node others.nodes [] (stands-right (resolved model).nodes next.node one.nodes (others.nodes ++ []) here.tabled.nodes);
          blocks = stands-left (resolved model).blocks next2.block others.blocks [] (stands-right (resolved model).blocks next.block one.blocks (others.blocks ++ []) here.tabled.blocks);
          functions = stands-tail (resolved model).own.functions count one.own others.own.functions here.tabled.functions;
        }),
      )
  walk (decl.Atomic at name params body ∷ rest) known count scope next here =
      let first : Step Code = resolve_body whole params at body in
      let others : Step Parts = resolve_decls whole rest in
      let one = first scope next in
      behind-one (decl.Atomic at name params body) rest (walk rest) known count count scope one.scope next (behind next one) here
      (tabled-given (coded_of model) count others (λ parts. record parts { codes = one.own ∷ parts.codes; makes = [] ∷ parts.makes }) one.scope (behind next one) (λ parts. refl)
      (tabled-behind (coded_of model) count first (λ code. others >>= (λ parts. give (record parts { codes = code ∷ parts.codes; makes = [] ∷ parts.makes }))) scope next here.tabled))
  walk (decl.Network at name params ports exec_at body items ∷ rest) known count scope next here =
      let first : Step Code = resolve_body whole params exec_at body in
      let second : Step (List Make) = over (body_scope whole params body) (resolve_items (place_of_items whole ports body items) items) in
      let others : Step Parts = resolve_decls whole rest in
      let one = first scope next in
      let two = second one.scope (behind next one) in
      let last : Next = behind (behind next one) two in
      behind-one (decl.Network at name params ports exec_at body items) rest (walk rest) known count count scope two.scope next last here
      (tabled-given (coded_of model) count others (λ parts. record parts { codes = one.own ∷ parts.codes; makes = two.own ∷ parts.makes }) two.scope last (λ parts. refl)
      (tabled-behind (coded_of model) count second (λ makes. others >>= (λ parts. give (record parts { codes = one.own ∷ parts.codes; makes = makes ∷ parts.makes }))) one.scope (behind next one)
      (tabled-behind (coded_of model) count first (λ code. second >>= (λ makes. others >>= (λ parts. give (record parts { codes = code ∷ parts.codes; makes = makes ∷ parts.makes })))) scope next here.tabled)))
  walk (decl.Top at name args ∷ rest) known count scope next here =
      let first : Step (List ExprId) = resolve_all whole args in
      let others : Step Parts = resolve_decls whole rest in
      let one = first scope next in
      behind-one (decl.Top at name args) rest (walk rest) known count count scope one.scope next (behind next one) here
      (tabled-given (coded_of model) count others (λ parts. record parts { top_model = model_id whole name.name; top_args = one.own }) one.scope (behind next one) (λ parts. refl)
      (tabled-behind (coded_of model) count first (λ values. others >>= (λ parts. give (record parts { top_model = model_id whole name.name; top_args = values }))) scope next here.tabled))

  -- the function with a number among them
  record Found (texts : List FuncText) (codes : List FnCode) (number : ℕ) : Type 0 where
    text : FuncText
    found : slice_get texts number ≡ Some text
    code : FnCode
    coded : slice_get codes number ≡ Some code
    stands : FuncStands model text code

  find : (texts : List FuncText) (codes : List FnCode) (number : ℕ) → AllStand texts codes → number < length codes → Found texts codes number
  find [] [] number stand low = absurd (omega (arith, low))
  find [] (code ∷ codes) number stand low = absurd stand
  find (text ∷ texts) [] number stand low = absurd stand
  find (text ∷ texts) (code ∷ codes) zero stand low = record { text = text; found = refl; code = code; coded = refl; stands = stand.0 }
  find (text ∷ texts) (code ∷ codes) (suc number) stand low =
      let rest = find texts codes number stand.1 (omega (arith, low)) in
      record { text = rest.text; found = rest.found; code = rest.code; coded = rest.coded; stands = rest.stands }

  pub functions-stand : ShapedIsProper → (number : ℕ) → number < length (resolved model).own.functions → HasFunc model number
  functions-stand proper number low =
      let start : Known = known_of model.decls in
      let w1 = went (apart_all [] model.decls) (λ _. steps.◌>>=◌ (decls_rule start model.decls) (λ _. top_rules model)) tt (none-wrong (rules model) right.sound) in
      let w2 = went (decls_rule start model.decls) (λ _. top_rules model) tt w1.next in
      let here : Here start model.decls 0 [] first_next = record {
        before = [];
        split = refl;
        is = refl;
        judged = w2.first;
        proper = proper model right.shaped;
        tabled = record { nodes = all-stands (resolved model).nodes; blocks = all-stands (resolved model).blocks; functions = all-stands (resolved model).own.functions };
      } in
      let own = find (funcs_of model.decls) (resolved model).own.functions number (walk model.decls start 0 [] first_next here) low in
      record { text = own.text; found = own.found; code = own.code; coded = own.coded; stands = own.stands }
