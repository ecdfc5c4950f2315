-- Declaration by declaration: the functions before each.
use Rattle.std.proofs.Common.{◌≡◌, ℕ, ◌+◌, Bool, true, false, ◌&&◌, if◌then◌else◌, List, [], ◌∷◌, ◌++◌, length, Result, Ok, refl, sym, ◌∙◌, ap, subst}
use Rattle.std.specs.List.{list_all}
use Rattle.std.proofs.lemmas.List.{length-append}
use Rattle.dsde_language.specs.given.names.Table.{is_among}
use Rattle.dsde_language.specs.given.syntax.id_Id.{Id}
use Rattle.dsde_language.specs.given.syntax.type_name_TypeName.{TypeName}
use Rattle.dsde_language.specs.given.syntax.expr_Expr.{Expr}
use Rattle.dsde_language.specs.given.syntax.stmt_Stmt.{Stmt}
use Rattle.dsde_language.specs.given.syntax.decl_Decl.{Decl}
use Rattle.dsde_language.specs.given.syntax.decl_Decl_TheVariants as decl
use Rattle.dsde_language.specs.given.syntax.decl_Typed as syntax
use Rattle.dsde_language.specs.given.values.types_Field.{Field}
use Rattle.dsde_language.specs.given.values.types_Types.{Types}
use Rattle.dsde_language.specs.declared.known.Known.{Known}
use Rattle.dsde_language.specs.declared.signatures.Func.{Func}
use Rattle.dsde_language.specs.declared.wrong.Wrong.{Wrong}
use Rattle.dsde_language.specs.declared.wrong.WrongKind.TheVariants.{Duplicate}
use Rattle.dsde_language.specs.Steps.{apart}
use Rattle.dsde_language.specs.Steps as rules
use Rattle.dsde_language.specs.RuleTables.{added, by_text, func_name, text_params}
use Rattle.dsde_language.specs.Blocks.{func_of, body_names}
use Rattle.dsde_language.specs.Rules.{own_name, apart_all, distinct, behind_type, behind_func, record_rule, atomic_rule, network_rule, top_rule, around_with, decl_rule}
use Rattle.dsde_language.specs.Pieces.{Step, Piece, Next, behind, give, over, ◌>>=◌}
use Rattle.dsde_language.specs.DeclaredModels.{model_id, with_func, with_funcs}
use Rattle.dsde_language.specs.Items.{resolve_all, resolve_items}
use Rattle.dsde_language.specs.Statements.{resolve_func, resolve_body, body_scope}
use Rattle.dsde_language.specs.DeclaredStructures.{place_of_items}
use Rattle.dsde_language.specs.NodeModels.{Parts, resolve_decls}
use Rattle.dsde_language.specs.Meaning.{Function}
use Rattle.dsde_language.specs.Functions.{with_function, functions_from}
use Rattle.dsde_language.specs.MeaningTables.{Coded}
use Rattle.dsde_language.specs.Typed.{Typed, Sound}
use Rattle.dsde_language.specs.Scopes.{Stands, Within, Serve, Calls}
use Rattle.dsde_language.specs.Proper.{are_plain, is_proper, is_proper_stmt, is_proper_decl}
use Rattle.dsde_language.specs.Agreement.{ExpressionsAgree, BlocksAgree}
use Rattle.dsde_sound_expressions.specs.Places.{known_behind}
use Rattle.dsde_sound_expressions.specs.lemmas.Standing.{stands-head, stands-tail, stands-left, stands-right}
use Rattle.dsde_sound_expressions.specs.lemmas.Steps.{went, ok-is, unless-is}
use Rattle.dsde_sound_expressions.specs.lemmas.Truths.{and-left, and-right}
use Rattle.dsde_sound_expressions.proofs.Names.{Grows, grows-none, grows-more}
use Rattle.dsde_sound_expressions.proofs.FuncAgrees.{FuncAgrees, func-agrees}
use Rattle.dsde_sound_expressions.proofs.Frame.{Frame, frame-same, frame-func, still-called}

module _ {A : Type 0} where
  grows-then : (one two three : List A) → Grows one two → Grows two three → Grows one three
  grows-then one two three g h = grows-more one g.more three (record { more = h.more; is = h.is ∙ ap (λ (l : List A). l ++ h.more) g.is })

added-grows : (b : Bool) (items : List Func) (item : Func) → Grows items (if b then items else (items ++ item ∷ []))
added-grows true items item = grows-none items
added-grows false items item = record { more = item ∷ []; is = refl }

func-grows : (word : Known) (own : Decl) → Grows word.funcs (with_func word own).funcs
func-grows word (decl.Enum name variants) = grows-none word.funcs
func-grows word (decl.Rec name fields) = grows-none word.funcs
func-grows word (decl.Func name params result stmts value) =
    added-grows (is_among func_name word.funcs name.name) word.funcs (record { name = name.name; params = text_params word.words params; result = by_text word.words result; height = 0 })
func-grows word (decl.Atomic at name params body) = grows-none word.funcs
func-grows word (decl.Network at name params ports exec_at body items) = grows-none word.funcs
func-grows word (decl.Top at name args) = grows-none word.funcs

-- Functions are behind those before them: by text, and over names.
funcs-grow : (decls : List Decl) (word : Known) → Grows word.funcs (with_funcs word decls).funcs
funcs-grow [] word = grows-none word.funcs
funcs-grow (own ∷ decls) word =
    grows-then word.funcs (with_func word own).funcs (with_funcs (with_func word own) decls).funcs (func-grows word own) (funcs-grow decls (with_func word own))

function-grows : (whole : Known) (before : List Function) (own : Decl) → Grows before (with_function whole before own)
function-grows whole before (decl.Enum name variants) = grows-none before
function-grows whole before (decl.Rec name fields) = grows-none before
function-grows whole before (decl.Func name params result stmts value) = record { more = _; is = refl }
function-grows whole before (decl.Atomic at name params body) = grows-none before
function-grows whole before (decl.Network at name params ports exec_at body items) = grows-none before
function-grows whole before (decl.Top at name args) = grows-none before

functions-grow : (whole : Known) (decls : List Decl) (before : List Function) → Grows before (functions_from whole before decls)
functions-grow whole [] before = grows-none before
functions-grow whole (own ∷ decls) before =
    grows-then before (with_function whole before own) (functions_from whole (with_function whole before own) decls) (function-grows whole before own) (functions-grow whole decls (with_function whole before own))

-- Declarations stand in tables from these numbers on.
pub record Tabled (coded : Coded) (count : ℕ) (next : Next) (piece : Piece Parts) : Type 0 where
  pub nodes : Stands coded.nodes next.node piece.nodes
  pub blocks : Stands coded.blocks next.block piece.blocks
  pub functions : Stands coded.functions count piece.own.functions

module _ (coded : Coded) (count : ℕ) where
  -- what stands behind a piece
  pub tabled-behind : {A : Type 0} (first : Step A) (rest : A → Step Parts) (scope : List Field) (next : Next) → Tabled coded count next ((first >>= rest) scope next)
      → Tabled coded count (behind next (first scope next)) (rest (first scope next).own (first scope next).scope (behind next (first scope next)))
  tabled-behind first rest scope next t =
      let one = first scope next in
      let two = rest one.own one.scope (behind next one) in
      record {
        nodes = stands-right coded.nodes next.node one.nodes two.nodes t.nodes;
        blocks = stands-right coded.blocks next.block one.blocks two.blocks t.blocks;
        functions = t.functions;
      }

  pub tabled-given : (rest : Step Parts) (change : Parts → Parts) (scope : List Field) (next : Next) → ((parts : Parts) → (change parts).functions ≡ parts.functions)
      → Tabled coded count next ((rest >>= (λ parts. give (change parts))) scope next) → Tabled coded count next (rest scope next)
  tabled-given rest change scope next keeps t =
      let one = rest scope next in
      record {
        nodes = stands-left coded.nodes next.node one.nodes [] t.nodes;
        blocks = stands-left coded.blocks next.block one.blocks [] t.blocks;
        functions = subst (λ l. Stands coded.functions count l) (keeps one.own) t.functions;
      }

module _ (types : Types) (coded : Coded) (whole : Known) (exprs : ExpressionsAgree) (blocks : BlocksAgree) (rest : List Decl) where
  -- A place among declarations, with the functions before it; these declarations are between it and another place.
  pub record Here (known word : Known) (done : List Function) (names : List (List ℕ)) (between : List Decl) (scope : List Field) (next : Next) : Type 0 where
    pub frame : Frame types coded whole known word done names
    pub inside : (mid more : List Decl) (there : Known) → between ≡ mid ++ more → known_behind known mid ≡ Ok there → Within types there whole
    pub differ : (u : Unit {0}) × (apart_all names (between ++ rest) ≡ Ok u)
    pub proper : list_all is_proper_decl (between ++ rest) ≡ true
    pub told : with_funcs word (between ++ rest) ≡ whole
    pub tabled : Tabled coded (length done) next (resolve_decls whole (between ++ rest) scope next)

  -- what holds of the functions at a place
  pub record Ended (known : Known) (functions : List Function) : Type 0 where
    pub serve : Serve types known functions
    pub calls : Calls types coded known whole functions

  abbrev pub Claim : List Decl → Type 0
  Claim between = (known word end : Known) (done : List Function) (names : List (List ℕ)) (scope : List Field) (next : Next)
      → Here known word done names between scope next → known_behind known between ≡ Ok end → Ended end (functions_from whole done (between ++ rest))

  ended-more : (known word : Known) (done all : List Function) (names : List (List ℕ)) → Frame types coded whole known word done names → Grows done all → Ended known all
  ended-more known word done all names f g =
      subst (λ (l : List Function). Ended known l) (sym g.is) (record {
        serve = λ name func h. record {
          sound = λ values own. subst (λ o. Sound false (Typed types func.result) o) (sym (still-called known.funcs done g.more name func values f.same h)) ((f.serve name func h).sound values own);
        };
        calls = λ name func depth values h own least high. f.calls name func depth values h own least high ∙ sym (still-called known.funcs done g.more name func values f.same h);
      })

  none-claim : Claim []
  none-claim known word end done names scope next here h =
      subst (λ (k : Known). Ended k (functions_from whole done rest)) (ok-is known end h)
      (ended-more known word done (functions_from whole done rest) names here.frame (functions-grow whole rest done))

  module _ (own : Decl) (between : List Decl) (claim : Claim between) (known word end : Known) (done : List Function) (names : List (List ℕ)) (scope : List Field) (next : Next)
      (here : Here known word done names (own ∷ between) scope next) where
    abbrev more_names : List (List ℕ)
    more_names = names ++ (own_name own).name ∷ []

    -- the place behind a declaration
    here-behind : (more : Known) (functions : List Function) (scope2 : List Field) (next2 : Next) → decl_rule known own ≡ Ok more
        → Frame types coded whole more (with_func word own) functions more_names
        → Tabled coded (length functions) next2 (resolve_decls whole (between ++ rest) scope2 next2)
        → Here more (with_func word own) functions more_names between scope2 next2
    here-behind more functions scope2 next2 judged frame tabled = record {
      frame = frame;
      inside = λ mid last there split go. here.inside (own ∷ mid) last there (ap (λ (l : List Decl). own ∷ l) split)
          (ap (λ (r : Result Known Wrong). rules.◌>>=◌ r (λ k. known_behind k mid)) judged ∙ go);
      differ = let w = went (apart names (own_name own)) (λ _. apart_all more_names (between ++ rest)) here.differ.0 here.differ.1 in (here.differ.0, w.next);
      proper = and-right (is_proper_decl own) _ here.proper;
      told = here.told;
      tabled = tabled;
    }

    -- a declaration that is no function
    other-step : known_behind known (own ∷ between) ≡ Ok end → ((more : Known) → decl_rule known own ≡ Ok more → known.funcs ≡ more.funcs) → with_func word own ≡ word → with_function whole done own ≡ done
        → (scope2 : List Field) (next2 : Next) → Tabled coded (length done) next2 (resolve_decls whole (between ++ rest) scope2 next2)
        → Ended end (functions_from whole done (own ∷ between ++ rest))
    other-step h keeps words functions scope2 next2 tabled =
        let w = went (decl_rule known own) (λ k. known_behind k between) end h in
        subst (λ (l : List Function). Ended end (functions_from whole l (between ++ rest))) (sym functions)
        (claim w.value (with_func word own) end done more_names scope2 next2
        (here-behind w.value done scope2 next2 w.first
        (subst (λ (k : Known). Frame types coded whole w.value k done more_names) (sym words)
        (frame-same types coded whole known w.value word done names (own_name own).name here.frame (keeps w.value w.first)))
        tabled)
        w.next)

  -- a function
  module _ (name : Id) (params : List syntax.Typed) (result : TypeName) (stmts : List Stmt) (value : Expr) (between : List Decl) (claim : Claim between) (known word end : Known) (done : List Function)
      (names : List (List ℕ)) (scope : List Field) (next : Next) where
    abbrev own_decl : Decl
    own_decl = decl.Func name params result stmts value

    func-step : Here known word done names (own_decl ∷ between) scope next → known_behind known (own_decl ∷ between) ≡ Ok end → Ended end (functions_from whole done (own_decl ∷ between ++ rest))
    func-step here h =
        let w = went (decl_rule known own_decl) (λ k. known_behind k between) end h in
        let v = went (func_of known name params result stmts value) (λ func. Ok (behind_func known func)) w.value w.first in
        let is : behind_func known v.value ≡ w.value = ok-is (behind_func known v.value) w.value v.next in
        let one = resolve_func whole params stmts value scope next in
        let next2 : Next = behind next one in
        let others = resolve_decls whole (between ++ rest) scope next2 in
        let text : Func = record { name = name.name; params = text_params word.words params; result = by_text word.words result; height = 0 } in
        let functions : List Function = with_function whole done own_decl in
        let proper : is_proper_decl own_decl ≡ true = and-left (is_proper_decl own_decl) _ here.proper in
        let inner : (list_all is_proper_stmt stmts && is_proper value) ≡ true = and-right (are_plain params) _ proper in
        let apart_is = went (apart names name) (λ _. apart_all (names ++ name.name ∷ []) (between ++ rest)) here.differ.0 here.differ.1 in
        let new : is_among (λ (n : List ℕ). n) names name.name ≡ false = unless-is (is_among (λ (n : List ℕ). n) names name.name) Duplicate name.at apart_is.value apart_is.first in
        let agrees : FuncAgrees types coded whole done name params stmts value one.own v.value =
        func-agrees types coded whole known done (here.inside [] (own_decl ∷ between) known refl refl) here.frame.serve here.frame.calls exprs blocks name params result stmts value v.value v.first
        (and-left _ _ inner) (and-right _ _ inner) scope next
        (stands-left coded.nodes next.node one.nodes (others.nodes ++ []) here.tabled.nodes)
        (stands-left coded.blocks next.block one.blocks (others.blocks ++ []) here.tabled.blocks) in
        let frame : Frame types coded whole (behind_func known v.value) (with_func word own_decl) functions (names ++ name.name ∷ []) =
        frame-func types coded whole known word done names here.frame name params stmts value one.own v.value text agrees new refl
        (stands-head coded.functions (length done) one.own others.own.functions here.tabled.functions)
        (subst (λ (k : Known). Grows (added func_name word.funcs text) k.funcs) here.told (funcs-grow (between ++ rest) (with_func word own_decl))) in
        let long : length functions ≡ length done + 1 = length-append done _ in
        let tabled : Tabled coded (length functions) next2 others =
        record {
          nodes = stands-left coded.nodes next2.node others.nodes [] (stands-right coded.nodes next.node one.nodes (others.nodes ++ []) here.tabled.nodes);
          blocks = stands-left coded.blocks next2.block others.blocks [] (stands-right coded.blocks next.block one.blocks (others.blocks ++ []) here.tabled.blocks);
          functions = subst (λ (n : ℕ). Stands coded.functions n others.own.functions) (sym long)
              (stands-tail coded.functions (length done) one.own others.own.functions here.tabled.functions);
        } in
        claim w.value (with_func word own_decl) end functions (names ++ name.name ∷ []) scope next2
        (here-behind own_decl between claim known word end done names scope next here w.value functions scope next2 w.first
        (subst (λ (k : Known). Frame types coded whole k (with_func word own_decl) functions (names ++ name.name ∷ [])) is frame)
        tabled)
        w.next

  -- The functions that are known behind declarations keep their types, and mean in tables what they mean over names.
  pub walk-decls : (between : List Decl) → Claim between
  walk-decls [] known word end done names scope next here h = none-claim known word end done names scope next here h
  walk-decls (decl.Enum name variants ∷ between) known word end done names scope next here h =
      other-step (decl.Enum name variants) between (walk-decls between) known word end done names scope next here h
      (λ more own. let w = went (distinct [] variants) (λ _. Ok (behind_type known name)) more own in ap (λ (k : Known). k.funcs) (ok-is (behind_type known name) more w.next))
      refl refl scope next here.tabled
  walk-decls (decl.Rec name fields ∷ between) known word end done names scope next here h =
      other-step (decl.Rec name fields) between (walk-decls between) known word end done names scope next here h
      (λ more own. let w = went (record_rule known name fields) (λ _. Ok (behind_type known name)) more own in ap (λ (k : Known). k.funcs) (ok-is (behind_type known name) more w.next))
      refl refl scope next here.tabled
  walk-decls (decl.Func name params result stmts value ∷ between) known word end done names scope next here h =
      func-step name params result stmts value between (walk-decls between) known word end done names scope next here h
  walk-decls (decl.Atomic at name params body ∷ between) known word end done names scope next here h =
      let first = resolve_body whole params at body in
      let others = resolve_decls whole (between ++ rest) in
      let one = first scope next in
      other-step (decl.Atomic at name params body) between (walk-decls between) known word end done names scope next here h
      (λ more own. let w = went (atomic_rule (around_with known (body_names params body)) at name params body) (λ _. Ok known) more own in ap (λ (k : Known). k.funcs) (ok-is known more w.next))
      refl refl one.scope (behind next one)
      (tabled-given coded (length done) others (λ parts. record parts { codes = one.own ∷ parts.codes; makes = [] ∷ parts.makes }) one.scope (behind next one) (λ parts. refl)
      (tabled-behind coded (length done) first (λ code. others >>= (λ parts. give (record parts { codes = code ∷ parts.codes; makes = [] ∷ parts.makes }))) scope next here.tabled))
  walk-decls (decl.Network at name params ports exec_at body items ∷ between) known word end done names scope next here h =
      let first = resolve_body whole params exec_at body in
      let second = over (body_scope whole params body) (resolve_items (place_of_items whole ports body items) items) in
      let others = resolve_decls whole (between ++ rest) in
      let one = first scope next in
      let two = second one.scope (behind next one) in
      let last : Next = behind (behind next one) two in
      other-step (decl.Network at name params ports exec_at body items) between (walk-decls between) known word end done names scope next here h
      (λ more own. let w = went (network_rule (around_with known (body_names params body)) name params ports exec_at body items) (λ _. Ok known) more own in ap (λ (k : Known). k.funcs) (ok-is known more w.next))
      refl refl two.scope last
      (tabled-given coded (length done) others (λ parts. record parts { codes = one.own ∷ parts.codes; makes = two.own ∷ parts.makes }) two.scope last (λ parts. refl)
      (tabled-behind coded (length done) second (λ makes. others >>= (λ parts. give (record parts { codes = one.own ∷ parts.codes; makes = makes ∷ parts.makes }))) one.scope (behind next one)
      (tabled-behind coded (length done) first (λ code. second >>= (λ makes. others >>= (λ parts. give (record parts { codes = code ∷ parts.codes; makes = makes ∷ parts.makes })))) scope next here.tabled)))
  walk-decls (decl.Top at name args ∷ between) known word end done names scope next here h =
      let first = resolve_all whole args in
      let others = resolve_decls whole (between ++ rest) in
      let one = first scope next in
      other-step (decl.Top at name args) between (walk-decls between) known word end done names scope next here h
      (λ more own. let w = went (top_rule (around_with known []) at name args) (λ _. Ok known) more own in ap (λ (k : Known). k.funcs) (ok-is known more w.next))
      refl refl one.scope (behind next one)
      (tabled-given coded (length done) others (λ parts. record parts { top_model = model_id whole name.name; top_args = one.own }) one.scope (behind next one) (λ parts. refl)
      (tabled-behind coded (length done) first (λ values. others >>= (λ parts. give (record parts { top_model = model_id whole name.name; top_args = values }))) scope next here.tabled))
