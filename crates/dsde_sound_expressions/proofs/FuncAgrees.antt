-- One function: it keeps its types, and means in tables what it means over names.
use Rattle.std.proofs.Common.{◌≡◌, ℕ, zero, suc, ◌+◌, ◌==◌, ◌≤◌, max, nat_lt, Bool, true, false, if◌then◌else◌, List, [], ◌++◌, map, length, Option, Some, Ok, Err, refl, sym, ◌∙◌, ap, subst, slice_get, arith}
use Rattle.std.specs.List.{list_all}
use Rattle.std.proofs.lemmas.Bool.Decides.{nat_tests}
use Rattle.dsde_language.specs.given.syntax.id_Id.{Id}
use Rattle.dsde_language.specs.given.syntax.type_name_TypeName.{TypeName}
use Rattle.dsde_language.specs.given.syntax.expr_Expr.{Expr}
use Rattle.dsde_language.specs.given.syntax.stmt_Stmt.{Stmt}
use Rattle.dsde_language.specs.given.syntax.decl_Typed as syntax
use Rattle.dsde_language.specs.given.values.types_Field.{Field}
use Rattle.dsde_language.specs.given.values.types_Ty.{Ty}
use Rattle.dsde_language.specs.given.values.types_Types.{Types}
use Rattle.dsde_language.specs.given.values.value_Value.{Value}
use Rattle.dsde_language.specs.declared.known.Around.{Around}
use Rattle.dsde_language.specs.declared.known.Known.{Known}
use Rattle.dsde_language.specs.declared.seen.Seen.{Seen}
use Rattle.dsde_language.specs.declared.signatures.Func.{Func}
use Rattle.dsde_language.specs.declared.wrong.WrongKind.TheVariants.{Limit}
use Rattle.dsde_language.specs.Steps.{above, within}
use Rattle.dsde_language.specs.Types.{wanted}
use Rattle.dsde_language.specs.Judge.{judge, type_of}
use Rattle.dsde_language.specs.Judge as rules
use Rattle.dsde_language.specs.Blocks.{Passed, walk, walk_all, params_all, around_func, return_of, func_height, func_of}
use Rattle.dsde_language.specs.declared.code.FnCode.{FnCode}
use Rattle.dsde_language.specs.declared.node.Node.{Node}
use Rattle.dsde_language.specs.Names.{with_slots}
use Rattle.dsde_language.specs.Expressions.{resolve, expr_id}
use Rattle.dsde_language.specs.Pieces.{Block, Next, Piece}
use Rattle.dsde_language.specs.DeclaredModels.{typed_fields}
use Rattle.dsde_language.specs.Statements.{resolve_stmts, resolve_func}
use Rattle.dsde_language.specs.Outcome.{Halt, Fault, Stuck, Outcome, ◌>>=◌}
use Rattle.dsde_language.specs.Flow.{Flow, lifted}
use Rattle.dsde_language.specs.Meaning.{Vars, Function, Scene, scene, mean, block}
use Rattle.dsde_language.specs.Functions.{bound_params, body_of, run_func}
use Rattle.dsde_language.specs.MeaningTables.{Coded, State, state_of, means_in, block_at, acts_flow, run_code}
use Rattle.dsde_language.specs.Typed.{Typed, Sound, AllTyped, Fits, Faults, Lands, shown, seen}
use Rattle.dsde_language.specs.Scopes.{Stands, Sees, Within, Serve, Calls}
use Rattle.dsde_language.specs.Proper.{is_proper, is_proper_stmt}
use Rattle.dsde_language.specs.Agreement.{Agrees, ExpressionsAgree, BlockAgrees, BlocksAgree}
use Rattle.dsde_sound_expressions.specs.lemmas.Standing.{stands-head, stands-tail, stands-left, stands-right}
use Rattle.dsde_sound_expressions.specs.lemmas.Steps.{went, ok-is, unless-is}
use Rattle.dsde_sound_expressions.specs.lemmas.Types.{wanted-is}
use Rattle.dsde_sound_expressions.specs.lemmas.Seeing.{slots_of, slots-see}
use Rattle.dsde_sound_expressions.proofs.FunctionParams.{ty_of, params-slots, Given, params-given}

abbrev pub height_of : Passed → Seen → ℕ
height_of passed found = max passed.height (above found.height)

-- What is judged of a function in which nothing is wrong.
record Judged (known : Known) (id : Id) (params : List syntax.Typed) (stmts : List Stmt) (value : Expr) (func : Func) : Type 0 where
  scope : rules.Scope
  passed : Passed
  found : Seen
  bound : params_all known [] params ≡ Ok scope
  walked : walk_all (map (walk (around_func known) []) stmts) 0 scope ≡ Ok passed
  judged : judge (around_func known) value passed.scope ≡ Ok found
  of : found.ty ≡ func.result
  name : id.name ≡ func.name
  takes : map ty_of scope ≡ func.params
  low : height_of passed found ≤ 512
  high : above (height_of passed found) ≡ func.height

pub not-above : (n : ℕ) → nat_lt 512 n ≡ false → n ≤ 512
not-above n h = grind (arith, nat_tests)

least-is : (n m : ℕ) → n ≡ m → m ≤ 512 → n ≤ 512
least-is n m e h = subst (λ (k : ℕ). k ≤ 512) (sym e) h

abbrev func_as : Id → rules.Scope → Ty → ℕ → Func
func_as id scope own height = record { name = id.name; params = map ty_of scope; result = own; height = above height }

-- the highest statement of a function, `return` among them
pub record Highest (known : Known) (stmts : List Stmt) (value : Expr) (own : Ty) (scope : rules.Scope) (height : ℕ) : Type 0 where
  pub passed : Passed
  pub found : Seen
  pub walked : walk_all (map (walk (around_func known) []) stmts) 0 scope ≡ Ok passed
  pub judged : judge (around_func known) value passed.scope ≡ Ok found
  pub of : found.ty ≡ own
  pub is : height_of passed found ≡ height

pub highest-of : (known : Known) (stmts : List Stmt) (value : Expr) (own : Ty) (scope : rules.Scope) (height : ℕ) → func_height (around_func known) stmts value own scope ≡ Ok height
    → Highest known stmts value own scope height
highest-of known stmts value own scope height h =
    let around : Around = around_func known in
    let v1 = went (walk_all (map (walk around []) stmts) 0 scope) _ height h in
    let v2 = went (return_of (judge around value) own v1.value.scope) _ height v1.next in
    let u1 = went (judge around value v1.value.scope) _ v2.value v2.first in
    let u2 = went (wanted own u1.value) _ v2.value u1.next in
    let last : above u1.value.height ≡ v2.value = ok-is (above u1.value.height) v2.value u2.next in
    let all : max v1.value.height v2.value ≡ height = ok-is (max v1.value.height v2.value) height v2.next in
    record {
      passed = v1.value;
      found = u1.value;
      walked = v1.first;
      judged = u1.first;
      of = sym (wanted-is own u1.value u2.value u2.first);
      is = ap (max v1.value.height) last ∙ all;
    }

judged-as : (known : Known) (id : Id) (params : List syntax.Typed) (stmts : List Stmt) (value : Expr) (func : Func) (scope : rules.Scope) (own : Ty) (height : ℕ) → params_all known [] params ≡ Ok scope
    → Highest known stmts value own scope height → height ≤ 512 → func_as id scope own height ≡ func → Judged known id params stmts value func
judged-as known id params stmts value func scope own height bound high least is = record {
  scope = scope;
  passed = high.passed;
  found = high.found;
  bound = bound;
  walked = high.walked;
  judged = high.judged;
  of = high.of ∙ ap (λ (f : Func). f.result) is;
  name = ap (λ (f : Func). f.name) is;
  takes = ap (λ (f : Func). f.params) is;
  low = least-is (height_of high.passed high.found) height high.is least;
  high = ap above high.is ∙ ap (λ (f : Func). f.height) is;
}

judged-of : (known : Known) (id : Id) (params : List syntax.Typed) (result : TypeName) (stmts : List Stmt) (value : Expr) (func : Func) → func_of known id params result stmts value ≡ Ok func
    → Judged known id params stmts value func
judged-of known id params result stmts value func h =
    let w1 = went (params_all known [] params) _ func h in
    let w2 = went (type_of known result) _ func w1.next in
    let w3 = went (func_height (around_func known) stmts value w2.value.ty w1.value) _ func w2.next in
    let w4 = went (within id.at w3.value) _ func w3.next in
    judged-as known id params stmts value func w1.value w2.value.ty w3.value w1.first (highest-of known stmts value w2.value.ty w1.value w3.value w3.first)
    (not-above w3.value (unless-is (nat_lt 512 w3.value) Limit id.at w4.value w4.first))
    (ok-is (func_as id w1.value w2.value.ty w3.value) func w4.next)

same-count : (n m : ℕ) → n ≡ m → (n == m) ≡ true
same-count n m e = grind (arith, nat_tests)

-- statements whose state no one sees, and a value behind them
sound-halt : {A : Type 0} (Q : A → Type 0) (halt : Halt) → Faults halt → Sound {A = A} false Q (Err halt)
sound-halt Q (Fault kind at) h = refl
sound-halt Q Stuck h = h

sound-lifted : {A : Type 0} (types : Types) (slots : List Field) (Q : A → Type 0) (x : Flow Scene Scene) (f : Scene → Outcome A) → Lands types [] slots x
    → ((after : Scene) → Fits types after.vars slots → Sound false Q (f after)) → Sound false Q (lifted x >>= f)
sound-lifted types slots Q (Ok after) f h next = next after h.0
sound-lifted types slots Q (Err end) f h next = sound-halt Q end.halt h.0

same-lifted : {A : Type 0} (types : Types) (slots : List Field) (x : Flow Scene Scene) (f : Scene → Outcome A) (g : State → Outcome A) → Lands types [] slots x
    → ((after : Scene) → Fits types after.vars slots → g (shown after) ≡ f after) → (lifted (seen x) >>= g) ≡ (lifted x >>= f)
same-lifted types slots (Ok after) f g h next = next after h.0
same-lifted types slots (Err end) f g h next = refl

-- A block stands at its number.
run-at : (coded : Coded) (depth number : ℕ) (acts : Block) (state : State) → slice_get coded.blocks number ≡ Some acts
    → (means_in coded (suc depth)).run (record { 0 = number }) state ≡ acts_flow (means_in coded depth) acts state
unfolding means_in
run-at coded depth number acts state found = ap (λ (o : Option Block). block_at (means_in coded depth) o state) found

-- A function keeps its types, and means in tables what it means over names.
pub record FuncAgrees (types : Types) (coded : Coded) (whole : Known) (before : List Function) (id : Id) (params : List syntax.Typed) (stmts : List Stmt) (value : Expr) (code : FnCode) (func : Func) : Type 0 where
  pub name : id.name ≡ func.name
  pub sound : (values : List Value) → AllTyped types func.params values → Sound false (Typed types func.result) (run_func whole before params stmts value values)
  pub reads : (depth : ℕ) (values : List Value) → AllTyped types func.params values → func.height ≤ 512 → func.height ≤ depth
      → run_code (means_in coded depth) code values ≡ run_func whole before params stmts value values

module _ (types : Types) (coded : Coded) (whole known : Known) (before : List Function) (inside : Within types known whole) (serve : Serve types known before) (calls : Calls types coded known whole before)
    (exprs : ExpressionsAgree) (blocks : BlocksAgree) (id : Id) (params : List syntax.Typed) (stmts : List Stmt) (value : Expr) (func : Func) (own : Judged known id params stmts value func)
    (proper_stmts : list_all is_proper_stmt stmts ≡ true) (proper_value : is_proper value ≡ true) (scope : List Field) (next : Next) where
  abbrev around : Around
  around = around_func known

  abbrev slots : List Field
  slots = with_slots [] (typed_fields whole params)

  abbrev behind : Next
  behind = record next { block = next.block + 1 }

  abbrev piece : Piece Block
  piece = resolve_stmts whole [] stmts slots behind

  abbrev number : ℕ
  number = next.node + length piece.nodes

  abbrev value_nodes : List Node
  value_nodes = (resolve whole value).nodes piece.scope number

  abbrev code : FnCode
  code = (resolve_func whole params stmts value scope next).own

  same-slots : slots ≡ slots_of own.scope
  same-slots = params-slots types known whole inside params [] own.scope own.bound

  given : (values : List Value) → AllTyped types func.params values → Given types params slots values
  given values all =
      subst (λ (l : List Field). Given types params l values) (sym same-slots)
      (params-given types known params own.scope values own.bound (subst (λ (l : List Ty). AllTyped types l values) (sym own.takes) all))

  body : BlockAgrees types coded false [] own.passed slots behind piece (block whole before [] stmts)
  body = blocks types coded whole before around [] [] stmts own.scope own.passed slots behind inside serve calls
      (record { slotted = λ name port h out. cc }) proper_stmts own.walked
      (subst (λ (l : List Field). Sees false own.scope l) (sym same-slots) (slots-see own.scope))

  last : Agrees types coded false false (judge around value) (resolve whole value) (mean whole before value)
  last = exprs types coded whole before around value inside serve calls proper_value

  counted : (values : List Value) → length values ≡ length params → run_func whole before params stmts value values ≡ body_of whole before stmts value (bound_params params values)
  counted values long =
      ap (λ (b : Bool). if b then body_of whole before stmts value (bound_params params values) else Err Stuck) (same-count (length values) (length params) long)

  func-sound : (values : List Value) → AllTyped types func.params values → Sound false (Typed types func.result) (run_func whole before params stmts value values)
  func-sound values all =
      let g = given values all in
      let vars : Vars = bound_params params values in
      subst (λ (o : Outcome Value). Sound false (Typed types func.result) o) (sym (counted values g.long))
      (sound-lifted types piece.scope (Typed types func.result) (block whole before [] stmts (scene vars [])) (λ after. mean whole before value after.vars)
      (body.lands (scene vars []) g.fits tt)
      (λ after fits. subst (λ (t : Ty). Sound false (Typed types t) (mean whole before value after.vars)) own.of
      (last.sound own.passed.scope piece.scope own.found after.vars own.judged body.sees fits)))

  func-reads : Stands coded.nodes next.node (resolve_func whole params stmts value scope next).nodes → Stands coded.blocks next.block (resolve_func whole params stmts value scope next).blocks
      → (depth : ℕ) (values : List Value) → AllTyped types func.params values → func.height ≤ depth
      → run_code (means_in coded depth) code values ≡ run_func whole before params stmts value values
  func-reads nodes acts zero values all high =
      let e : above (height_of own.passed own.found) ≡ func.height = own.high in
      absurd (omega (arith, e, high))
  func-reads nodes acts (suc depth) values all high =
      let g = given values all in
      let e : above (height_of own.passed own.found) ≡ func.height = own.high in
      let least : height_of own.passed own.found ≤ 512 = own.low in
      let vars : Vars = bound_params params values in
      let start : Scene = scene vars [] in
      let does : Flow Scene Scene = block whole before [] stmts start in
      let value_at : State → Outcome Value = λ after. (means_in coded (suc depth)).part (expr_id number) after.slots in
      let here : slice_get coded.blocks next.block ≡ Some piece.own = stands-head coded.blocks next.block piece.own (piece.blocks ++ []) acts in
      let inner : Stands coded.blocks (next.block + 1) piece.blocks =
      stands-left coded.blocks (next.block + 1) piece.blocks [] (stands-tail coded.blocks next.block piece.own (piece.blocks ++ []) acts) in
      let there : Stands coded.nodes number value_nodes =
      stands-left coded.nodes number value_nodes [] (stands-right coded.nodes next.node piece.nodes (value_nodes ++ []) nodes) in
      ap (λ (flow : Flow State State). lifted flow >>= value_at) (run-at coded depth next.block piece.own (state_of values []) here)
      ∙ ap (λ (l : List Value). lifted (acts_flow (means_in coded depth) piece.own (state_of l [])) >>= value_at) (sym g.own)
      ∙ ap (λ (flow : Flow State State). lifted flow >>= value_at)
      (body.runs start depth g.fits tt (stands-left coded.nodes next.node piece.nodes (value_nodes ++ []) nodes) inner (omega (arith, e, least, high)) (omega (arith, e, least, high)))
      ∙ same-lifted types piece.scope does (λ after. mean whole before value after.vars) value_at (body.lands start g.fits tt)
      (λ after fits. last.reads own.passed.scope piece.scope own.found after.vars number (suc depth) own.judged body.sees fits there (omega (arith, e, least, high)) (omega (arith, e, least, high)))
      ∙ sym (counted values g.long)

  func-at : Stands coded.nodes next.node (resolve_func whole params stmts value scope next).nodes → Stands coded.blocks next.block (resolve_func whole params stmts value scope next).blocks
      → FuncAgrees types coded whole before id params stmts value code func
  func-at nodes acts = record {
    name = own.name;
    sound = func-sound;
    reads = λ depth values all low high. func-reads nodes acts depth values all high;
  }

pub func-agrees : (types : Types) (coded : Coded) (whole known : Known) (before : List Function) → Within types known whole → Serve types known before → Calls types coded known whole before
    → ExpressionsAgree → BlocksAgree → (id : Id) (params : List syntax.Typed) (result : TypeName) (stmts : List Stmt) (value : Expr) (func : Func) → func_of known id params result stmts value ≡ Ok func
    → list_all is_proper_stmt stmts ≡ true → is_proper value ≡ true → (scope : List Field) (next : Next)
    → Stands coded.nodes next.node (resolve_func whole params stmts value scope next).nodes → Stands coded.blocks next.block (resolve_func whole params stmts value scope next).blocks
    → FuncAgrees types coded whole before id params stmts value (resolve_func whole params stmts value scope next).own func
func-agrees types coded whole known before inside serve calls exprs blocks id params result stmts value func h stmts_proper value_proper scope next nodes acts =
    func-at types coded whole known before inside serve calls exprs blocks id params stmts value func (judged-of known id params result stmts value func h) stmts_proper value_proper scope next nodes acts
