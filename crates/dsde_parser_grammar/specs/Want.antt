-- What a text of the grammar still wants, behind the tokens that have come.
use Rattle.dsde_words.specs.declared.key.Key.{Key}
use Rattle.dsde_syntax.specs.declared.token.Sign.{Sign}

pub data Want : Type 0 where
  -- a reserved word, a sign, an identifier, a type, an expression
  word : (which : Key) → Want
  mark : (which : Sign) → Want
  name : Want
  ty : Want
  expr : Want
  -- ["not"], ["-"]
  negation : Want
  minus : Want
  prim : Want
  -- a suffix, and {suffix}
  suffix : Want
  suffixes : Want
  -- {("*" | ..) neg}, {("+" | ..) mul}, [("==" | ..) sum], {"and" not}, {"or" and}, ["??" or]
  factors : Want
  terms : Want
  comparison : Want
  conjuncts : Want
  disjuncts : Want
  fallback : Want
  -- behind an identifier of an expression: [args | "::" id]
  after_name : Want
  -- behind the "(" of arguments: [expr {"," expr}] ")"
  args_rest : Want
  -- {"," expr}, {"," id ":" expr}
  more_exprs : Want
  more_fields : Want
  -- behind the "[" of an expression: what is left of a list or of a comprehension
  row_rest : Want
  -- ["if" expr]
  test : Want
  -- behind the "else" of an expression
  else_rest : Want
  -- a statement, {statement}, {"else" "if" expr block} ["else" block], and what stands behind "else"
  stmt : Want
  stmts : Want
  other_stmts : Want
  else_stmts : Want
  -- the same for items
  item : Want
  items : Want
  other_items : Want
  else_items : Want
  -- ["[" expr "]"], and what stands behind a component: "is" | ":"
  index : Want
  entry_mark : Want
  -- one end of a link, ["via" ..], ["," id "=" expr]
  end : Want
  via : Want
  via_key : Want
  -- a declaration, {declaration}
  decl : Want
  decls : Want
  -- {"," id}, {"," id ":" type}
  more_names : Want
  more_typed : Want
  -- behind the "(" of parameters: [id ":" type {"," id ":" type}] ")"
  params_rest : Want
  -- a port, {port}, a state variable, {state variable}
  port : Want
  ports : Want
  state : Want
  states : Want
  -- the block of a phase behind its word, or nothing
  phase : (which : Key) → Want
