-- A body that is laid stands behind those before it.
use Rattle.std.proofs.Common.{◌≡◌, ℕ, List, [], ◌∷◌, ◌++◌, Result, Ok, Err, OnOk, ap, subst, ◌∙◌}
use Rattle.dsde_syntax.specs.declared.decl.Body.{Body}
use Rattle.dsde_syntax.specs.declared.decl.Typed.{Typed}
use Rattle.dsde_language.specs.declared.known.Known.{Known}
use Rattle.dsde_language.specs.declared.code.Code.{Code}
use Rattle.dsde_language.specs.declared.tables.Tables.{Tables}
use Rattle.dsde_program_bodies.specs.given.program_layout.LayStatements.{lay_body}
use Rattle.dsde_program.specs.Behind.{behind_body}
use Rattle.dsde_program.specs.declared.made.Made.{Made}
use Rattle.dsde_program.proofs.made.behind_body.Goals as goal

body-behind : {T E : Type 0} (result : Result T E) (known : Known) (params : List Typed) (at : ℕ) (body : Body) (made : Made) (code : Code) (tables : Tables) (codes : List Code)
    → code ≡ (lay_body known params at body [] made.tables).own
    → tables ≡ (lay_body known params at body [] made.tables).tables
    → OnOk result (codes ≡ made.codes ++ code ∷ [])
    → OnOk result (record made { codes = codes; tables = tables } ≡ behind_body known params at body made)
body-behind (Ok value) known params at body made code tables codes one two three =
    ap (λ (own : List Code). record made { codes = own; tables = tables }) (three ∙ ap (λ (own : Code). made.codes ++ own ∷ []) one)
    ∙ ap (λ (own : Tables). record made { codes = made.codes ++ (lay_body known params at body [] made.tables).own ∷ []; tables = own }) two
body-behind (Err error) known params at body made code tables codes one two three = three

pub returns : goal.returns
returns c =
    subst (λ (known : Known). OnOk c.push.result (record c.args.made.now { codes = c.push.new.self; tables = c.body.new.tables } ≡ behind_body known c.args.params.now c.args.at c.args.own.now c.args.made.now))
    c.resolver.ensures
    (body-behind c.push.result c.resolver.result.now c.args.params.now c.args.at c.args.own.now c.args.made.now c.in_ok-code.code c.body.new.tables c.push.new.self
    c.in_ok-code.ensures.own c.in_ok-code.ensures.tables c.push.ensures.ok)
