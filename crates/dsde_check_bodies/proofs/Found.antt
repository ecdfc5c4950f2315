-- What stands on a name that is found.
use Rattle.std.proofs.Common.{◌≡◌, ◌∙◌, List, Option, Some, None, Result, Ok, not, ap, sym}
use Rattle.dsde_names.specs.Table.{named}
use Rattle.dsde_syntax.specs.declared.id.Id.{Id}
use Rattle.dsde_values.specs.declared.types.Ty.{Ty}
use Rattle.dsde_language.specs.declared.known.Around.{Around}
use Rattle.dsde_language.specs.declared.seen.Binding.{Binding}
use Rattle.dsde_language.specs.declared.signatures.Port.{Port}
use Rattle.dsde_language.specs.declared.wrong.Wrong.{Wrong}
use Rattle.dsde_language.specs.declared.wrong.WrongKind.TheVariants.{Unknown, WrongType}
use Rattle.dsde_language.specs.Steps.{◌>>=◌, unless, wrong}
use Rattle.dsde_language.specs.RuleTables.{port_name}
use Rattle.dsde_language.specs.Judge.{Judge, Scope, bound_to}
use Rattle.dsde_language.specs.Blocks.{Passed, may_set, send_of, send_to, set_of, set_to}
use Rattle.dsde_check_bodies.specs.Parts.{taken}

-- a value that is sent through the port that is found, if one is
abbrev sent : Id → Judge → Scope → Option Port → Result Passed Wrong
sent name value scope found = elim found [ None ↦ wrong Unknown name.at | Some port ↦ send_of name port value scope ]

pub sent_by : (ports : List Port) (name : Id) (value : Judge) (scope : Scope) (found : Option Port) → found ≡ named port_name ports name.name → sent name value scope found ≡ send_to ports name value scope
sent_by ports name value scope found is = ap (sent name value scope) is

-- an assignment to what is found, if anything is
abbrev assigned : Around → Id → Judge → Scope → Option Binding → Result Passed Wrong
assigned around name value scope found = elim found [ None ↦ wrong Unknown name.at | Some bound ↦ set_of around name bound value scope ]

pub set_by : (around : Around) (name : Id) (value : Judge) (scope : Scope) (found : Option Binding) → found ≡ bound_to scope name.name → assigned around name value scope found ≡ set_to around name value scope
set_by around name value scope found is = ap (assigned around name value scope) is

-- an assignment, behind the test that the name may be assigned to
pub set_went : (around : Around) (name : Id) (bound : Binding) (own : Ty) (value : Judge) (scope : Scope) (went : Unit {0}) → unless (not (may_set around bound.kind)) WrongType name.at ≡ Ok went → own ≡ bound.ty → taken own value scope ≡ set_of around name bound value scope
set_went around name bound own value scope went is same =
    ap (λ ty. taken ty value scope) same ∙ sym (ap (λ test. test >>= (λ _. taken bound.ty value scope)) is)
