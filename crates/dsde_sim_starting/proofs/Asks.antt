-- How far the components of a network have answered.
use Rattle.std.proofs.Math.Seq.{drop-cons}
use Rattle.std.proofs.Common.{◌≡◌, ℕ, ◌+◌, ◌<◌, length, drop, take, get_or, add-one, List, [], ◌∷◌, ◌++◌, map, refl, sym, ap, subst, ◌∙◌, Result, Ok}
use Rattle.std.specs.List.{AllByRecursion}
use Rattle.std.proofs.lemmas.List.{get_or-map, length-map, map-append, take_more}
use Rattle.dsde_language.specs.given.syntax.decl_Model.{Model}
use Rattle.dsde_values.specs.declared.name.Name.{Name}
use Rattle.dsde_values.specs.declared.path.Path.{Path}
use Rattle.dsde_sim_tree.specs.given.formalism.System.{Ports}
use Rattle.dsde_sim_tree.specs.given.structure.sources_Given.{Given}
use Rattle.dsde_sim_tree.specs.declared.fault.TurnEnd.{TurnEnd}
use Rattle.dsde_sim_tree.specs.Told.{below}
use Rattle.dsde_executive.specs.given.system.Program.{system}
use Rattle.dsde_executive.specs.given.system.Plans.{FitsGiven}
use Rattle.dsde_sim_tree.specs.declared.sim.Kid.{Kid}
use Rattle.dsde_sim_tree.specs.declared.sim.Sim.TheFolds.{fold-roll-Kid}
use Rattle.dsde_sim_tree.specs.declared.sim.Sim.TheViews.{out-Kid, roll-out-Kid}
use Rattle.dsde_sim_tree.specs.Tree.{model_of, entry_of}
use Rattle.dsde_sim_tree.specs.Output.{◌>>=◌, Answer, KidAnswer, output, output_step, output_kid, output_net, kid_output, asked}
use Rattle.dsde_sim_starting.specs.Fitting.{FitsSent}

abbrev pub kid_name : Kid → Name
kid_name kid = (out-Kid kid).name

abbrev pub given_name : Given → Name
given_name own = own.name

-- Those before an index have answered.
pub record HaveAnswered (model : Model) (kids : List Kid) (path : Path) (time index : ℕ) (done : List Given) : Type 0 where
  pub goes : asked (map (kid_output (system model)) (drop index kids)) path time done ≡ asked (map (kid_output (system model)) kids) path time []
  pub fits : AllByRecursion (FitsGiven model (map entry_of kids)) done
  pub names : map given_name done ≡ map kid_name (take index kids)

each-append : {A : Type 0} (P : A → Type 0) (xs : List A) (x : A) → AllByRecursion P xs → P x → AllByRecursion P (xs ++ x ∷ [])
each-append P [] x each here = (here, tt)
each-append P (y ∷ xs) x each here = (each.0, each-append P xs x each.1 here)

-- what a component answers
abbrev pub given_of : Kid → Ports → Given
given_of kid ports = record { name = kid_name kid; ports = ports }

kid-answers : (model : Model) (kid : Kid) (path : Path) (time : ℕ) (ports : Ports)
    → output (system model) (out-Kid kid).sim (below path (kid_name kid)) time ≡ Ok ports → kid_output (system model) kid path time ≡ Ok (given_of kid ports)
kid-answers model kid path time ports is =
    let s = system model in
    let answer : Result Ports TurnEnd → Result Given TurnEnd = λ r. r >>= (λ own. Ok (given_of kid own)) in
    ap (λ (k : Kid). kid_output s k path time) (sym (roll-out-Kid kid))
    ∙ ap (λ (own : KidAnswer). own path time) (fold-roll-Kid Answer KidAnswer Answer (output_step s) output_kid (output_net s) (out-Kid kid))
    ∙ ap answer is

-- an entry is that of the component at an index
entry-at : (kids : List Kid) (index : ℕ) (kid : Kid) → index < length kids → kid ≡ get_or kids index kid → get_or (map entry_of kids) index (entry_of kid) ≡ entry_of kid
entry-at kids index kid within is = get_or-map entry_of kids index kid (entry_of kid) within ∙ ap entry_of (sym is)

module _ (model : Model) (kids : List Kid) (path : Path) (time index : ℕ) (done : List Given) (so_far : HaveAnswered model kids path time index done)
    (kid : Kid) (within : index < length kids) (is : kid ≡ get_or kids index kid) (ports : Ports)
    (comes : output (system model) (out-Kid kid).sim (below path (kid_name kid)) time ≡ Ok ports) (sent : FitsSent model (model_of (out-Kid kid).sim).0 ports) where
  fits-given : FitsGiven model (map entry_of kids) (given_of kid ports)
  fits-given = record {
    ports = _;
    are = record {
      entry = entry_of kid;
      among = (index, subst (λ (n : ℕ). index < n) (sym (length-map kids entry_of)) within, entry-at kids index kid within is);
      named = refl;
      own = sent.own;
      found = sent.found;
      are = refl;
    };
    cover = sent.cover;
  }

  opened : drop index kids ≡ kid ∷ drop (index + 1) kids
  opened = rw (add-one, drop-cons kids index kid within, ← is)

  -- one more has answered
  pub answers : (more : List Given) → more ≡ done ++ given_of kid ports ∷ [] → HaveAnswered model kids path time (index + 1) more
  answers more is_more =
      let s = system model in
      let behind : List KidAnswer = map (kid_output s) (drop (index + 1) kids) in
      record {
        goes =
            ap (asked behind path time) is_more
            ∙ sym (ap (λ (r : Result Given TurnEnd). r >>= (λ given. asked behind path time (done ++ given ∷ []))) (kid-answers model kid path time ports comes))
            ∙ sym (ap (λ (own : List Kid). asked (map (kid_output s) own) path time done) opened)
            ∙ so_far.goes;
        fits = subst (AllByRecursion (FitsGiven model (map entry_of kids))) (sym is_more) (each-append (FitsGiven model (map entry_of kids)) done (given_of kid ports) so_far.fits fits-given);
        names =
            ap (map given_name) is_more
            ∙ map-append given_name done (given_of kid ports ∷ [])
            ∙ ap (λ (own : List Name). own ++ kid_name kid ∷ []) so_far.names
            ∙ sym (map-append kid_name (take index kids) (kid ∷ []))
            ∙ ap (map kid_name) (ap (λ (k : Kid). take index kids ++ k ∷ []) is ∙ sym (take_more kids index kid within));
      }
